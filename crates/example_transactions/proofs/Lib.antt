pub mod Made
pub mod Recovering
pub mod Attempted
pub mod Transferring
pub mod Jobbing
pub mod Indexing
