pub mod Record
pub mod Told
pub mod Locks
