pub mod Noting
pub mod Transacting
pub mod Reading
pub mod Orders
pub mod Scanning
pub mod Copied
pub mod Replying
