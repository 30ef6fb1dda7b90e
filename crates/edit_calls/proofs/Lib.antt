pub mod Dropped
pub mod Keeping
pub mod Refusing
pub mod Scanning
