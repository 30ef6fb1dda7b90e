pub mod Stepping
pub mod Scanning
