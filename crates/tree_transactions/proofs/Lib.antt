pub mod Overlaying
pub mod Attempting
