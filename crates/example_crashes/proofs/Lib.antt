pub mod Together
pub mod Finding
pub mod Handles
pub mod Stopping
