pub mod Serve
pub mod Session
