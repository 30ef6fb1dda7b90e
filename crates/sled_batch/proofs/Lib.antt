pub mod Writing
pub mod Copying
