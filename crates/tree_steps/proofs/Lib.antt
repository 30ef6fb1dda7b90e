pub mod Watching
pub mod KeptSteps
pub mod Unkept
