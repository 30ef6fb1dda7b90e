pub mod Recording
pub mod Transacted
pub mod Heard
pub mod Hearing
