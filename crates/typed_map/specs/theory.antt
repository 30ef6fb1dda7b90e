pub mod Spelling
pub mod Typed
