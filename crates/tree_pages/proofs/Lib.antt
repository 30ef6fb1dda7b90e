pub mod Walks
pub mod Dropping
pub mod Sizing
