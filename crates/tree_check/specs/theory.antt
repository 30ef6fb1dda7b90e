pub mod Tree
pub mod Walk
