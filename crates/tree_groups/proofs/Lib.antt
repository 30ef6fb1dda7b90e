pub mod Ways
pub mod Stepping
pub mod Writing
pub mod Ready
pub mod Grouping
