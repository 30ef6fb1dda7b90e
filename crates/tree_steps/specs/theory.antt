pub mod Watched
pub mod Outcomes
