pub mod Transfers
pub mod Jobs
pub mod Indexed
