pub mod Export
pub mod Drops
pub mod Stats
