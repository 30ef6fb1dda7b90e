pub mod Owning
pub mod Hearing
