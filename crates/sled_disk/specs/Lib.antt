pub mod Disk
pub mod Choices
pub mod Calls
pub mod Chosen
pub mod Laws
pub mod Refusals
pub mod Memory
