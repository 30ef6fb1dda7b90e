pub mod Typing
pub mod Walking
pub mod Listing
pub mod Refusing
