pub mod Roots
pub mod Lists
