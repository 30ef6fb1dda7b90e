mod Spelling
mod Plain
mod Numbers
pub mod Searching
pub mod Lines
mod Parts
mod Shortest
mod Batching
