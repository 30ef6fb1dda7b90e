pub mod Words
pub mod Input
