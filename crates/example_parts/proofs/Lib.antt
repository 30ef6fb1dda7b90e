pub mod Keys
pub mod Written
pub mod Added
pub mod Maps
pub mod Reading
