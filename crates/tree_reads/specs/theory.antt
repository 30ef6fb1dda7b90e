pub mod Walk
pub mod Leaves
pub mod Cursor
pub mod Ranges
