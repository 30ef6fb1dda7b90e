pub mod Blocks
pub mod Ending
pub mod Reading
pub mod Going
pub mod Handing
