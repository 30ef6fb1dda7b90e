pub mod Bytes
pub mod Order
pub mod Apart
pub mod Reading
pub mod Parts
