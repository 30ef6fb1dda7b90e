pub mod Rows
pub mod Blocks
pub mod Slots
pub mod Parts
pub mod Table
pub mod Memory
pub mod Image
pub mod Numbered
pub mod Building
pub mod Rebuild
pub mod Joined
pub mod theory
pub use Rattle.sled_nodes.specs as sled_nodes
pub use Rattle.sled_store.specs as sled_store
