pub mod Words
pub mod Batch
pub mod Command
pub mod Print
pub mod Search
pub mod theory
pub use Rattle.sled_nodes.specs as sled_nodes
pub use Rattle.sled_batch.specs as sled_batch
pub use Rattle.sled_model.specs as sled_model
