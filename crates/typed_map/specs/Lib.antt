pub mod Typed
pub mod theory
pub use Rattle.sled_nodes.specs as sled_nodes
pub use Rattle.sled_store.specs as sled_store
pub use Rattle.sled_model.specs as sled_model
pub use Rattle.tree_reads.specs as tree_reads
pub use Rattle.sled.specs as sled
pub use Rattle.ordered_keys.specs as ordered_keys
