pub mod Errors
pub mod Ids
pub mod Overlays
pub mod Trees
pub mod Attempts
pub mod Transactions
pub mod Changes
pub mod Positions
pub mod theory
pub use Rattle.sled_nodes.specs as sled_nodes
pub use Rattle.sled_store.specs as sled_store
pub use Rattle.sled_batch.specs as sled_batch
pub use Rattle.sled_model.specs as sled_model
pub use Rattle.tree_reads.specs as tree_reads
