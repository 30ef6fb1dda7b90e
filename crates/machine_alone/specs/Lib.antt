pub mod Values
pub mod CrashMaps
pub mod StepsInSlot
pub mod Ways
pub mod Step
pub mod Kept
pub mod Run
pub mod Ids
pub mod Hears
pub mod Scans
pub mod Finish
pub mod Sound
pub mod theory
pub use Rattle.sled_nodes.specs as sled_nodes
pub use Rattle.sled_store.specs as sled_store
pub use Rattle.sled_batch.specs as sled_batch
pub use Rattle.sled_model.specs as sled_model
pub use Rattle.sled_queues.specs as sled_queues
pub use Rattle.tree_laws.specs as tree_laws
pub use Rattle.scan_laws.specs as scan_laws
pub use Rattle.tree_reads.specs as tree_reads
pub use Rattle.sled_tree.specs as sled_tree
pub use Rattle.tree_quick.specs as tree_quick
pub use Rattle.tree_steps.specs as tree_steps
pub use Rattle.tree_transactions.specs as tree_transactions
pub use Rattle.sled.specs as sled
