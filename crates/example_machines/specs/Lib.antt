pub mod Callers
pub mod Survive
pub mod Ids
pub mod Events
pub use Rattle.sled_nodes.specs as sled_nodes
pub use Rattle.sled_store.specs as sled_store
pub use Rattle.sled_pages.specs as sled_pages
pub use Rattle.sled_batch.specs as sled_batch
pub use Rattle.sled_model.specs as sled_model
pub use Rattle.sled_queues.specs as sled_queues
pub use Rattle.tree_laws.specs as tree_laws
pub use Rattle.tree_reads.specs as tree_reads
pub use Rattle.sled_tree.specs as sled_tree
pub use Rattle.tree_groups.specs as tree_groups
pub use Rattle.tree_steps.specs as tree_steps
pub use Rattle.sled.specs as sled
pub use Rattle.machine_alone.specs as machine_alone
pub use Rattle.ordered_keys.specs as ordered_keys
pub use Rattle.typed_map.specs as typed_map
pub use Rattle.example_parts.specs as example_parts
pub use Rattle.example_databases.specs as example_databases
