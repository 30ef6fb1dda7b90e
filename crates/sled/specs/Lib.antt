pub mod Values
pub mod Sound
pub mod Opens
pub mod Checked
pub mod Export
pub mod Calls
pub mod Names
pub mod Reads
pub mod Flights
pub mod Direct
pub mod Promises
pub mod Wholes
pub mod ManyKeys
pub mod Pops
pub mod Fetch
pub mod Flush
pub mod Groups
pub mod Removals
pub mod Imports
pub mod Parts
pub mod Ids
pub mod Transactions
pub mod Written
pub mod Operators
pub mod Watch
pub mod Drops
pub mod theory
pub use Rattle.sled_nodes.specs as sled_nodes
pub use Rattle.sled_store.specs as sled_store
pub use Rattle.sled_pages.specs as sled_pages
pub use Rattle.sled_batch.specs as sled_batch
pub use Rattle.sled_model.specs as sled_model
pub use Rattle.sled_queues.specs as sled_queues
pub use Rattle.tree_laws.specs as tree_laws
pub use Rattle.tree_check.specs as tree_check
pub use Rattle.tree_reads.specs as tree_reads
pub use Rattle.sled_tree.specs as sled_tree
pub use Rattle.tree_scans.specs as tree_scans
pub use Rattle.tree_groups.specs as tree_groups
pub use Rattle.tree_lists.specs as tree_lists
pub use Rattle.tree_pages.specs as tree_pages
pub use Rattle.tree_quick.specs as tree_quick
pub use Rattle.tree_steps.specs as tree_steps
pub use Rattle.tree_transactions.specs as tree_transactions
