pub mod Wholes
pub mod Openings
pub mod Orders
pub mod Reads
pub mod Made
pub mod Stood
pub mod Scans
pub mod Values
pub mod WholeMade
pub mod History
pub mod Moments
pub mod Scanned
pub mod UnderWay
pub mod Crashes
pub mod Sound
pub mod Shared
pub mod Steps
pub mod UnderLock
pub mod Notes
pub mod WholeNotes
pub mod Replies
pub mod Fetches
pub mod Transactions
pub mod Transacted
pub mod Inside
pub mod RangePages
pub mod Gathered
pub mod Again
pub mod theory
pub use Rattle.sled_nodes.specs as sled_nodes
pub use Rattle.sled_store.specs as sled_store
pub use Rattle.sled_batch.specs as sled_batch
pub use Rattle.sled_model.specs as sled_model
pub use Rattle.sled_queues.specs as sled_queues
pub use Rattle.tree_laws.specs as tree_laws
pub use Rattle.scan_laws.specs as scan_laws
pub use Rattle.sled_tree.specs as sled_tree
pub use Rattle.tree_reads.specs as tree_reads
pub use Rattle.tree_pages.specs as tree_pages
pub use Rattle.tree_transactions.specs as tree_transactions
pub use Rattle.tree_steps.specs as tree_steps
pub use Rattle.sled.specs as sled
pub use Rattle.machine_alone.specs as machine_alone
