pub mod Maps
pub mod Event
pub mod Ids
pub mod Answer
pub mod Backlog
pub mod State
pub mod Scan
pub mod Collections
pub mod Queues
pub mod Refusal
pub mod Whole
pub mod Groups
pub mod Imports
pub mod Transition
pub mod Runs
pub use Rattle.sled_nodes.specs as sled_nodes
pub use Rattle.sled_store.specs as sled_store
pub use Rattle.sled_batch.specs as sled_batch
