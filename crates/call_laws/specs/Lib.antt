pub mod Calls
pub mod Hears
pub mod Laws
pub use Rattle.sled_nodes.specs as sled_nodes
pub use Rattle.sled_store.specs as sled_store
pub use Rattle.sled_batch.specs as sled_batch
pub use Rattle.sled_model.specs as sled_model
pub use Rattle.sled_queues.specs as sled_queues
pub use Rattle.tree_laws.specs as tree_laws
pub use Rattle.tree_pages.specs as tree_pages
pub use Rattle.tree_transactions.specs as tree_transactions
pub use Rattle.sled.specs as sled
pub use Rattle.machine_alone.specs as machine_alone
pub use Rattle.machine_shared.specs as machine_shared
