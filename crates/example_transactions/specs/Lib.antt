pub mod Throughout
pub mod Transfers
pub mod Jobs
pub mod Indexed
pub mod theory
pub use Rattle.sled_nodes.specs as sled_nodes
pub use Rattle.sled_store.specs as sled_store
pub use Rattle.sled_pages.specs as sled_pages
pub use Rattle.sled_batch.specs as sled_batch
pub use Rattle.sled_model.specs as sled_model
pub use Rattle.tree_laws.specs as tree_laws
pub use Rattle.tree_transactions.specs as tree_transactions
pub use Rattle.sled.specs as sled
pub use Rattle.example_parts.specs as example_parts
