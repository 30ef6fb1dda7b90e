pub mod Steps
pub mod Writes
pub mod Groups
pub mod theory
pub use Rattle.sled_nodes.specs as sled_nodes
pub use Rattle.sled_store.specs as sled_store
pub use Rattle.sled_model.specs as sled_model
pub use Rattle.tree_laws.specs as tree_laws
pub use Rattle.sled_tree.specs as sled_tree
