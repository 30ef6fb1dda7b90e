pub mod Walk
pub mod Leaves
pub mod Cursor
pub mod Ranges
pub mod Prefixes
pub mod theory
pub use Rattle.sled_nodes.specs as sled_nodes
pub use Rattle.sled_store.specs as sled_store
pub use Rattle.tree_laws.specs as tree_laws
