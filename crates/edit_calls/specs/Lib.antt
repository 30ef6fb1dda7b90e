pub mod Scans
pub mod Kept
pub use Rattle.sled_nodes.specs as sled_nodes
pub use Rattle.sled_store.specs as sled_store
pub use Rattle.sled_model.specs as sled_model
pub use Rattle.tree_laws.specs as tree_laws
pub use Rattle.scan_laws.specs as scan_laws
pub use Rattle.tree_check.specs as tree_check
pub use Rattle.sled_tree.specs as sled_tree
pub use Rattle.tree_steps.specs as tree_steps
pub use Rattle.sled.specs as sled
pub use Rattle.machine_alone.specs as machine_alone
