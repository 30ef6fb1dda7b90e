pub mod Survive
pub use Rattle.sled_nodes.specs as sled_nodes
pub use Rattle.sled_store.specs as sled_store
pub use Rattle.sled_model.specs as sled_model
pub use Rattle.tree_laws.specs as tree_laws
pub use Rattle.sled.specs as sled
pub use Rattle.machine_alone.specs as machine_alone
pub use Rattle.sled_disk.specs as sled_disk
pub use Rattle.sled_files.specs as sled_files
pub use Rattle.sled_host.specs as sled_host
pub use Rattle.sled_once.specs as sled_once
pub use Rattle.sled_path.specs as sled_path
pub use Rattle.example_parts.specs as example_parts
