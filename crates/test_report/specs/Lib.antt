pub use Rattle.sled_nodes.specs as sled_nodes
pub use Rattle.sled_disk.specs as sled_disk
pub use Rattle.sled_files.specs as sled_files
