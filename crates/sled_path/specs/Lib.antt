pub mod Path
pub mod Once
pub use Rattle.sled_nodes.specs as sled_nodes
pub use Rattle.sled_store.specs as sled_store
pub use Rattle.sled_disk.specs as sled_disk
pub use Rattle.sled_model.specs as sled_model
pub use Rattle.sled_files.specs as sled_files
pub use Rattle.sled_host.specs as sled_host
pub use Rattle.sled_once.specs as sled_once
pub use Rattle.files_once.specs as files_once
pub use Rattle.sled.specs as sled
