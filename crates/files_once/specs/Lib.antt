pub mod Mended
pub mod Lasting
pub use Rattle.sled_store.specs as sled_store
pub use Rattle.sled_pages.specs as sled_pages
pub use Rattle.sled_disk.specs as sled_disk
pub use Rattle.sled_log.specs as sled_log
pub use Rattle.sled_files.specs as sled_files
pub use Rattle.sled_once.specs as sled_once
