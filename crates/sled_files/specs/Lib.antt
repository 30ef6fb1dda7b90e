pub mod Change
pub mod Header
pub mod Standing
pub mod Lasting
pub mod Flaws
pub mod Pending
pub mod Files
pub mod Opening
pub mod Stored
pub mod Snapshot
pub mod Raised
pub mod Codes
pub mod Laws
pub mod theory
pub use Rattle.sled_nodes.specs as sled_nodes
pub use Rattle.sled_store.specs as sled_store
pub use Rattle.sled_pages.specs as sled_pages
pub use Rattle.sled_disk.specs as sled_disk
pub use Rattle.sled_log.specs as sled_log
pub use Rattle.sled_bytes.specs as sled_bytes
