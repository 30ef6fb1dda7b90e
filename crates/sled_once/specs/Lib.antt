pub mod Stages
pub mod Once
pub mod theory
pub use Rattle.sled_disk.specs as sled_disk
pub use Rattle.sled_log.specs as sled_log
pub use Rattle.sled_host.specs as sled_host
