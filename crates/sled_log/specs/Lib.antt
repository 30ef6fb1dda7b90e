pub mod Digest
pub mod Log
pub mod Append
pub mod Tear
pub mod Reading
pub mod theory
pub use Rattle.sled_disk.specs as sled_disk
