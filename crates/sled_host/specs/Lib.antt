pub mod Event
pub mod Outcomes
pub mod Laws
pub mod Noted
pub mod Stops
pub mod Locks
pub mod Host
pub mod Asked
pub mod Pair
pub mod theory
pub use Rattle.sled_disk.specs as sled_disk
