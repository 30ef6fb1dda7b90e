pub mod In
pub mod Update
pub mod State
pub mod Store
pub mod Crash
pub mod Faults
pub mod theory
pub mod Roots
pub use Rattle.sled_nodes.specs as sled_nodes
