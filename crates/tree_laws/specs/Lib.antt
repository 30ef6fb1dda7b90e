pub mod Forest
pub mod Contents
pub mod Action
pub mod Snapshot
pub mod Crashes
pub mod Stages
pub mod Paths
pub mod theory
pub use Rattle.sled_nodes.specs as sled_nodes
pub use Rattle.sled_store.specs as sled_store
