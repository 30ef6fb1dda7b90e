pub mod Keys
pub mod theory
pub use Rattle.sled_nodes.specs as sled_nodes
