pub mod theory
pub use Rattle.sled_nodes.specs as sled_nodes
pub use Rattle.sled_model.specs as sled_model
