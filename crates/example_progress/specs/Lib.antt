pub mod Turns
pub use Rattle.sled_nodes.specs as sled_nodes
pub use Rattle.sled_store.specs as sled_store
pub use Rattle.sled_model.specs as sled_model
pub use Rattle.move_laws.specs as move_laws
pub use Rattle.sled.specs as sled
pub use Rattle.machine_alone.specs as machine_alone
pub use Rattle.machine_laws.specs as machine_laws
