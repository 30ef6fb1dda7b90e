pub mod Crashing
pub mod Stopping
pub mod theory
pub use Rattle.sled_nodes.specs as sled_nodes
pub use Rattle.sled_store.specs as sled_store
pub use Rattle.sled_pages.specs as sled_pages
pub use Rattle.sled_model.specs as sled_model
pub use Rattle.tree_laws.specs as tree_laws
pub use Rattle.sled.specs as sled
pub use Rattle.machine_alone.specs as machine_alone
pub use Rattle.machine_shared.specs as machine_shared
pub use Rattle.sled_machine.specs as sled_machine
pub use Rattle.call_laws.specs as call_laws
pub use Rattle.example_parts.specs as example_parts
pub use Rattle.example_shared.specs as example_shared
