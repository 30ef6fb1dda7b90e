pub mod Values
pub mod Queues
pub mod Tells
pub mod Lists
pub mod Laws
pub mod Events
pub mod Hears
pub mod Copies
pub mod Turns
pub mod Trees
pub mod theory
pub use Rattle.sled_nodes.specs as sled_nodes
pub use Rattle.sled_store.specs as sled_store
pub use Rattle.sled_model.specs as sled_model
