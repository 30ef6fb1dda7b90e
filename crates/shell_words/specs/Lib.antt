pub mod Operators
pub use Rattle.sled_nodes.specs as sled_nodes
pub use Rattle.sled_store.specs as sled_store
pub use Rattle.sled_pages.specs as sled_pages
pub use Rattle.sled_batch.specs as sled_batch
pub use Rattle.sled_model.specs as sled_model
pub use Rattle.line_words.specs as line_words
