pub use Rattle.sled_nodes.specs as sled_nodes
pub use Rattle.sled_store.specs as sled_store
pub use Rattle.sled_pages.specs as sled_pages
pub use Rattle.sled_model.specs as sled_model
pub use Rattle.line_words.specs as line_words
pub use Rattle.ordered_keys.specs as ordered_keys
pub use Rattle.shell_words.specs as shell_words
