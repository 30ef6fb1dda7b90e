pub mod Store
pub use Rattle.sled_nodes.specs as sled_nodes
pub use Rattle.sled_store.specs as sled_store
pub use Rattle.sled_pages.specs as sled_pages
pub use Rattle.sled_model.specs as sled_model
pub use Rattle.tree_laws.specs as tree_laws
pub use Rattle.sled.specs as sled
pub use Rattle.line_words.specs as line_words
pub use Rattle.line_sessions.specs as line_sessions
pub use Rattle.shell_words.specs as shell_words
