-- Whole calls, as contracts see what was made.
use Rattle.std.specs.Prelude.{ℕ, List}
use Rattle.sled_nodes.specs.Order.{Key}
use Rattle.sled_batch.specs.Batch.{Writes}
use Rattle.sled_model.specs.Collections.{Content}
use Rattle.sled_model.specs.declared.tree.Tree.{Tree}

-- a whole call by what it holds: a group its batches, and an import its collections, wherever their vectors are
pub data WholeValue : Type 0 where
  Flush : WholeValue
  PopMin : (tree : Tree) → WholeValue
  PopMax : (tree : Tree) → WholeValue
  Clear : (tree : Tree) → WholeValue
  Group : (batches : List (Tree × Writes)) → WholeValue
  OpenTree : (name : Key) → WholeValue
  DropTree : (name : Key) → WholeValue
  GenerateId : WholeValue
  Import : (all : List Content) → WholeValue
  Watch : (tree : Tree) (prefix : Key) → WholeValue
  Next : (subscriber : ℕ) → WholeValue
  Unsubscribe : (subscriber : ℕ) → WholeValue
