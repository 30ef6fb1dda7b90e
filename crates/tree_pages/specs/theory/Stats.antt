-- Of Stats, for inner functions and proofs. How large trees are.
use Rattle.std.specs.Prelude.{◌≡◌, ℕ, ◌+◌, max, length, Some}
use Rattle.sled_nodes.specs.Order.{Key}
use Rattle.sled_store.specs.State.{Nodes, State}
use Rattle.sled_model.specs.Maps.{Map}
use Rattle.tree_laws.specs.Contents.{page_numbers}
use Rattle.tree_laws.specs.Paths.{tree_pages, pages_under}
use Rattle.tree_pages.specs.Stats.{levels_under, tree_levels, tree_pairs, key_bytes_of, value_bytes_of}
use Rattle.tree_pages.specs.declared.stats.Height.{Height}
use Rattle.tree_pages.specs.declared.stats.Stats.{Stats}
use Rattle.tree_pages.specs.declared.stats.Weight.{Weight}

-- the levels and the pages under a root
pub record IsHeight (nodes : Nodes) (root : ℕ) (height : Height) : Type 0 where
  pub levels : height.levels ≡ levels_under page_numbers nodes (Some root)
  pub pages : height.pages ≡ pages_under page_numbers nodes (Some root)

-- the weight of pairs, added to an earlier one
pub record Weighs (before : Weight) (pairs : Map) (weight : Weight) : Type 0 where
  pub pairs_are : weight.pairs ≡ before.pairs + length pairs
  pub keys : weight.key_bytes ≡ before.key_bytes + key_bytes_of pairs
  pub values : weight.value_bytes ≡ before.value_bytes + value_bytes_of pairs

-- the statistics of one tree
pub record IsTree (s : State) (t : Key) (height : Height) (weight : Weight) : Type 0 where
  pub pages : height.pages ≡ tree_pages s t
  pub levels : height.levels ≡ tree_levels s t
  pub pairs : weight.pairs ≡ length (tree_pairs s t)
  pub keys : weight.key_bytes ≡ key_bytes_of (tree_pairs s t)
  pub values : weight.value_bytes ≡ value_bytes_of (tree_pairs s t)

-- one tree more
pub record Adds (old : Stats) (height : Height) (weight : Weight) (new : Stats) : Type 0 where
  pub trees : new.trees ≡ old.trees + 1
  pub pages : new.pages ≡ old.pages + height.pages
  pub levels : new.levels ≡ max old.levels height.levels
  pub pairs : new.pairs ≡ old.pairs + weight.pairs
  pub keys : new.key_bytes ≡ old.key_bytes + weight.key_bytes
  pub values : new.value_bytes ≡ old.value_bytes + weight.value_bytes
