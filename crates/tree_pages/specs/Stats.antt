-- How large trees are.
use Rattle.std.specs.Prelude.{◌≡◌, ℕ, ◌+◌, max, List, [], length, unwrap_or, Option, Some, None, fold, sum_by}
use Rattle.sled_nodes.specs.Order.{Key}
use Rattle.sled_store.specs.State.{Nodes, State, nodes_of}
use Rattle.sled_model.specs.Maps.{Map}
use Rattle.tree_laws.specs.Contents.{page_numbers, first_of, trees_of}
use Rattle.tree_laws.specs.Paths.{tree_pages}
use Rattle.tree_pages.specs.declared.stats.Stats.{Stats}

-- how many levels there are from this page down by first pointers, at most so many
abbrev pub levels_under : ℕ → Nodes → Option ℕ → ℕ
levels_under ℕ.zero nodes p = 0
levels_under (ℕ.suc n) nodes None = 0
levels_under (ℕ.suc n) nodes (Some p) = levels_under n nodes (first_of (nodes p)) + 1

-- how many levels a tree has
abbrev pub tree_levels : State → Key → ℕ
tree_levels s t = levels_under page_numbers (nodes_of s) (s.roots t)

-- the pairs of a tree
abbrev pub tree_pairs : State → Key → Map
tree_pairs s t = unwrap_or (trees_of s t) []

-- the bytes of the keys of these pairs, and of their values
abbrev pub key_bytes_of : Map → ℕ
key_bytes_of pairs = sum_by (λ e. length e.0) pairs

abbrev pub value_bytes_of : Map → ℕ
value_bytes_of pairs = sum_by (λ e. length e.1) pairs

-- The statistics of these trees: how many they are, all their pages, the levels of the highest of them, and all their pairs, with the bytes
-- of the keys and of the values
pub record AreStats (s : State) (ts : List (Key × ℕ)) (stats : Stats) : Type 0 where
  pub trees : stats.trees ≡ length ts
  pub pages : stats.pages ≡ sum_by (λ t. tree_pages s t.0) ts
  pub levels : stats.levels ≡ fold (λ most t. max most (tree_levels s t.0)) 0 ts
  pub pairs : stats.pairs ≡ sum_by (λ t. length (tree_pairs s t.0)) ts
  pub keys : stats.key_bytes ≡ sum_by (λ t. key_bytes_of (tree_pairs s t.0)) ts
  pub values : stats.value_bytes ≡ sum_by (λ t. value_bytes_of (tree_pairs s t.0)) ts
