-- The outcome of the removal of all keys within two bounds.
use Rattle.std.specs.Prelude.{◌≡◌, ℕ, List, [], ◌∷◌, length, map, Option, Some, None}
use Rattle.std.specs.declared.ops.Bound.{Bound}
use Rattle.sled_nodes.specs.Order.{Key}
use Rattle.sled_batch.specs.Batch.{Writes}
use Rattle.sled_store.specs.Store.{Store}
use Rattle.sled_model.specs.Maps.{Map, Merge}
use Rattle.sled_model.specs.State.{NamedTree}
use Rattle.sled_model.specs.declared.tree.Tree.{Tree}
use Rattle.tree_reads.specs.Ranges.{pairs_within}
use Rattle.sled.specs.Values.{DbValue, db_state}
use Rattle.sled.specs.Groups.{GroupDecided}

-- the removals of the keys of these pairs
abbrev pub removals : Map → Writes
removals pairs = map (λ e. (e.0, None)) pairs

-- the removals of the keys of a tree within two bounds; none if there is no tree
abbrev pub removals_within : Bound Key → Bound Key → Option NamedTree → Writes
removals_within lo hi None = []
removals_within lo hi (Some t) = removals (pairs_within lo hi t.map)

module _ {P M : Type 0} (store : P → Store) (meant : M → Merge) (old : DbValue P M) (tree : Tree) (lo hi : Bound Key) where
  -- the group that removes them
  abbrev pub range_group : List (Tree × Writes)
  range_group = (tree, removals_within lo hi ((db_state store meant old).trees tree.name)) ∷ []

  -- the keys of the tree within the bounds were removed as one group, and so many they were
  pub record RangeRemoved (count : ℕ) (new : DbValue P M) : Type 0 where
    pub counts : count ≡ length (removals_within lo hi ((db_state store meant old).trees tree.name))
    pub group : GroupDecided store meant old range_group new
