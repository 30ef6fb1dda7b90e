-- Of Leaves, for proofs. Searches along the leaves of a tree, and the leaves at which they are.
use Rattle.std.specs.Prelude.{◌≡◌, ℕ, ◌+◌, ◌≤◌, true, false, List, [], ◌∷◌, ◌++◌, length, flat_map, Some}
use Rattle.std.specs.declared.ops.Bound.{Bound}
use Rattle.sled_nodes.specs.Order.{Key, Below}
use Rattle.sled_nodes.specs.Among.{is_up_to, is_from}
use Rattle.sled_store.specs.State.{State, nodes_of}
use Rattle.sled_store.specs.declared.page.View.{View}
use Rattle.tree_laws.specs.Forest.{Tree, Forest, place, WellFormed, node_pairs}
use Rattle.tree_laws.specs.Paths.{tree_pages}
use Rattle.tree_reads.specs.Leaves.{IsRead}

-- no key below what begins within the target is within the lower bound
pub record StartsAt (lo target : Bound Key) : Type 0 where
  pub all : is_up_to target [] ≡ true
  pub below : (k m : Key) → is_up_to target m ≡ true → Below k m → is_from lo k ≡ false

-- A count is at a leaf: so many pairs are before it
pub record Counts (s : State) (root : ℕ) (v : View) (looked total : ℕ) : Type 0 where
  pub read : IsRead s v
  pub is : (w : Forest) → WellFormed (nodes_of s) s.roots w → (t : Tree) → s.roots t ≡ Some root
      → (before : List ℕ) × (behind : List ℕ) × (w.chain (place t 0) ≡ before ++ v.pid ∷ behind) × (looked + length behind ≤ tree_pages s t) × (total ≡ length (flat_map (λ p. node_pairs (nodes_of s p)) before))
