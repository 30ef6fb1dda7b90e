-- What is left of a tree that was dropped.
use Rattle.std.specs.Prelude.{◌≡◌, ◌≢◌, ℕ, List, [], ◌∷◌, Option, Some, None}
use Rattle.sled_store.specs.In.{In}
use Rattle.sled_store.specs.State.{Nodes}
use Rattle.sled_nodes.specs.declared.node.Node.{Node}
use Rattle.tree_laws.specs.Forest.{Tree, Forest, place}
use Rattle.tree_laws.specs.Snapshot.{Snapshot, nodes_at, IsOrphan}

-- these live pages are one behind the other along `next`, and no more behind them
abbrev pub Leads : Nodes → Option ℕ → List ℕ → Type 0
Leads nodes from [] = from ≡ None
Leads nodes from (p ∷ ps) = (from ≡ Some p) × (n : Node) × (nodes p ≡ Some n) × Leads nodes n.next ps

-- the pages of a list are all different
abbrev pub Different : List ℕ → Type 0
Different [] = Unit {0}
Different (p ∷ ps) = ((q : ℕ) → In q ps → q ≢ p) × Different ps

-- Of a level of the dropped tree these pages are left, the first of them `from`: they have no home, and had one there in the
-- forest before the drop, so they are no call's own
pub record IsLeft (m : Snapshot) (w was : Forest) (t : Tree) (h : ℕ) (from : Option ℕ) (left : List ℕ) : Type 0 where
  pub leads : Leads (nodes_at m) from left
  pub different : Different left
  pub stray : (p : ℕ) → In p left → IsOrphan w p
  pub had : (p : ℕ) → In p left → was.home p ≡ Some (place t h)
