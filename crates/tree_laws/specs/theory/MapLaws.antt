-- The laws of the contents of all trees as a function of the state, as types.
use Rattle.std.specs.Prelude.{◌≡◌, ◌≢◌, ℕ, Bool, false, List, [], ◌∷◌, Option, Some, None, option_map}
use Rattle.sled_nodes.specs.Order.{Key}
use Rattle.sled_store.specs.State.{Action}
use Rattle.sled_store.specs.Store.{Store, now}
use Rattle.sled_nodes.specs.declared.node.Node.{Node}
use Rattle.sled_nodes.specs.declared.node.Data.TheVariants.{Leaf}
use Rattle.tree_laws.specs.Forest.{Tree, Forest, place, head, IsSized, contents}
use Rattle.tree_laws.specs.Contents.{trees_of}
use Rattle.tree_laws.specs.Snapshot.{Snapshot, snapshot_of, nodes_at, HasForest}
use Rattle.tree_laws.specs.Crashes.{IsValid, AddsCrashStates}
use Rattle.tree_laws.specs.theory.Crashes.{AddsAction}
use Rattle.tree_laws.specs.Stages.{IsOwn}
use Rattle.tree_laws.specs.theory.Drops.{IsLeft}
use Rattle.tree_laws.specs.theory.Laws.{StepsForest, no_forest, after_creation, after_drop}

-- the map of a tree is its contents, if the name has a root
abbrev pub MapLaw : Type 0
MapLaw = (m : Snapshot) (w : Forest) → HasForest m w → (t : Tree) → trees_of m.state t ≡ option_map (λ _. contents (nodes_at m) w t) (m.state.roots t)

-- if no tree's contents and no number change, the maps are the same
abbrev pub QuietLaw : Type 0
QuietLaw = (m : Snapshot) (w : Forest) (n : Snapshot) (v : Forest) → HasForest m w → HasForest n v → ((t : Tree) → n.numbers t ≡ m.numbers t)
    → ((t : Tree) → contents (nodes_at n) v t ≡ contents (nodes_at m) w t) → trees_of n.state ≡ trees_of m.state

-- if one tree's contents change so, and no other's and no number do, its map changes so and no other does
abbrev pub ChangedLaw : Type 0
ChangedLaw = (m : Snapshot) (w : Forest) (n : Snapshot) (v : Forest) (t : Tree) (change : List (Key × Key) → List (Key × Key)) → HasForest m w → HasForest n v → ((u : Tree) → n.numbers u ≡ m.numbers u)
    → contents (nodes_at n) v t ≡ change (contents (nodes_at m) w t) → ((u : Tree) → u ≢ t → contents (nodes_at n) v u ≡ contents (nodes_at m) w u)
    → (trees_of n.state t ≡ option_map change (trees_of m.state t)) × ((u : Tree) → u ≢ t → trees_of n.state u ≡ trees_of m.state u)

-- the state at a moment has the shape of a forest, and its size if the forest has it
abbrev pub WellLaw : Type 0
WellLaw = (m : Snapshot) (w : Forest) → HasForest m w → IsSized (nodes_at m) w → IsValid m.state

-- an action outside every group that no tree's contents show adds no trees to what a crash may leave
abbrev pub QuietCrashLaw : Type 0
QuietCrashLaw = (act : Action) (a b : Store) (numbers : Tree → Option ℕ) (given : ℕ → Bool) (w v : Forest) → AddsAction act a b → (now a).in_group ≡ false → (now b).in_group ≡ false
    → HasForest (snapshot_of a numbers given) w → HasForest (snapshot_of b numbers given) v → IsSized (nodes_at (snapshot_of b numbers given)) v
    → ((t : Tree) → contents (nodes_at (snapshot_of b numbers given)) v t ≡ contents (nodes_at (snapshot_of a numbers given)) w t) → AddsCrashStates [] a b

-- an empty leaf with empty bounds
pub record IsEmptyLeaf (n : Node) : Type 0 where
  pub lo : n.lo ≡ []
  pub hi : n.hi ≡ []
  pub next : n.next ≡ None
  pub merging : n.merging ≡ false
  pub merging_child : n.merging_child ≡ None
  pub content : n.content ≡ Leaf []

-- the tree t came, and is empty; every other tree is as it was
pub record Planted (m : Snapshot) (w : Forest) (new : Snapshot) (t : Tree) (r : ℕ) : Type 0 where
  pub after : Forest
  pub steps : StepsForest (r ∷ []) None m w new after
  pub here : contents (nodes_at new) after t ≡ []
  pub others : (u : Tree) → u ≢ t → contents (nodes_at new) after u ≡ contents (nodes_at m) w u
  pub sized : IsSized (nodes_at m) w → IsSized (nodes_at new) after
  pub map_here : trees_of new.state t ≡ Some []
  pub map_others : (u : Tree) → u ≢ t → trees_of new.state u ≡ trees_of m.state u

-- a new name gets for its root an empty leaf that is the call's own, and a number that was never given
abbrev pub PlantsLaw : Type 0
PlantsLaw = (m : Snapshot) (w : Forest) (t : Tree) (r version number : ℕ) (n : Node) → HasForest m w → m.numbers t ≡ None → m.given number ≡ false → IsOwn m w r version n → IsEmptyLeaf n
    → Planted m w (after_creation m t r number) t r

-- the tree t went; every other tree is as it was, and the chains of t are left to be freed
pub record Dropped (m : Snapshot) (w : Forest) (new : Snapshot) (t : Tree) : Type 0 where
  pub after : Forest
  pub steps : StepsForest [] (Some t) m w new after
  pub others : (u : Tree) → u ≢ t → contents (nodes_at new) after u ≡ contents (nodes_at m) w u
  pub sized : IsSized (nodes_at m) w → IsSized (nodes_at new) after
  pub map_here : trees_of new.state t ≡ None
  pub map_others : (u : Tree) → u ≢ t → trees_of new.state u ≡ trees_of m.state u
  pub left : (h : ℕ) → IsLeft new after w t h (head (w.chain (place t h))) (w.chain (place t h))

abbrev pub DropsLaw : Type 0
DropsLaw = (m : Snapshot) (w : Forest) (t : Tree) → HasForest m w → Dropped m w (after_drop m t) t

-- a store with no page, no root and no number
abbrev pub NewLaw : Type 0
NewLaw = (m : Snapshot) → ((p : ℕ) → m.state.pages p ≡ None) → ((t : Tree) → m.state.roots t ≡ None) → ((t : Tree) → m.numbers t ≡ None) → HasForest m no_forest × IsSized (nodes_at m) no_forest
