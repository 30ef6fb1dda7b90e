-- The names of the trees.
use Rattle.std.specs.Prelude.{◌≡◌, true, List, [], ◌∷◌, Some}
use Rattle.sled_store.specs.In.{In}
use Rattle.sled_nodes.specs.Order.{Key, Below}
use Rattle.sled_model.specs.State.{State, NamedTree}

-- each key is below all that follow it
abbrev pub Ascend : List Key → Type 0
Ascend [] = Unit {0}
Ascend (key ∷ later) = ((other : Key) → In other later → Below key other) × Ascend later

-- The database is open, and these are the names of all its trees, in order
pub record AreNames (s : State) (names : List Key) : Type 0 where
  pub is_open : s.is_open ≡ true
  pub ascend : Ascend names
  pub each : (name : Key) → In name names → (tree : NamedTree) × (s.trees name ≡ Some tree)
  pub all : (name : Key) (tree : NamedTree) → s.trees name ≡ Some tree → In name names
