-- Stores whose every state that a crash may leave is well formed, and what an action adds to those states.
use Rattle.std.specs.Prelude.{◌≡◌, ◌+◌, ◌⊎◌, List, [], ◌∷◌, ◌++◌, Option, length, map}
use Rattle.sled_nodes.specs.Order.{Key}
use Rattle.sled_store.specs.In.{In}
use Rattle.sled_store.specs.State.{State, Action, nodes_of}
use Rattle.sled_store.specs.Store.{Store, now}
use Rattle.sled_store.specs.Crash.{crash_states}
use Rattle.tree_laws.specs.Forest.{Tree, Forest, WellFormed, IsSized}
use Rattle.tree_laws.specs.Contents.{trees_of}

-- the pages and roots have the shape of a forest, and its size
pub record IsValid (s : State) : Type 0 where
  pub forest : Forest
  pub formed : WellFormed (nodes_of s) s.roots forest
  pub sized : IsSized (nodes_of s) forest

-- each state that a crash may leave has the shape and the size
pub record IsCrashConsistent (s : Store) : Type 0 where
  pub whole : (x : State) → In x (crash_states s) → IsValid x

-- xs is `once`, but that elements of it may be several times in a row
abbrev pub Stutters : {X : Type 0} → List X → List X → Type 0
Stutters [] [] = Unit {0}
Stutters [] (x ∷ xs) = ⊥
Stutters (a ∷ once) [] = ⊥
Stutters (a ∷ once) (x ∷ xs) = (a ≡ x) × (Stutters once xs ⊎ Stutters (a ∷ once) xs)

-- the two lists are the same once each run of equal neighbours is taken once
pub record StutterEquivalent {X : Type 0} (xs ys : List X) : Type 0 where
  pub once : List X
  pub left : Stutters once xs
  pub right : Stutters once ys

-- the contents of every tree, none for a name that has no root
abbrev pub Trees : Type 0
Trees = Tree → Option (List (Key × Key))

-- What is kept since the last flush grows: the base stays, actions are added and counted, and the trees after the states that a crash may
-- leave go on by these, in order. All of those states have the shape and the size of a forest if they had them before
pub record AddsCrashStates (maps : List Trees) (a b : Store) : Type 0 where
  pub base : b.base ≡ a.base
  pub added : List Action
  pub recent : b.recent ≡ a.recent ++ added
  pub actions : b.actions ≡ a.actions + length added
  pub grew : StutterEquivalent (map trees_of (crash_states b)) (map trees_of (crash_states a) ++ maps)
  pub safe : IsCrashConsistent a → IsCrashConsistent b

-- all is flushed, and nothing else done: the state before is the base, and a crash can leave no other
pub record Flushes (a b : Store) : Type 0 where
  pub base : b.base ≡ now a
  pub recent : b.recent ≡ []
  pub actions : b.actions ≡ a.actions
