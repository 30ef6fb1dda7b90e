-- The pairs of a tree within two bounds.
use Rattle.std.specs.Prelude.{◌≡◌, ◌+◌, ◌&&◌, ℕ, Bool, true, false, cond, filter, length, List, [], ◌∷◌, ◌++◌, ◌⊎◌, Option, Some, None, Ok, Err, Result}
use Rattle.std.specs.Iterator.{Count, at_most}
use Rattle.std.specs.declared.ops.Bound.{Bound}
use Rattle.sled_nodes.specs.Order.{Key}
use Rattle.sled_nodes.specs.Among.{is_up_to, is_from}
use Rattle.sled_store.specs.State.{State, nodes_of}
use Rattle.sled_store.specs.Store.{Store}
use Rattle.sled_nodes.specs.declared.error.Error.{Error}
use Rattle.tree_laws.specs.Forest.{Tree, Forest, WellFormed}
use Rattle.tree_reads.specs.Walk.{RefusesWalk, once, for_each}

-- the pairs whose keys are within both bounds
abbrev pub pairs_within : Bound Key → Bound Key → List (Key × Key) → List (Key × Key)
pairs_within lo hi pairs = filter (λ e. is_from lo e.0 && is_up_to hi e.0) pairs

-- the pages are well formed, and the page is a tree's root
pub record IsRoot (s : State) (root : ℕ) : Type 0 where
  pub forest : Forest
  pub formed : WellFormed (nodes_of s) s.roots forest
  pub tree : Tree
  pub is : s.roots tree ≡ Some root

-- what is still to come of the tree with this root in these pages, and whether nothing more is given
pub record Coming (P : Type 0) : Type 0 where
  pub pages : P
  pub root : ℕ
  pub pairs : List (Key × Key)
  pub ended : Bool

-- Which of the pairs is taken, what is shown of it, and why a taking is refused
module _ {P A : Type 0} (store : P → Store) (splits : List (Key × Key) → Key × Key → List (Key × Key) → Type 0) (shows : Key × Key → A) (of : ℕ → ℕ) where
  -- none if there is none or it has ended; else one of the pairs, and the others are left. After none and after an error it has ended
  abbrev pub takes : Coming P → Option (Result A Error) → Coming P → Type 0
  takes old None new = ((old.pairs ≡ []) ⊎ (old.ended ≡ true)) × (new ≡ record old { ended = true })
  takes old (Some (Ok x)) new = (old.ended ≡ false) × (p : Key × Key) × (x ≡ shows p) × (rest : List (Key × Key)) × splits old.pairs p rest × (new ≡ record old { pairs = rest })
  takes old (Some (Err e)) new = (old.ended ≡ false) × (new ≡ record old { ended = true }) × RefusesWalk of (store old.pages) old.root e

abbrev pub is_first : List (Key × Key) → Key × Key → List (Key × Key) → Type 0
is_first all p rest = all ≡ p ∷ rest

abbrev pub is_last : List (Key × Key) → Key × Key → List (Key × Key) → Type 0
is_last all p rest = all ≡ rest ++ p ∷ []

-- the first of what is to come is taken, and what is shown of it is given
pub record TakesFirst {P A : Type 0} (store : P → Store) (shows : Key × Key → A) (old : Coming P) (given : Option (Result A Error)) (new : Coming P) : Type 0 where
  pub is : takes store is_first shows once old given new

-- the last is
pub record TakesLast {P A : Type 0} (store : P → Store) (shows : Key × Key → A) (old : Coming P) (given : Option (Result A Error)) (new : Coming P) : Type 0 where
  pub is : takes store is_last shows for_each old given new

abbrev pub whole : Key × Key → Key × Key
whole p = p

abbrev pub key_alone : Key × Key → Key
key_alone p = p.0

abbrev pub value_alone : Key × Key → Key
value_alone p = p.1

-- each pair comes once at most, and an error once
abbrev pub coming_count : {P : Type 0} → Coming P → Count
coming_count c = at_most (cond c.ended 0 (length c.pairs + 1))
