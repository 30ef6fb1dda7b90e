-- How many parts a call did that is done in parts: how many keys a clear removed, and how many names an import opened and pairs it put.
use mathlib.Core.Logic.{inl, inr}
use Rattle.std.specs.Prelude.{◌≡◌, ◌⊎◌, ℕ, min, List, length, Option}
use Rattle.sled_store.specs.Store.{Store}
use Rattle.sled_nodes.specs.declared.error.Error.{Error}
use Rattle.sled_model.specs.Maps.{Maps, Merge}
use Rattle.sled_model.specs.Collections.{Content}
use Rattle.sled_model.specs.Imports.{parts_of}
use Rattle.sled_model.specs.State.{CallInFlight}
use Rattle.sled_model.specs.Whole.{RemovesLeast}
use Rattle.sled_model.specs.declared.tree.Tree.{Tree}
use Rattle.sled.specs.Values.{DbValue, state_of}
use Rattle.sled.specs.Imports.{ImportStops, ImportRefused}

-- the greatest number of parts that is returned: it means as many or more
abbrev pub most_parts : ℕ
most_parts = 18446744073709551615

-- how a number of parts is returned
abbrev pub told_parts : ℕ → ℕ
told_parts parts = min parts most_parts

-- An import did all its parts, which are so many
pub record ImportsParts (all : List Content) (number : ℕ) : Type 0 where
  pub told : number ≡ told_parts (length (parts_of all))

module _ {P M : Type 0} (store : P → Store) (meant : M → Merge) where
  -- A clear did so many parts: each removed the least key that was left
  pub record ClearsParts (old : DbValue P M) (tree : Tree) (number : ℕ) (new : DbValue P M) : Type 0 where
    pub parts : ℕ
    pub told : number ≡ told_parts parts
    pub maps : List Maps
    pub removes : (slots : ℕ → Option CallInFlight) (slots_given : ℕ) → RemovesLeast tree (state_of store meant old slots slots_given) parts (state_of store meant new slots slots_given) maps

  -- the number of parts that were done before the one at which an import stopped; none if it was refused before its first
  abbrev pub parts_before : {A : Type 0} {old new : DbValue P M} {all : List Content} {e : Error} {maps : List Maps} → A ⊎ ImportStops store meant old all e new maps → ℕ
  parts_before (inl at_once) = 0
  parts_before (inr stops) = length stops.stop.done

  -- An import was refused after so many parts
  pub record ImportRefusedAfter (old : DbValue P M) (all : List Content) (number : ℕ) (e : Error) (new : DbValue P M) : Type 0 where
    pub is : ImportRefused store meant old all e new
    pub told : number ≡ told_parts (parts_before is.refuses)
