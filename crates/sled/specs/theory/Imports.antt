-- Of Imports, for inner functions and proofs. What comes of some of an import's parts.
use Rattle.std.specs.Prelude.{◌≡◌, ℕ, List, ◌∷◌, ◌++◌, length, Option, Some, None}
use Rattle.sled_store.specs.Store.{Store}
use Rattle.sled_nodes.specs.declared.error.Error.{Error}
use Rattle.sled_model.specs.Maps.{Maps, Merge}
use Rattle.sled_model.specs.Imports.{Part, Stop, DoesParts, refuses_part, tree_at}
use Rattle.sled_model.specs.State.{CallInFlight}
use Rattle.sled_model.specs.declared.tree.Tree.{Tree}
use Rattle.sled.specs.Values.{DbValue, state_of, db_state}
use Rattle.sled.specs.Direct.{LeavesAll, effects_until}
use Rattle.sled.specs.Imports.{grows_trees, PartRefusedBySteps, ImportsBySteps}
use Rattle.sled.specs.Parts.{told_parts}

module _ {P M : Type 0} (store : P → Store) (meant : M → Merge) where
  -- the tree is the one that its name has now
  pub record IsTreeNow (d : DbValue P M) (tree : Tree) : Type 0 where
    pub is : tree ≡ tree_at (db_state store meant d) tree.name

  -- these parts were done
  pub record PartsDone (old : DbValue P M) (parts : List Part) (new : DbValue P M) : Type 0 where
    pub maps : List Maps
    pub does : (slots : ℕ → Option CallInFlight) (given : ℕ) → DoesParts (state_of store meant old slots given) parts (state_of store meant new slots given) maps
    pub acts : effects_until None (store old.pages) (store new.pages)
    pub leaves : LeavesAll store maps None old new
    pub same : grows_trees old new
    pub did : ImportsBySteps store meant old parts new

  -- the first of them, so many, were done, and the next was refused
  pub record PartsStopped (old : DbValue P M) (parts : List Part) (count : ℕ) (e : Error) (new : DbValue P M) : Type 0 where
    pub maps : List Maps
    pub stop : Stop
    pub counted : count ≡ length stop.done
    pub all_parts : parts ≡ stop.done ++ stop.next ∷ stop.later
    pub mid : DbValue P M
    pub does : (slots : ℕ → Option CallInFlight) (given : ℕ) → DoesParts (state_of store meant old slots given) stop.done (state_of store meant mid slots given) maps
    pub refuses : (slots : ℕ → Option CallInFlight) (given : ℕ) → refuses_part (state_of store meant mid slots given) (store old.pages) (store new.pages) stop.next e
    pub stays : (slots : ℕ → Option CallInFlight) (given : ℕ) → state_of store meant new slots given ≡ state_of store meant mid slots given
    pub did : ImportsBySteps store meant old stop.done mid
    pub refused : PartRefusedBySteps store meant mid stop.next e new
    pub acts : effects_until (Some e) (store old.pages) (store new.pages)
    pub leaves : LeavesAll store maps None old new
    pub same : grows_trees old new

  -- .. and their number was returned so
  pub record PartsStoppedAfter (old : DbValue P M) (parts : List Part) (number : ℕ) (e : Error) (new : DbValue P M) : Type 0 where
    pub count : ℕ
    pub told : number ≡ told_parts count
    pub is : PartsStopped old parts count e new
