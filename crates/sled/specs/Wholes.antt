-- What whole calls promise of the maps and the queues, part by part. `Direct`, `Imports` and `Groups` have all that is said of each as two
-- records, of an answer and of a refusal.
use Rattle.std.specs.Prelude.{◌≡◌, ◌≢◌, ◌⊎◌, ℕ, List, [], ◌∷◌, map, Option, None, Result, Ok, Err}
use Rattle.sled_nodes.specs.Order.{Key}
use Rattle.sled_batch.specs.Batch.{Writes}
use Rattle.sled_store.specs.In.{In}
use Rattle.sled_store.specs.Crash.{crash_states}
use Rattle.sled_store.specs.Store.{Store}
use Rattle.sled_nodes.specs.declared.error.Error.{Error}
use Rattle.sled_model.specs.Maps.{Maps, Merge}
use Rattle.sled_model.specs.Groups.{Closes}
use Rattle.sled_model.specs.Refusal.{must_refuse_of, trees_of_batches, cause_of_walk, may_refuse_as}
use Rattle.sled_model.specs.State.{Queue, maps_of}
use Rattle.sled_model.specs.declared.tree.Tree.{Tree}
use Rattle.tree_laws.specs.Contents.{trees_of}
use Rattle.sled.specs.Values.{DbValue, db_state}
use Rattle.sled.specs.Direct.{LeavesAll}

module _ {P M : Type 0} (store : P → Store) (meant : M → Merge) where
  -- ---- what a call changes

  -- every name has the map that it had, if it had one
  abbrev pub KeepsMaps : DbValue P M → DbValue P M → Type 0
  KeepsMaps old new = maps_of (db_state store meant new) ≡ maps_of (db_state store meant old)

  -- the queue of a subscriber, if it has one
  abbrev pub queue_in : DbValue P M → ℕ → Option Queue
  queue_in d subscriber = (db_state store meant d).queues subscriber

  -- every other subscriber has the queue that it had
  abbrev pub KeepsOthers : ℕ → DbValue P M → DbValue P M → Type 0
  KeepsOthers subscriber old new = (other : ℕ) → other ≢ subscriber → queue_in new other ≡ queue_in old other

  -- A group is refused, with its cause. The state stays as it was, or the database is closed
  pub record RefusesGroup (old : DbValue P M) (batches : List (Tree × Writes)) (e : Error) (new : DbValue P M) : Type 0 where
    pub why : may_refuse_as (must_refuse_of (db_state store meant old) (trees_of_batches batches)) (cause_of_walk (store old.pages) (store new.pages)) e
    pub is : (db_state store meant new ≡ db_state store meant old) ⊎ Closes (db_state store meant old) (db_state store meant new)

  -- ---- what it leaves of all else

  -- a crash may leave more maps than before, and of each of them this is so; and of a tree that is dropped pages are lost
  pub record LeavesMaps (claim : Maps → Type 0) (lost : Option Key) (old new : DbValue P M) : Type 0 where
    pub maps : List Maps
    pub each : (m : Maps) → In m maps → claim m
    pub leaves : LeavesAll store maps lost old new

  -- they are the maps after the call
  abbrev pub LeavesAfter : Option Key → DbValue P M → DbValue P M → Type 0
  LeavesAfter lost old new = LeavesMaps (λ m. m ≡ maps_of (db_state store meant new)) lost old new

  -- .. if it was decided, and else there are none
  abbrev pub leaves_whole_as : {A : Type 0} → Result A Error → DbValue P M → DbValue P M → Type 0
  leaves_whole_as (Ok answer) old new = LeavesAfter None old new
  leaves_whole_as (Err e) old new = LeavesAll store [] None old new

  -- after a flush a crash can leave the maps of now alone, and after one that is refused what it could before
  abbrev pub leaves_flushed_as : {A : Type 0} → Result A Error → DbValue P M → DbValue P M → Type 0
  leaves_flushed_as (Ok number) old new = map trees_of (crash_states (store new.pages)) ≡ maps_of (db_state store meant new) ∷ []
  leaves_flushed_as (Err e) old new = crash_states (store new.pages) ≡ crash_states (store old.pages)
