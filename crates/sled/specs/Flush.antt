-- A flush of a database.
use Rattle.std.specs.Prelude.{◌≡◌, ℕ, [], ◌∷◌, Option, None}
use Rattle.sled_store.specs.Store.{Store, now, after_flush, only_faults}
use Rattle.sled_store.specs.Crash.{crash_states}
use Rattle.sled_nodes.specs.declared.error.Error.{Error}
use Rattle.sled_model.specs.Maps.{Merge}
use Rattle.sled_model.specs.State.{CallInFlight, maps_of}
use Rattle.sled_model.specs.Refusal.{MayRefuse, must_refuse, ToCall}
use Rattle.sled_model.specs.declared.call.Whole.TheVariants.{Flush}
use Rattle.tree_laws.specs.Contents.{trees_of}
use Rattle.sled.specs.Values.{DbValue, state_of, db_state}
use Rattle.sled.specs.Sound.{IsDb}

-- The database was open, all that was decided is durable, and nothing else changes; the number is the store's
pub record FlushesDb {P M : Type 0} (store : P → Store) (flush_number : P → ℕ) (meant : M → Merge) (old : DbValue P M) (number : ℕ) (new : DbValue P M) : Type 0 where
  pub free : must_refuse (db_state store meant old) (ToCall Flush) ≡ None
  pub answers : number ≡ flush_number old.pages
  pub is : store new.pages ≡ after_flush (store old.pages)
  pub sound : IsDb store old → IsDb store new
  pub same : new ≡ record old { pages = new.pages }
  -- a crash can leave the state now alone, whose contents are the maps
  pub left : crash_states (store new.pages) ≡ now (store new.pages) ∷ []
  pub maps : trees_of (now (store new.pages)) ≡ maps_of (db_state store meant new)

-- refused for a cause, and nothing is flushed
pub record RefusesFlush {P M : Type 0} (store : P → Store) (meant : M → Merge) (old new : DbValue P M) (e : Error) : Type 0 where
  pub may : (slots : ℕ → Option CallInFlight) (slots_given : ℕ) → MayRefuse (state_of store meant old slots slots_given) (store old.pages) (store new.pages) (ToCall Flush) e
  pub is : only_faults e (store old.pages) (store new.pages)
  pub sound : IsDb store old → IsDb store new
  pub same : new ≡ record old { pages = new.pages }
