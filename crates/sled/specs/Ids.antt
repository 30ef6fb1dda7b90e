-- Ids.
use Rattle.std.specs.Prelude.{◌≡◌, ℕ, ◌+◌, ◌<◌, ◌≤◌, true, false, [], Option, None}
use Rattle.sled_store.specs.Crash.{crash_states}
use Rattle.sled_store.specs.Store.{Store, now, is_refused_as}
use Rattle.sled_nodes.specs.declared.error.Error.{Error}
use Rattle.sled_nodes.specs.declared.error.Error.TheVariants.{Unsupported, Closed}
use Rattle.sled_nodes.specs.declared.texts.TheConstants.{IDS_USED_UP}
use Rattle.sled_model.specs.Maps.{Merge}
use Rattle.sled_model.specs.State.{CallInFlight}
use Rattle.sled_model.specs.Ids.{greatest_of_all, mark_above}
use Rattle.sled_model.specs.Refusal.{must_refuse_of}
use Rattle.sled.specs.Values.{DbValue, db_state, state_of}
use Rattle.sled.specs.Direct.{LeavesAll}

abbrev pub refuses_to_raise_as : Store → Error → Store → Type 0
refuses_to_raise_as old (Unsupported text) new = (text.now ≡ IDS_USED_UP.now) × (old.mark ≡ greatest_of_all) × (new ≡ old)
refuses_to_raise_as old e new = (old.mark < greatest_of_all) × is_refused_as e old new

-- no id is set aside, and all were given, or the store refuses to set more aside
pub record RefusesToRaise (greatest : ℕ) (old : Store) (e : Error) (new : Store) : Type 0 where
  pub none : old.mark ≤ greatest
  pub is : refuses_to_raise_as old e new

-- The database was open, and the id is one above the greatest that was given, and is set aside
pub record GivesId {P M : Type 0} (store : P → Store) (meant : M → Merge) (old : DbValue P M) (id : ℕ) (new : DbValue P M) : Type 0 where
  pub free : must_refuse_of (db_state store meant old) [] ≡ None
  pub next : id ≡ old.greatest_id + 1
  pub aside : id ≤ (store new.pages).mark
  pub is : store new.pages ≡ record (store old.pages) { mark = mark_above old.greatest_id (store old.pages).mark }
  pub same : new ≡ record old { pages = new.pages; greatest_id = id }
  pub state : (slots : ℕ → Option CallInFlight) (slots_given : ℕ) → state_of store meant new slots slots_given ≡ record (state_of store meant old slots slots_given) { greatest_id = id; mark = mark_above old.greatest_id (store old.pages).mark }
  pub leaves : LeavesAll store [] None old new
  pub left : crash_states (store new.pages) ≡ crash_states (store old.pages)

abbrev pub refuses_id_as : {P : Type 0} → (P → Store) → ℕ → P → Error → P → Type 0
refuses_id_as store greatest old Closed new = ((now (store old)).in_group ≡ true) × (new ≡ old)
refuses_id_as store greatest old e new = ((now (store old)).in_group ≡ false) × RefusesToRaise greatest (store old) e (store new)

-- No id was given: the database is closed, or the store sets no more aside; and nothing changes, but that a fault is counted
pub record RefusesId {P M : Type 0} (store : P → Store) (meant : M → Merge) (old : DbValue P M) (e : Error) (new : DbValue P M) : Type 0 where
  pub is : refuses_id_as store old.greatest_id old.pages e new.pages
  pub same : new ≡ record old { pages = new.pages }
  pub state : (slots : ℕ → Option CallInFlight) (slots_given : ℕ) → state_of store meant new slots slots_given ≡ state_of store meant old slots slots_given
  pub leaves : LeavesAll store [] None old new
  pub left : crash_states (store new.pages) ≡ crash_states (store old.pages)
