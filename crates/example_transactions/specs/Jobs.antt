-- A queue of work in two trees: jobs that are ready, and jobs that run.
use Rattle.std.specs.Prelude.{◌≡◌, ◌≢◌, ◌⊎◌, true, false, Bool, Some, None}
use Rattle.sled_nodes.specs.Order.{Key}
use Rattle.sled_store.specs.Store.{Store, now}
use Rattle.sled_model.specs.Maps.{Maps, Merge}
use Rattle.tree_transactions.specs.declared.errors.TransactionError.{TransactionError}
use Rattle.tree_transactions.specs.declared.errors.TransactionError.TheVariants.{Abort, Storage}
use Rattle.sled.specs.Values.{DbValue}
use Rattle.example_parts.specs.Reads.{found_in, maps_now}

-- a job is in one of the two trees alone, with this value
abbrev pub is_in_one : Key → Key → Key → Key → Maps → Type 0
is_in_one ready running job value maps =
    ((found_in (maps ready) job ≡ Some value) × (found_in (maps running) job ≡ None)) ⊎ ((found_in (maps ready) job ≡ None) × (found_in (maps running) job ≡ Some value))

-- A job went from those that are ready to those that run, with its value. No other key of the two trees changes, and no other tree
pub record MovesJob (old new : Maps) (ready running job : Key) : Type 0 where
  pub value : Key
  pub was : found_in (old ready) job ≡ Some value
  pub gone : found_in (new ready) job ≡ None
  pub runs : found_in (new running) job ≡ Some value
  pub ready_keys : (other : Key) → other ≢ job → found_in (new ready) other ≡ found_in (old ready) other
  pub running_keys : (other : Key) → other ≢ job → found_in (new running) other ≡ found_in (old running) other
  pub trees : (other : Key) → other ≢ ready → other ≢ running → new other ≡ old other

abbrev pub takes_as : Bool → Maps → Maps → Key → Key → Key → Type 0
takes_as true old new ready running job = MovesJob old new ready running job
takes_as false old new ready running job = (found_in (old ready) job ≡ None) × (new ≡ old)

-- it went, or it was not ready, and nothing changes
pub record TakesJob (old new : Maps) (ready running job : Key) (taken : Bool) : Type 0 where
  pub is : takes_as taken old new ready running job

module _ {P M : Type 0} (store : P → Store) (meant : M → Merge) (old new : DbValue P M) where
  abbrev pub refuses_as : TransactionError (Unit {0}) → Type 0
  refuses_as (Abort e) = ⊥
  refuses_as (Storage e) = (now (store new.pages)).in_group ≡ false → maps_now store meant new ≡ maps_now store meant old

  -- it is refused, and never aborted: all maps are as they were, unless the database is closed now
  pub record RefusesJob (e : TransactionError (Unit {0})) : Type 0 where
    pub is : refuses_as e
