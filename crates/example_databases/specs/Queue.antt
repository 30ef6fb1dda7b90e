-- A queue of work in a tree of a database.
use Rattle.std.specs.Prelude.{◌≡◌, [], ◌∷◌, ◌++◌, Option, Some, None}
use Rattle.std.specs.List.{AllByRecursion}
use Rattle.sled_nodes.specs.Order.{Key, Below}
use Rattle.sled_store.specs.Store.{Store}
use Rattle.sled_model.specs.Maps.{Map, Merge}
use Rattle.sled_model.specs.declared.tree.Tree.{Tree}
use Rattle.sled.specs.Values.{DbValue}
use Rattle.example_parts.specs.Reads.{maps_now}

abbrev pub jobs_of : Option Map → Map
jobs_of None = []
jobs_of (Some map) = map

-- the jobs that wait, each at its ticket, the oldest first
abbrev pub waiting : {P M : Type 0} → (P → Store) → (M → Merge) → DbValue P M → Tree → Map
waiting store meant d queue = jobs_of (maps_now store meant d queue.name)

-- a job whose ticket is above all others waits behind them
pub record Adds (before : Map) (ticket job : Key) (after : Map) : Type 0 where
  pub is : AllByRecursion (λ e. Below e.0 ticket) before → after ≡ before ++ (ticket, job) ∷ []

abbrev pub takes_as : Map → Option (Key × Key) → Map → Type 0
takes_as before None after = (before ≡ []) × (after ≡ [])
takes_as before (Some job) after = before ≡ job ∷ after

-- the job at the front is taken out, if one waits, and the others wait as before
pub record Takes (before : Map) (job : Option (Key × Key)) (after : Map) : Type 0 where
  pub is : takes_as before job after
