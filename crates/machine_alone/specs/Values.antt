-- What contracts see of a machine, and the instant of the model that it stands for.
use Rattle.std.specs.Prelude.{ℕ, List, Option, option_map}
use Rattle.std.specs.Borrow.{Bor}
use Rattle.std.specs.Map.{lookup}
use Rattle.std.specs.BTreeMap.{is_at}
use Rattle.std.specs.Ordering.{nat_cmp}
use Rattle.sled_store.specs.Store.{Store}
use Rattle.sled_model.specs.Maps.{Merge}
use Rattle.sled_model.specs.State.{CallInFlight}
use Rattle.sled_model.specs.Transition.{Configuration}
use Rattle.sled_model.specs.declared.call.Call.{Call}
use Rattle.sled_model.specs.declared.tree.Tree.{Tree}
use Rattle.sled_tree.specs.declared.flight.InFlight.{InFlight}
use Rattle.sled_tree.specs.declared.flight.Job.{Job}
use Rattle.sled.specs.Values.{DbValue, state_of}
use Rattle.sled.specs.Flights.{call_in_flight_of}

-- the database, the calls in flight by slot, and the last slot that was given
pub record MachineValue (P M : Type 0) : Type 0 where
  pub db : DbValue P M
  pub flights : List (ℕ × InFlight)
  pub slots_given : ℕ

-- the call in a slot
abbrev pub kept_at : List (ℕ × InFlight) → ℕ → Option InFlight
kept_at flights slot = lookup (is_at (nat_cmp slot)) flights

abbrev pub slots_of : List (ℕ × InFlight) → ℕ → Option CallInFlight
slots_of flights slot = option_map call_in_flight_of (kept_at flights slot)

-- the state of the machine, its store, and the number that a flush would answer
abbrev pub configuration_of : {P M : Type 0} → (P → Store) → (P → ℕ) → (M → Merge) → MachineValue P M → Configuration
configuration_of store flush_number meant m = record { state = state_of store meant m.db (slots_of m.flights) m.slots_given; store = store m.db.pages; flush_number = flush_number m.db.pages }

-- what a call in flight is to do: the call, and its tree; and the same of one that is lent
abbrev pub job_of_call : CallInFlight → Tree × Call
job_of_call f = (f.tree, f.call)

abbrev pub job_lent : Bor Job → Tree × Call
job_lent job = (job.now.tree, job.now.call)
