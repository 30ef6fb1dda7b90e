-- Of Notes and Steps, for proofs. What is to be noted of a slot, and whether its call can be stepped.
use Rattle.std.specs.Prelude.{◌≡◌, ℕ, ◌<◌, Bool, false, List, [], ◌∷◌, Option, Some, None, is_none}
use Rattle.sled_store.specs.Store.{Store}
use Rattle.sled_model.specs.Maps.{Merge}
use Rattle.sled_model.specs.State.{CallInFlight, range_of}
use Rattle.sled_model.specs.Refusal.{ToStep, must_refuse, turns_limit}
use Rattle.sled_model.specs.declared.call.Call.{Call}
use Rattle.sled_model.specs.declared.tree.Tree.{Tree}
use Rattle.sled.specs.Values.{db_state}
use Rattle.machine_alone.specs.Values.{MachineValue, slots_of}
use Rattle.machine_shared.specs.declared.entry.Made.{Made}
use Rattle.machine_shared.specs.Made.{MadeValue, made_value}

-- the slot has a call on a key
abbrev pub is_on_key_in : Option CallInFlight → Bool
is_on_key_in None = false
is_on_key_in (Some f) = is_none (range_of f.call)

-- a tree and a call on it
abbrev pub job_pair : Tree → Call → Tree × Call
job_pair tree call = (tree, call)

-- what is at hand to be noted, twice
abbrev pub first_noted : Option (Made × Made) → List MadeValue
first_noted None = []
first_noted (Some both) = made_value both.0 ∷ []

abbrev pub second_noted : Option (Made × Made) → List MadeValue
second_noted None = []
second_noted (Some both) = made_value both.1 ∷ []

-- the call in the slot passes the tests and has a turn left
pub record CanStep {P M : Type 0} (store : P → Store) (meant : M → Merge) (m : MachineValue P M) (slot : ℕ) : Type 0 where
  pub flying : CallInFlight
  pub here : slots_of m.flights slot ≡ Some flying
  pub free : must_refuse (db_state store meant m.db) (ToStep flying) ≡ None
  pub fits : flying.turns < turns_limit
