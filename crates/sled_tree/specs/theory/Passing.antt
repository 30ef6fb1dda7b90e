-- Of Passing, for proofs. Calls in flight on clean paths: if no other call is in the way, a call goes on by a page a step.
use Rattle.std.specs.Prelude.{ℕ, List}
use Rattle.sled_store.specs.State.{State, nodes_of}
use Rattle.sled_store.specs.declared.page.View.{View}
use Rattle.sled_tree.specs.Course.{Course}
use Rattle.sled_tree.specs.declared.flight.Sequel.{Sequel}
use Rattle.sled_tree.specs.declared.flight.Sequel.TheVariants.{Go, Decided, Refused}
use Rattle.tree_laws.specs.declared.flight.Stage.{Stage}
use Rattle.tree_laws.specs.declared.flight.Reached.{Reached}
use Rattle.sled_tree.specs.Passing.{IsUnchanged, IsAheadOf, IsOnPath, IsOneCloser}

-- if the call goes on, it is one page further
abbrev pub is_one_closer_as : State → Course → Sequel → List ℕ → Type 0
is_one_closer_as s j (Go stage) path = IsOneCloser s j stage path
is_one_closer_as s j (Decided reply) path = Unit {0}
is_one_closer_as s j (Refused e) path = Unit {0}

-- an action from a stage: on a clean path it brings the call one page further, or is its last
pub record AdvancesOnPath (j : Course) (old : State) (stage : Stage) (next : Sequel) (new : State) : Type 0 where
  pub is : (path : List ℕ) → IsOnPath old j stage path → is_one_closer_as new j next path

-- what comes after a page of a clean path was read
pub record AdvancesFromPage (j : Course) (view : View) (by : Reached) (next : Sequel) : Type 0 where
  pub is : (s : State) (path : List ℕ) → IsUnchanged s view → IsAheadOf (nodes_of s) j.aim view.pid by path → is_one_closer_as s j next path
