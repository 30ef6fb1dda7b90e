-- Calls to their end, and scans to their next pair.
use Rattle.std.specs.Prelude.{◌≡◌, ◌≢◌, ℕ, zero, suc, ◌<◌, ◌≤◌, ◌⊎◌, List, [], ◌∷◌, length, Some}
use Rattle.std.specs.declared.ops.Bound.TheVariants.{Included}
use Rattle.sled_store.specs.Store.{Store, now}
use Rattle.sled_nodes.specs.declared.error.Error.{Error}
use Rattle.sled_model.specs.Maps.{Merge}
use Rattle.sled_model.specs.Answer.{key_of}
use Rattle.sled_model.specs.Refusal.{TellsTurns, turns_limit}
use Rattle.sled_model.specs.State.{CallInFlight, IsOnKey}
use Rattle.sled_model.specs.declared.call.Call.{Call}
use Rattle.sled_model.specs.declared.outcome.Step.{Step}
use Rattle.sled_model.specs.declared.outcome.Step.TheVariants as step
use Rattle.sled_model.specs.declared.outcome.Outcome.{Outcome}
use Rattle.sled_model.specs.declared.outcome.Outcome.TheVariants.{Begun, Moved, Refused}
use Rattle.sled_model.specs.declared.tree.Tree.{Tree}
use Rattle.tree_laws.specs.Paths.{IsClean}
use Rattle.machine_alone.specs.Step.{MachineStepContract}
use Rattle.machine_alone.specs.Run.{MachineRun, MachineSteps}
use Rattle.machine_alone.specs.Values.{MachineValue, slots_of}

-- the call went on at most once for each page of the path, and was not refused for its turns
pub record FinishesWithin (moves : ℕ) (o : Outcome) (path : List ℕ) : Type 0 where
  pub fits : moves ≤ length path
  pub unlimited : (e : Error) → o ≡ Refused e → TellsTurns e → ⊥

-- as many steps of the slot as the call goes on, and one more
abbrev pub steps_of : ℕ → ℕ → List Step
steps_of slot zero = step.Step slot ∷ []
steps_of slot (suc n) = step.Step slot ∷ steps_of slot n

abbrev pub outcomes_of : ℕ → Outcome → List Outcome
outcomes_of zero o = o ∷ []
outcomes_of (suc n) o = Moved ∷ outcomes_of n o

-- The call in the slot goes on, step by step, until one gives a pair of a scan or ends the call
pub record RunsToEnd {P M : Type 0} (store : P → Store) (flush_number : P → ℕ) (meant : M → Merge) (old : MachineValue P M) (slot : ℕ) (o : Outcome) (new : MachineValue P M) : Type 0 where
  pub moves : ℕ
  pub ends : o ≢ Moved
  pub run : MachineRun store flush_number meant old (steps_of slot moves) (outcomes_of moves o) new
  pub each : MachineSteps store flush_number meant old (steps_of slot moves) (outcomes_of moves o) new
  -- over a clean path of fewer levels than it may have turns, a call on a key that had none goes on at most once a level
  pub passes : (flying : CallInFlight) (path : List ℕ) → slots_of old.flights slot ≡ Some flying → IsOnKey flying.call → flying.turns ≡ 0
      → IsClean (now (store old.db.pages)) flying.tree.name (Included (key_of flying.call)) path → length path < turns_limit → FinishesWithin moves o path

-- a call that does not begin
pub record RefusesToBegin {P M : Type 0} (store : P → Store) (flush_number : P → ℕ) (meant : M → Merge) (old : MachineValue P M) (tree : Tree) (call : Call) (o : Outcome) (new : MachineValue P M) : Type 0 where
  pub error : Error
  pub is : o ≡ Refused error
  pub reaches : MachineStepContract store flush_number meant old (step.Begin tree call) o new

-- a call that begins in some slot, and then goes on, step by step, until the last
pub record BeginsAndRunsToEnd {P M : Type 0} (store : P → Store) (flush_number : P → ℕ) (meant : M → Merge) (old : MachineValue P M) (tree : Tree) (call : Call) (o : Outcome) (new : MachineValue P M) : Type 0 where
  pub slot : ℕ
  pub begun : MachineValue P M
  pub begins : MachineStepContract store flush_number meant old (step.Begin tree call) (Begun slot) begun
  pub finishes : RunsToEnd store flush_number meant begun slot o new

-- A call on a key, from its begin to its end
abbrev pub Completes : {P M : Type 0} → (P → Store) → (P → ℕ) → (M → Merge) → MachineValue P M → Tree → Call → Outcome → MachineValue P M → Type 0
Completes store flush_number meant old tree call o new = RefusesToBegin store flush_number meant old tree call o new ⊎ BeginsAndRunsToEnd store flush_number meant old tree call o new
