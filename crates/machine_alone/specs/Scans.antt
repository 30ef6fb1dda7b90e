-- What scans give over a list of steps, beside which the database may be changed in other ways.
use Rattle.std.specs.Prelude.{◌≡◌, ℕ, Bool, List, [], ◌∷◌}
use Rattle.std.specs.declared.ops.Bound.{Bound}
use mathlib.Core.Path.{ap}
use Rattle.sled_nodes.specs.Order.{Key}
use Rattle.sled_store.specs.Store.{Store}
use Rattle.sled_model.specs.Maps.{Merge}
use Rattle.sled_model.specs.State.{maps_of}
use Rattle.sled_model.specs.declared.call.Call.TheVariants.{Scan}
use Rattle.sled_model.specs.declared.tree.Tree.{Tree}
use Rattle.sled_model.specs.declared.outcome.Step.{Step}
use Rattle.sled_model.specs.declared.outcome.Step.TheVariants as step
use Rattle.sled_model.specs.declared.outcome.Outcome.{Outcome}
use Rattle.sled_model.specs.declared.outcome.Outcome.TheVariants.{Begun}
use Rattle.scan_laws.specs.Scanned.{RunsBeside, NoSteps, OneMore, OneBeside, IsScanned}
use Rattle.sled.specs.Sound.{IsDb, MapsAscend}
use Rattle.sled.specs.Values.{db_state}
use Rattle.machine_alone.specs.Run.{MakesSteps, NoStep, OneStep}
use Rattle.machine_alone.specs.Step.{MachineStep}
use Rattle.machine_alone.specs.Values.{MachineValue, slots_of, configuration_of}

-- A call of a machine that is no step, as one with a closure, changes the database alone, as its clause `same` says; and after it the
-- maps ascend, as `Machine::audit` states
pub record ChangesDb {P M : Type 0} (store : P → Store) (meant : M → Merge) (old new : MachineValue P M) : Type 0 where
  pub same : new ≡ record old { db = new.db }
  pub ascend : MapsAscend (maps_of (db_state store meant new.db))

-- The steps were made in order, and before, between and after them there may have been such changes
pub data MakesStepsBeside {P M : Type 0} (store : P → Store) (flush_number : P → ℕ) (meant : M → Merge) : MachineValue P M → List Step → List Outcome → MachineValue P M → Type 0 where
  NoneMade : {m : MachineValue P M} → MakesStepsBeside store flush_number meant m [] [] m
  StepMade : {a m b : MachineValue P M} {step : Step} {steps : List Step} {outcome : Outcome} {outcomes : List Outcome}
      → MachineStep store flush_number meant a step outcome m → MakesStepsBeside store flush_number meant m steps outcomes b → MakesStepsBeside store flush_number meant a (step ∷ steps) (outcome ∷ outcomes) b
  ChangeMade : {a m b : MachineValue P M} {steps : List Step} {outcomes : List Outcome}
      → ChangesDb store meant a m → MakesStepsBeside store flush_number meant m steps outcomes b → MakesStepsBeside store flush_number meant a steps outcomes b

-- steps with no change beside them
abbrev pub steps_alone : {P M : Type 0} (store : P → Store) (flush_number : P → ℕ) (meant : M → Merge) {a b : MachineValue P M} {steps : List Step} {outcomes : List Outcome}
    → MakesSteps store flush_number meant a steps outcomes b → MakesStepsBeside store flush_number meant a steps outcomes b
steps_alone store flush_number meant NoStep = NoneMade
steps_alone store flush_number meant (OneStep one rest) = StepMade one (steps_alone store flush_number meant rest)

-- the steps and the changes, as a run of the model
abbrev pub run_of : {P M : Type 0} (store : P → Store) (flush_number : P → ℕ) (meant : M → Merge) {a b : MachineValue P M} {steps : List Step} {outcomes : List Outcome}
    → MakesStepsBeside store flush_number meant a steps outcomes b → RunsBeside (configuration_of store flush_number meant a) steps outcomes (configuration_of store flush_number meant b)
run_of store flush_number meant NoneMade = NoSteps
run_of store flush_number meant (StepMade one rest) = OneMore one.step (run_of store flush_number meant rest)
run_of store flush_number meant (ChangeMade change rest) =
    OneBeside (record { slots = ap (λ m. slots_of m.flights) change.same; slots_given = ap (λ m. m.slots_given) change.same; ascend = change.ascend.is }) (run_of store flush_number meant rest)

-- What every scan gives over every list of steps after its begin, whatever other calls do between its own
pub record Scans {P M : Type 0} (store : P → Store) (flush_number : P → ℕ) (meant : M → Merge) : Type 0 where
  -- calls that are no steps may have been made too
  pub scans : (a b c : MachineValue P M) (tree : Tree) (lo hi : Bound Key) (back : Bool) (slot : ℕ) (steps : List Step) (outcomes : List Outcome)
      → IsDb store a.db → MachineStep store flush_number meant a (step.Begin tree (Scan lo hi back)) (Begun slot) b
      → (made : MakesStepsBeside store flush_number meant b steps outcomes c)
      → IsScanned slot tree (record { lo = lo; hi = hi; back = back }) (run_of store flush_number meant made)
  -- and if only steps were made
  pub alone : (a b c : MachineValue P M) (tree : Tree) (lo hi : Bound Key) (back : Bool) (slot : ℕ) (steps : List Step) (outcomes : List Outcome)
      → IsDb store a.db → MachineStep store flush_number meant a (step.Begin tree (Scan lo hi back)) (Begun slot) b
      → (made : MakesSteps store flush_number meant b steps outcomes c)
      → IsScanned slot tree (record { lo = lo; hi = hi; back = back }) (run_of store flush_number meant (steps_alone store flush_number meant made))
