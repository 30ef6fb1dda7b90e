-- What the end of a scan says of keys.
use Rattle.std.specs.Prelude.{◌≡◌, ℕ, Bool, true, false, List}
use Rattle.std.specs.List.{AllByRecursion}
use Rattle.std.specs.declared.ops.Bound.{Bound}
use Rattle.sled_nodes.specs.Order.{Key}
use Rattle.sled_nodes.specs.Ranges.{is_in_range}
use Rattle.sled_store.specs.In.{In}
use Rattle.sled_store.specs.Store.{Store}
use Rattle.sled_model.specs.Maps.{Merge}
use Rattle.sled_model.specs.State.{State}
use Rattle.sled_model.specs.Transition.{Configuration}
use Rattle.sled_model.specs.declared.call.Call.TheVariants.{Scan}
use Rattle.sled_model.specs.declared.tree.Tree.{Tree}
use Rattle.sled_model.specs.declared.reply.Reply.{Reply}
use Rattle.sled_model.specs.declared.outcome.Step.{Step}
use Rattle.sled_model.specs.declared.outcome.Step.TheVariants as step
use Rattle.sled_model.specs.declared.outcome.Outcome.{Outcome}
use Rattle.sled_model.specs.declared.outcome.Outcome.TheVariants.{Begun, Moved, Yielded, Decided}
use Rattle.scan_laws.specs.Scanned.{yielded, HasKey, RunsBeside, NoSteps, OneMore, OneBeside, AtOwnSteps}
use Rattle.sled.specs.Sound.{IsDb}
use Rattle.machine_alone.specs.Run.{MakesSteps}
use Rattle.machine_alone.specs.Scans.{run_of, steps_alone}
use Rattle.machine_alone.specs.Step.{MachineStep}
use Rattle.machine_alone.specs.Values.{MachineValue, configuration_of}

-- it is so at each moment of the run: before each step or change, and after the last one
abbrev pub AtEachMoment : (State → Type 0) → {a b : Configuration} {steps : List Step} {outcomes : List Outcome} → RunsBeside a steps outcomes b → Type 0
AtEachMoment is (NoSteps {s = s}) = is s.state
AtEachMoment is (OneMore {a = a} one rest) = is a.state × AtEachMoment is rest
AtEachMoment is (OneBeside {a = a} change rest) = is a.state × AtEachMoment is rest

-- a call in flight went on, or gave a pair
abbrev pub goes_on : Outcome → Bool
goes_on Moved = true
goes_on (Yielded key value) = true
goes_on o = false

-- at each step it was so, and no map was changed
abbrev pub IsQuiet : List Outcome → Type 0
IsQuiet outcomes = AllByRecursion (λ o. goes_on o ≡ true) outcomes

module _ {P M : Type 0} (store : P → Store) (flush_number : P → ℕ) (meant : M → Merge) where
  -- how a machine came to be as it is since a scan began in the slot: by these steps, of any calls
  pub record SinceScan (slot : ℕ) (now : MachineValue P M) : Type 0 where
    pub before : MachineValue P M
    pub begun : MachineValue P M
    pub tree : Tree
    pub lo : Bound Key
    pub hi : Bound Key
    pub back : Bool
    pub sound : IsDb store before.db
    pub begins : MachineStep store flush_number meant before (step.Begin tree (Scan lo hi back)) (Begun slot) begun
    pub steps : List Step
    pub outcomes : List Outcome
    pub made : MakesSteps store flush_number meant begun steps outcomes now

  -- those steps, as a run of the model
  abbrev pub run_since : {slot : ℕ} {now : MachineValue P M} (since : SinceScan slot now) → RunsBeside (configuration_of store flush_number meant since.begun) since.steps since.outcomes (configuration_of store flush_number meant now)
  run_since since = run_of store flush_number meant (steps_alone store flush_number meant since.made)

  -- if the next step of the slot ends the scan, it has given each key within its bounds that was there at each of its steps
  pub record TellsOfEnd (slot : ℕ) (now : MachineValue P M) (o : Outcome) : Type 0 where
    pub is : (reply : Reply) → o ≡ Decided reply → (since : SinceScan slot now) (key : Key) → is_in_range (record { lo = since.lo; hi = since.hi; back = since.back }) key ≡ true
        → AtOwnSteps slot (HasKey since.tree key) (run_since since) → (value : Key) × In (key, value) (yielded slot since.steps since.outcomes)

  -- .. and each that it has not given was absent throughout, if this is so of the outcomes since it began
  pub record TellsOfAbsence (slot : ℕ) (now : MachineValue P M) (o : Outcome) (if_so : List Outcome → Type 0) : Type 0 where
    pub is : (reply : Reply) → o ≡ Decided reply → (since : SinceScan slot now) → if_so since.outcomes → (key : Key) → is_in_range (record { lo = since.lo; hi = since.hi; back = since.back }) key ≡ true
        → ((value : Key) → In (key, value) (yielded slot since.steps since.outcomes) → ⊥) → AtEachMoment (λ s. HasKey since.tree key s → ⊥) (run_since since)
