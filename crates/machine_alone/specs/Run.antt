-- Lists of steps.
use Rattle.std.specs.Prelude.{ℕ, List, [], ◌∷◌}
use Rattle.std.specs.Global.{Vec}
use Rattle.sled_nodes.specs.declared.error.Error.{Error}
use Rattle.sled_batch.specs.Batch.{Writes}
use Rattle.sled_store.specs.Store.{Store}
use Rattle.sled_model.specs.Maps.{Maps, Merge}
use Rattle.sled_model.specs.State.{maps_of}
use Rattle.sled_model.specs.declared.call.Whole.TheVariants.{Group}
use Rattle.sled_model.specs.declared.outcome.Step.{Step}
use Rattle.sled_model.specs.declared.outcome.Step.TheVariants as step
use Rattle.sled_model.specs.declared.outcome.Outcome.{Outcome}
use Rattle.sled_model.specs.declared.outcome.Outcome.TheVariants as outcome
use Rattle.sled_model.specs.declared.reply.Reply.TheVariants.{Done}
use Rattle.sled_model.specs.declared.tree.Tree.{Tree}
use Rattle.sled.specs.Values.{DbValue}
use Rattle.sled.specs.Groups.{GroupDecided, GroupRefused, IsQuietGroup}
use Rattle.machine_alone.specs.CrashMaps.{AreCrashMaps, crash_maps_after}
use Rattle.machine_alone.specs.Step.{MachineStep, MachineStepContract}
use Rattle.machine_alone.specs.Values.{MachineValue, configuration_of}

-- A run, with the list of maps that a crash might leave before it and the list after it. The later list begins with the map at the last
-- flush that was decided, if there was one, else with the list before; then comes the map after each call that was decided since
pub data RunsWithCrashMaps {P M : Type 0} (store : P → Store) (flush_number : P → ℕ) (meant : M → Merge) : MachineValue P M → List Maps → List Step → List Outcome → MachineValue P M → List Maps → Type 0 where
  KeepsAll : {m : MachineValue P M} {kept : List Maps} → RunsWithCrashMaps store flush_number meant m kept [] [] m kept
  KeepsMore : {a m b : MachineValue P M} {step : Step} {steps : List Step} {outcome : Outcome} {outcomes : List Outcome} {kept last : List Maps}
      → (one : MachineStep store flush_number meant a step outcome m) → RunsWithCrashMaps store flush_number meant m (crash_maps_after step outcome one.maps (maps_of (configuration_of store flush_number meant m).state) kept) steps outcomes b last
      → RunsWithCrashMaps store flush_number meant a kept (step ∷ steps) (outcome ∷ outcomes) b last

-- a run that begins from this list of maps, and what a crash may leave after it
pub record KeepsCrashMaps {P M : Type 0} (store : P → Store) (flush_number : P → ℕ) (meant : M → Merge) (old : MachineValue P M) (steps : List Step) (outcomes : List Outcome) (new : MachineValue P M) (kept : List Maps) : Type 0 where
  pub last : List Maps
  pub run : RunsWithCrashMaps store flush_number meant old kept steps outcomes new last
  pub leaves : AreCrashMaps (store new.db.pages) last

-- A list of steps, one after the other: whatever maps a crash might leave before, the run keeps the list so, and a crash may leave those
-- of the list after it
pub record MachineRun {P M : Type 0} (store : P → Store) (flush_number : P → ℕ) (meant : M → Merge) (old : MachineValue P M) (steps : List Step) (outcomes : List Outcome) (new : MachineValue P M) : Type 0 where
  pub keeps : (kept : List Maps) → AreCrashMaps (store old.db.pages) kept → KeepsCrashMaps store flush_number meant old steps outcomes new kept

-- the steps were made in order
pub data MakesSteps {P M : Type 0} (store : P → Store) (flush_number : P → ℕ) (meant : M → Merge) : MachineValue P M → List Step → List Outcome → MachineValue P M → Type 0 where
  NoStep : {m : MachineValue P M} → MakesSteps store flush_number meant m [] [] m
  OneStep : {a m b : MachineValue P M} {step : Step} {steps : List Step} {outcome : Outcome} {outcomes : List Outcome}
      → MachineStep store flush_number meant a step outcome m → MakesSteps store flush_number meant m steps outcomes b → MakesSteps store flush_number meant a (step ∷ steps) (outcome ∷ outcomes) b

-- .. and of each all holds that is said of one step
pub data MachineSteps {P M : Type 0} (store : P → Store) (flush_number : P → ℕ) (meant : M → Merge) : MachineValue P M → List Step → List Outcome → MachineValue P M → Type 0 where
  NoCalls : {m : MachineValue P M} → MachineSteps store flush_number meant m [] [] m
  OneCall : {a m b : MachineValue P M} {step : Step} {steps : List Step} {outcome : Outcome} {outcomes : List Outcome}
      → MachineStepContract store flush_number meant a step outcome m → MachineSteps store flush_number meant m steps outcomes b → MachineSteps store flush_number meant a (step ∷ steps) (outcome ∷ outcomes) b

-- Steps of which all holds are steps
abbrev pub StepsLaw : {P M : Type 0} → (P → Store) → (P → ℕ) → (M → Merge) → Type 0
StepsLaw {P = P} {M = M} store flush_number meant = (a b : MachineValue P M) (steps : List Step) (outcomes : List Outcome) → MachineSteps store flush_number meant a steps outcomes b → MakesSteps store flush_number meant a steps outcomes b

-- A group that a database makes, as that of a transaction is, is a step of each machine that has the database; and so is one that is
-- refused
pub record GroupLaw {P M : Type 0} (store : P → Store) (flush_number : P → ℕ) (meant : M → Merge) : Type 0 where
  pub made : (m : MachineValue P M) (batches : Vec (Tree × Writes)) (new : DbValue P M) → GroupDecided store meant m.db batches.items new → IsQuietGroup store meant m.db batches.items new
      → MachineStepContract store flush_number meant m (step.Whole (Group batches)) (outcome.Decided Done) (record m { db = new })
  pub refused : (m : MachineValue P M) (batches : Vec (Tree × Writes)) (e : Error) (new : DbValue P M) → GroupRefused store meant m.db batches.items e new → IsQuietGroup store meant m.db batches.items new
      → MachineStepContract store flush_number meant m (step.Whole (Group batches)) (outcome.Refused e) (record m { db = new })
