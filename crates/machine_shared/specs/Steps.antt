-- A step of a slot.
use Rattle.std.specs.Prelude.{◌≢◌, ℕ}
use Rattle.sled_store.specs.Store.{Store}
use Rattle.sled_model.specs.Maps.{Merge}
use Rattle.sled_nodes.specs.declared.error.Error.TheVariants.{NoMemory}
use Rattle.sled_model.specs.declared.outcome.Outcome.{Outcome}
use Rattle.sled_model.specs.declared.outcome.Outcome.TheVariants.{Refused}
use Rattle.sled_model.specs.declared.outcome.Step.TheVariants.{Step}
use Rattle.machine_alone.specs.Values.{MachineValue}
use Rattle.machine_alone.specs.Step.{MachineStep, MachineSound, MachineActs, MachineFollows, MachinePasses, MachineSlots, MachineKeepsTreePages, MachineLeaksNoPage}

-- A step of a slot is a step of the model. It keeps the pages well formed, does at most one changing action, and leaves the other slots and
-- the pages of the trees as they were. It follows from the stage of its call, unless it is refused for want of memory, which may be that
-- for what is to be noted. It says what a step of a machine says of a clean path and of the pages of its call
pub record SlotStep {P M : Type 0} (store : P → Store) (flush_number : P → ℕ) (meant : M → Merge) (old : MachineValue P M) (slot : ℕ) (o : Outcome) (new : MachineValue P M) : Type 0 where
  pub step : MachineStep store flush_number meant old (Step slot) o new
  pub sound : MachineSound store old new
  pub does : MachineActs store meant old (Step slot) o new
  pub slots : MachineSlots old (Step slot) o new
  pub loses : MachineKeepsTreePages store old (Step slot) o new
  pub follows : o ≢ Refused NoMemory → MachineFollows store meant old (Step slot) o new
  pub passes : MachinePasses store old (Step slot) o new
  pub leaves : MachineLeaksNoPage store old (Step slot) o new
