-- Calls in flight that are stepped in turn.
use Rattle.std.specs.Prelude.{◌≡◌, ℕ, ◌%◌, length, List, Some, slice_get}
use Rattle.sled_store.specs.Store.{Store}
use Rattle.sled_model.specs.Maps.{Merge}
use Rattle.sled_model.specs.declared.outcome.Outcome.{Outcome}
use Rattle.sled_model.specs.declared.outcome.Step.TheVariants as step
use Rattle.machine_alone.specs.Step.{MachineStepContract}
use Rattle.machine_alone.specs.Values.{MachineValue}
use Rattle.machine_laws.specs.Moves.{MovesInARow}

-- So many steps went on, and the next one, of the slot whose turn it is, came out so
pub record TellsInTurn {P M : Type 0} (store : P → Store) (flush_number : P → ℕ) (meant : M → Merge) (first : MachineValue P M) (slots : List ℕ) (told : Outcome) (last : MachineValue P M) : Type 0 where
  pub turns : ℕ
  pub before : MachineValue P M
  pub row : MovesInARow store flush_number meant first turns before
  pub slot : ℕ
  pub turn : slice_get slots (turns % length slots) ≡ Some slot
  pub tells : MachineStepContract store flush_number meant before (step.Step slot) told last
