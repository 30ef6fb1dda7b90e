-- Of Kept, for inner functions and proofs.
use Rattle.std.specs.Prelude.{◌≡◌, ℕ}
use Rattle.sled_store.specs.Store.{Store}
use Rattle.sled_model.specs.Maps.{Merge}
use Rattle.sled_model.specs.declared.call.Whole.{Whole}
use Rattle.sled_model.specs.declared.outcome.Outcome.{Outcome}
use Rattle.sled_model.specs.declared.outcome.Step.TheVariants as step
use Rattle.machine_alone.specs.Kept.{told_again, CountsParts}
use Rattle.machine_alone.specs.Step.{MachineStepContract}
use Rattle.machine_alone.specs.Values.{MachineValue}

-- all that is said of a whole call, of whose outcome this is kept
pub record KeepsWhole {P M K : Type 0} (store : P → Store) (flush_number : P → ℕ) (meant : M → Merge) (kept : Outcome → K) (old : MachineValue P M) (w : Whole) (told : Outcome × K × ℕ) (new : MachineValue P M) : Type 0 where
  pub step : MachineStepContract store flush_number meant old (step.Whole w) told.0 new
  pub copies : told.1 ≡ kept (told_again w told.0)
  pub parts : CountsParts store meant old.db w told.0 told.2 new.db
