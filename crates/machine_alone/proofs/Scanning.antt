-- What scans give over a list of steps and changes beside them.
use Rattle.std.proofs.Common.{ℕ, Bool, List}
use Rattle.std.specs.declared.ops.Bound.{Bound}
use Rattle.sled_nodes.specs.Order.{Key}
use Rattle.sled_store.specs.Store.{Store}
use Rattle.sled_model.specs.Maps.{Merge}
use Rattle.sled_model.specs.declared.call.Call.TheVariants.{Scan}
use Rattle.sled_model.specs.declared.tree.Tree.{Tree}
use Rattle.sled_model.specs.declared.outcome.Step.{Step}
use Rattle.sled_model.specs.declared.outcome.Step.TheVariants as step
use Rattle.sled_model.specs.declared.outcome.Outcome.{Outcome}
use Rattle.sled_model.specs.declared.outcome.Outcome.TheVariants.{Begun}
use Rattle.scan_laws.specs.Scanned.{Ascend, IsScanned}
use Rattle.scan_laws.proofs.Scanning.{scan_law}
use Rattle.sled.specs.Sound.{IsDb}
use Rattle.sled.proofs.Trees.{maps_ascend}
use Rattle.machine_alone.specs.Scans.{MakesStepsBeside, Scans, run_of, steps_alone}
use Rattle.machine_alone.specs.Step.{MachineStep}
use Rattle.machine_alone.specs.Values.{MachineValue, configuration_of}

module _ {P M : Type 0} (store : P → Store) (number : P → ℕ) (meant : M → Merge) where
  -- the maps of a database ascend
  ascends : (m : MachineValue P M) → IsDb store m.db → Ascend (configuration_of store number meant m).state
  ascends m db = (maps_ascend store meant m.db db).is

  scanned : (a b c : MachineValue P M) (tree : Tree) (lo hi : Bound Key) (back : Bool) (slot : ℕ) (steps : List Step) (outcomes : List Outcome)
      → IsDb store a.db → MachineStep store number meant a (step.Begin tree (Scan lo hi back)) (Begun slot) b
      → (made : MakesStepsBeside store number meant b steps outcomes c)
      → IsScanned slot tree (record { lo = lo; hi = hi; back = back }) (run_of store number meant made)
  scanned a b c tree lo hi back slot steps outcomes db begun made =
      scan_law (configuration_of store number meant a) (configuration_of store number meant b) (configuration_of store number meant c) tree lo hi back slot begun.maps steps outcomes (ascends a db) begun.step (run_of store number meant made)

  pub scans_made : Scans store number meant
  scans_made = record {
    scans = scanned;
    alone = λ a b c tree lo hi back slot steps outcomes db begun made. scanned a b c tree lo hi back slot steps outcomes db begun (steps_alone store number meant made);
  }
