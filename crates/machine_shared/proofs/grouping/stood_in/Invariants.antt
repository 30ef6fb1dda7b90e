use Rattle.std.proofs.Common.{◌≡◌, take}
use Rattle.sled_model.specs.State.{maps_of}
use Rattle.sled.specs.Values.{db_state}
use Rattle.machine_shared.specs.Stood.{stood_in}
use Rattle.machine_shared.proofs.grouping.stood_in.Given as goal

abbrev pub invariant-loop-batch : goal.invariant-loop-batch
invariant-loop-batch g l = l.stood.items ≡ stood_in (maps_of (db_state g.P.Pages.store g.M.MergeOperator.meant l.machine.db)) (take l.batch-index l.group)
