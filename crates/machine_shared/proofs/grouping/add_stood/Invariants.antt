use Rattle.sled_model.specs.State.{maps_of}
use Rattle.sled.specs.Values.{db_state}
use Rattle.machine_shared.proofs.Stands.{StandsSoFar}
use Rattle.machine_shared.proofs.grouping.add_stood.Given as goal

abbrev pub invariant-loop-key : goal.invariant-loop-key
invariant-loop-key g l = StandsSoFar (maps_of (db_state g.P.Pages.store g.M.MergeOperator.meant l.machine.db)) l.tree l.fn.stood.items l.batch l.stood.items l.key-iterator
