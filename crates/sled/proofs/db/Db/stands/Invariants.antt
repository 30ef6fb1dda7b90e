use Rattle.std.proofs.Common.{take}
use Rattle.sled_model.specs.Groups.{writes_of, after_writes}
use Rattle.sled.specs.Values.{db_state}
use Rattle.sled.specs.theory.Groups.{Stands}
use Rattle.sled.proofs.db.Db.stands.Given as goal

-- once the batches so far are made
abbrev pub invariant-loop-other : goal.invariant-loop-other
invariant-loop-other g l = Stands (after_writes (writes_of (take l.other-index l.before)) (db_state g.P.Pages.store g.M.MergeOperator.meant l.self)) l.tree l.key l.value l.stands
