use Rattle.std.proofs.Common.{◌-◌}
use Rattle.sled_model.specs.declared.TheConstants.{MAX_LOOPS}
use Rattle.sled.proofs.Flying.{IsFlying}
use Rattle.sled.proofs.db.Db.advance_on.Given as goal

abbrev pub invariant-steps : goal.invariant-steps
invariant-steps g l = IsFlying g.P.Pages.store g.M.MergeOperator.meant l.fn.self l.fn.flight l.self l.flight

abbrev pub decreases-steps : goal.decreases-steps
decreases-steps g l = MAX_LOOPS - l.flight.turns
