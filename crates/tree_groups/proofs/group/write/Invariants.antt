use Rattle.std.proofs.Common.{◌-◌}
use Rattle.sled_model.specs.declared.TheConstants.{MAX_LOOPS}
use Rattle.tree_groups.proofs.Writing.{OnWay}
use Rattle.tree_groups.proofs.group.write.Given as goal

abbrev pub invariant-loop-flight : goal.invariant-loop-flight
invariant-loop-flight g l = OnWay l.fn.flight.job (g.P.Pages.store l.fn.pages) (g.P.Pages.store l.pages) l.flight

abbrev pub decreases-loop-flight : goal.decreases-loop-flight
decreases-loop-flight g l = MAX_LOOPS - l.flight.turns
