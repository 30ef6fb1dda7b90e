use Rattle.std.proofs.Common.{◌-◌}
use Rattle.sled_model.specs.declared.TheConstants.{MAX_LOOPS}
use Rattle.sled_tree.specs.theory.Walking.{WalksTo}
use Rattle.sled_tree.proofs.dispatch.walk_down.Given as goal

abbrev pub invariant-steps : goal.invariant-steps
invariant-steps g l = WalksTo (g.P.Pages.store l.pages) l.fn.flight l.flight

abbrev pub decreases-steps : goal.decreases-steps
decreases-steps g l = MAX_LOOPS - l.flight.turns
