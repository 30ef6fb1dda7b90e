use Rattle.std.proofs.Common.{arith}
use Rattle.sled_tree.specs.theory.Walking.{Stays, GoesOn}
use Rattle.sled_tree.proofs.Descending.{settles_go}
use Rattle.sled_tree.proofs.dispatch.walk_down.Goals as goal

pub steps-init : goal.steps-init
steps-init g c = Stays

pub steps-preserved : goal.steps-preserved
steps-preserved g c = GoesOn c.steps.invariant (record {
  has_turns = omega arith;
  on_walk = c.is_on_walk.ensures c.if-is_on_walk.true;
  settles = settles_go (g.P.Pages.store c.args.pages.now) c.steps.flight c.descend.new.stage c.in-Further.ensures.is;
})
