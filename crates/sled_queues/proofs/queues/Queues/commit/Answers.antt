use Rattle.std.proofs.Common.{refl}
use Rattle.sled_queues.specs.Queues.{committed}
use Rattle.sled_queues.proofs.Listed.{commits, settled, settled_keeps, becomes}
use Rattle.sled_queues.proofs.queues.Queues.commit.Goals as goal

pub invariant_of-self : goal.invariant_of-self
invariant_of-self c = settled_keeps commits c.self.inside.queues c.commit_all.new.queues _ _ c.deref.ensures.value c.self.invariant.2 c.commit_all.ensures _ _ _ c.self.invariant.0 c.self.invariant.1

pub returns : goal.returns
returns c = becomes committed _ _ _ c.self.view_is (settled commits c.self.inside.queues c.commit_all.new.queues _ _ c.deref.ensures.value c.self.invariant.2 c.commit_all.ensures) refl
