use Rattle.std.proofs.Common.{refl}
use Rattle.sled_queues.specs.Queues.{cancelled}
use Rattle.sled_queues.proofs.Listed.{cancels, settled, settled_keeps, becomes}
use Rattle.sled_queues.proofs.queues.Queues.cancel.Goals as goal

pub invariant_of-self : goal.invariant_of-self
invariant_of-self c = settled_keeps cancels c.self.inside.queues c.cancel_all.new.queues _ _ c.deref.ensures.value c.self.invariant.2 c.cancel_all.ensures _ _ _ c.self.invariant.0 c.self.invariant.1

pub returns : goal.returns
returns c = becomes cancelled _ _ _ c.self.view_is (settled cancels c.self.inside.queues c.cancel_all.new.queues _ _ c.deref.ensures.value c.self.invariant.2 c.cancel_all.ensures) refl
