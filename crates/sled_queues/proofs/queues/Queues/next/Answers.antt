use Rattle.std.proofs.Common.{refl}
use Rattle.sled_queues.proofs.Listed.{taken_queues, taken_listed, taken_pending}
use Rattle.sled_queues.proofs.queues.Queues.next.Goals as goal

pub invariant_of-self : goal.invariant_of-self
invariant_of-self c = (
  taken_queues _ _ _ c.take.ensures.rest refl c.self.invariant.0,
  taken_listed _ _ _ _ c.take.ensures.rest c.self.invariant.1,
  taken_pending _ _ _ _ c.take.ensures.rest c.self.invariant.2,
)
