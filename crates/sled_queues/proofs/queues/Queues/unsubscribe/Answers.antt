use Rattle.std.proofs.Common.{refl, sym, ◌∙◌}
use Rattle.std.specs.Ordering.{nat_cmp}
use Rattle.std.specs.BTreeMap.{get}
use Rattle.sled_queues.specs.Lists.{lists_of}
use Rattle.sled_queues.proofs.Listed.{removed_listed, removed_queues, removed_pending, at_place}
use Rattle.sled_queues.proofs.queues.Queues.unsubscribe.Goals as goal

pub invariant_of-self : goal.invariant_of-self
invariant_of-self c = (
  removed_queues _ _ _ c.remove.ensures.rest refl c.self.invariant.0,
  removed_listed c.subscriber.inside.0 c.in-Some.waiting (get nat_cmp c.self.inside.queues) (get nat_cmp c.remove.new.queues) (lists_of c.self.inside.lists) (lists_of c.unlist.new.trees) (sym c.in-Some.ensures.was) c.remove.ensures.rest
      (λ t p. c.unlist.ensures t p ∙ at_place _ _ _ _ c.tree.ensures c.prefix.ensures _ _ t p) c.self.invariant.1,
  removed_pending _ _ _ _ c.remove.ensures.rest c.self.invariant.2,
)
