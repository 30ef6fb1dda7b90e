use Rattle.std.proofs.Common.{◌+◌, length, refl, ap, ◌∙◌}
use Rattle.std.specs.Ordering.{nat_cmp}
use Rattle.std.specs.BTreeMap.{get}
use Rattle.sled_queues.specs.Values.{WaitingValue}
use Rattle.sled_queues.specs.Lists.{lists_of}
use Rattle.sled_queues.proofs.Listed.{none_next, added_listed, added_queues, added_pending, put_back, at_place, same_entries, same_listed, same_queues, same_pending}
use Rattle.sled_queues.proofs.queues.Queues.watch.Goals as goal

pub invariant_of-self-in-Err-add : goal.invariant_of-self-in-Err-add
invariant_of-self-in-Err-add c =
    let same = same_entries _ _ c.self.inside.given c.in-Err-add.ensures.err in (
      same_queues _ _ same refl c.self.invariant.0,
      same_listed _ _ _ _ same (put_back c.args.tree (c.self.inside.given + 1) c.args.prefix (get nat_cmp c.self.inside.queues) (lists_of c.self.inside.lists) (lists_of c.enlist.new.trees) (lists_of c.unlist.new.trees) (none_next _ c.self.invariant.0) c.self.invariant.1
          (λ t p. c.in_default.ensures.ok t p ∙ at_place _ _ _ _ refl c.as_ref.ensures _ _ t p)
          (λ t p. c.unlist.ensures t p ∙ at_place _ _ _ _ refl (c.prefix.ensures ∙ ap (λ (w : WaitingValue). w.prefix) (c.in-Err-add.ensures.back ∙ c.new.ensures)) _ _ t p)) c.self.invariant.1,
      same_pending _ _ _ same c.self.invariant.2,
    )

pub invariant_of-self-2 : goal.invariant_of-self-2
invariant_of-self-2 c = (
  added_queues c.new.result _ _ (ap (λ (w : WaitingValue). length w.backlog.events) c.new.ensures) c.in_default-add.ensures.ok refl c.self.invariant.0,
  added_listed c.args.tree (c.self.inside.given + 1) c.args.prefix c.new.result _ _ (lists_of c.self.inside.lists) (lists_of c.enlist.new.trees) (ap (λ (w : WaitingValue). w.tree) c.new.ensures) (ap (λ (w : WaitingValue). w.prefix) c.new.ensures) (none_next _ c.self.invariant.0) c.in_default-add.ensures.ok
      (λ t p. c.in_default.ensures.ok t p ∙ at_place _ _ _ _ refl c.as_ref.ensures _ _ t p) c.self.invariant.1,
  added_pending (c.self.inside.given + 1) c.new.result _ _ _ (ap (λ (w : WaitingValue). w.coming) c.new.ensures) c.in_default-add.ensures.ok c.self.invariant.2,
)
