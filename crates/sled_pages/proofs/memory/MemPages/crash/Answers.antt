use Rattle.std.proofs.Common.{◌∙◌}
use Rattle.sled_pages.specs.Slots.{slots_of, given_of}
use Rattle.sled_pages.specs.Memory.{table_of}
use Rattle.sled_store.specs.Roots.{roots_of}
use Rattle.sled_store.specs.theory.Facts.{may_leave_crashed}
use Rattle.sled_pages.proofs.Kept.{flush_keeps, settled_below}
use Rattle.sled_pages.proofs.Back.{crashes_on}
use Rattle.sled_pages.proofs.memory.MemPages.crash.Goals as goal

pub returns-clause-ok : goal.returns-clause-ok
returns-clause-ok c = let m = c.args.self in let t = c.take_all_back.new in
    crashes_on c.args.keep (table_of m) (slots_of t.slots) _ (roots_of t.roots.items) t.in_group m.log.items t.log.items _ m.actions m.faults m.unreadable.items _ m.mark m.recovered (given_of m.slots) _ m.next_version
    c.in_ok-take_all_back.ensures.ok (c.settle.ensures.slots ∙ c.join_all.ensures.slots) (c.settle.ensures.given ∙ (c.join_all.ensures.given ∙ c.in_ok-take_all_back.ensures.given)) c.settle.ensures.log c.new-2.ensures.items

pub returns-clause-left : goal.returns-clause-left
returns-clause-left c = may_leave_crashed c.args.keep _ _ (returns-clause-ok c)

pub invariant_of-result-clause-kept : goal.invariant_of-result-clause-kept
invariant_of-result-clause-kept c = flush_keeps _ _ _ c.in_ok-take_all_back.ensures.ok.sealed c.settle.ensures.log

pub invariant_of-result-clause-below : goal.invariant_of-result-clause-below
invariant_of-result-clause-below c = settled_below c.args.self.next_version (slots_of c.take_all_back.new.slots) _ _ (c.settle.ensures.slots ∙ c.join_all.ensures.slots) c.settle.ensures.log (c.in_ok-take_all_back.ensures.below _ c.args.self.below).here
