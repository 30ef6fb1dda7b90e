use Rattle.std.proofs.Common.{◌≡◌, length, rules, ap, sym, ◌∙◌}
use Rattle.sled_pages.specs.Slots.{slots_of, given_of}
use Rattle.sled_store.specs.Roots.{roots_of}
use Rattle.sled_pages.specs.Memory.{table_of}
use Rattle.sled_pages.proofs.Kept.{settles, flush_keeps, settled_below, group_here}
use Rattle.sled_pages.proofs.Back.{length_recent_log}
use Rattle.sled_pages.proofs.Parted.{parts_in}
use Rattle.sled_pages.proofs.memory.MemPages.flush_uncounted.Goals as goal

pub returns-clause-ok : goal.returns-clause-ok
returns-clause-ok c = let m = c.args.self.now in
    settles (slots_of m.slots) _ (roots_of m.roots.items) m.in_group m.log.items _ m.actions m.faults m.unreadable.items m.mark m.recovered (given_of m.slots) _ m.next_version
    c.settle.ensures.slots c.settle.ensures.given c.settle.ensures.log

pub returns-clause-number : goal.returns-clause-number
returns-clause-number c = let m = c.args.self.now in
    let n : c.len-count.result ≡ length m.log.items = search rules in
    n ∙ sym (length_recent_log m.log.items (table_of m))

pub invariant_of-self-clause-kept : goal.invariant_of-self-clause-kept
invariant_of-self-clause-kept c = let m = c.args.self.now in
    flush_keeps _ _ _ (sym (group_here m) ∙ c.requires) c.settle.ensures.log

pub invariant_of-self-clause-below : goal.invariant_of-self-clause-below
invariant_of-self-clause-below c = let m = c.args.self.now in settled_below m.next_version (slots_of m.slots) _ _ c.settle.ensures.slots c.settle.ensures.log m.below.here

pub returns-clause-parts : goal.returns-clause-parts
returns-clause-parts c = ap parts_in c.settle.ensures.slots
