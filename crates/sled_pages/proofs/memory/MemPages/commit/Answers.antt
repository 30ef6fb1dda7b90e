use Rattle.sled_pages.specs.Slots.{slots_of, places_of, given_of}
use Rattle.sled_store.specs.Roots.{roots_of}
use Rattle.sled_pages.proofs.Kept.{page_commits, page_keeps, page_below}
use Rattle.sled_pages.proofs.Parted.{parts_put}
use Rattle.sled_pages.proofs.memory.MemPages.commit.Goals as goal

pub returns-clause-is : goal.returns-clause-is
returns-clause-is c = let m = c.args.self.now in
    page_commits (slots_of m.slots) _ (roots_of m.roots.items) m.in_group m.log.items _ c.args.pid c.args.slot _ m.actions m.faults m.unreadable.items m.mark m.recovered (given_of m.slots) _ m.next_version
    c.put-old.ensures.slots c.put-old.ensures.was c.push_reserved.ensures.items c.put-old.ensures.given

pub invariant_of-self-clause-kept : goal.invariant_of-self-clause-kept
invariant_of-self-clause-kept c = let m = c.args.self.now in
    page_keeps (slots_of m.slots) _ (roots_of m.roots.items) m.in_group m.log.items _ c.args.pid c.args.slot _ (places_of m.slots) _
    c.put-old.ensures.slots c.put-old.ensures.was c.push_reserved.ensures.items c.put-old.ensures.places c.requires.placed m.kept

pub invariant_of-self-clause-below : goal.invariant_of-self-clause-below
invariant_of-self-clause-below c = let m = c.args.self.now in
    page_below m.next_version (slots_of m.slots) _ m.log.items _ c.args.pid c.args.slot _ c.put-old.ensures.slots c.put-old.ensures.was c.push_reserved.ensures.items c.requires.below m.below

pub returns-clause-parts : goal.returns-clause-parts
returns-clause-parts c = parts_put (slots_of c.args.self.now.slots) _ c.args.pid c.args.slot c.put-old.ensures.slots
