use Rattle.std.proofs.Common.{refl, ap, ◌∙◌}
use Rattle.sled_pages.proofs.Kept.{kept_wider, slots_below, placed_here, short, stays}
use Rattle.sled_pages.specs.Slots.{slots_of, places_of, given_of}
use Rattle.sled_store.specs.Roots.{roots_of}
use Rattle.sled_pages.proofs.Linked.{relinked, not_relinked, told_other, changes_none, links, link_keeps, link_below}
use Rattle.sled_pages.specs.Memory.{parts_of}
use Rattle.sled_nodes.specs.Node.{after_link}
use Rattle.sled_pages.proofs.Parted.{link_parts, parts_in}
use Rattle.sled_pages.proofs.memory.MemPagesPages.link.Goals as goal

-- the page has the version

pub returns-in-Ok-Ok-clause-ok : goal.returns-in-Ok-Ok-clause-ok
returns-in-Ok-Ok-clause-ok c = let m = c.start_version.new.self in
    let h = relinked c.args.link c.args.pid c.args.version m.next_version (slots_of m.slots) _ _ c.in-Ok-Ok.undo c.in-Ok-Ok.field-0-is c.in-Ok-Ok.ensures.told c.in-Ok-Ok.ensures.ok in
    links m _ _ c.args.link c.args.pid c.args.version _ (given_of m.slots) _ _ (roots_of m.roots.items) m.actions m.faults m.unreadable.items m.mark m.recovered m.next_version
    refl c.in_default.ensures.same h c.push_reserved.ensures.items c.link.ensures.given

pub returns-in-Ok-Ok-clause-parts : goal.returns-in-Ok-Ok-clause-parts
returns-in-Ok-Ok-clause-parts c = let m = c.start_version.new.self in
    let h = relinked c.args.link c.args.pid c.args.version m.next_version (slots_of m.slots) _ _ c.in-Ok-Ok.undo c.in-Ok-Ok.field-0-is c.in-Ok-Ok.ensures.told c.in-Ok-Ok.ensures.ok in
    record { is = link_parts c.args.link c.args.pid c.args.version m.next_version (slots_of m.slots) _ _ (parts_of c.args.self.now) c.start_version.ensures.parts h }

pub invariant_of-self-clause-kept : goal.invariant_of-self-clause-kept
invariant_of-self-clause-kept c = let m = c.start_version.new.self in
    let h = relinked c.args.link c.args.pid c.args.version m.next_version (slots_of m.slots) _ _ c.in-Ok-Ok.undo c.in-Ok-Ok.field-0-is c.in-Ok-Ok.ensures.told c.in-Ok-Ok.ensures.ok in
    link_keeps (slots_of m.slots) _ (roots_of m.roots.items) m.in_group m.log.items _ c.args.link c.args.pid c.args.version _ _ (places_of m.slots) _
    h c.push_reserved.ensures.items c.link.ensures.places (placed_here m.slots c.args.pid _ h.was) m.kept

pub invariant_of-self-clause-below : goal.invariant_of-self-clause-below
invariant_of-self-clause-below c = let m = c.start_version.new.self in
    let h = relinked c.args.link c.args.pid c.args.version m.next_version (slots_of m.slots) _ _ c.in-Ok-Ok.undo c.in-Ok-Ok.field-0-is c.in-Ok-Ok.ensures.told c.in-Ok-Ok.ensures.ok in
    link_below m.next_version (slots_of m.slots) _ m.log.items _ c.args.link c.args.pid c.args.version _ h c.push_reserved.ensures.items m.below

-- it has another version, or there is none

pub returns-in-Ok-Err-clause-ok : goal.returns-in-Ok-Err-clause-ok
returns-in-Ok-Err-clause-ok c = let m = c.start_version.new.self in
    let same = not_relinked c.args.link c.args.pid c.args.version m.next_version (slots_of m.slots) _ _ c.in-Ok-Err.present c.in-Ok-Err.field-0-is c.in-Ok-Err.ensures.told c.in-Ok-Err.ensures.ok in
    changes_none (after_link c.args.link) c.args.pid c.args.version c.in-Ok-Err.present _ _ _ c.in_default.ensures.same (told_other m c.args.pid c.args.version _ c.in-Ok-Err.present c.in-Ok-Err.field-0-is c.in-Ok-Err.ensures.told)
    (stays (slots_of m.slots) _ (roots_of m.roots.items) m.in_group m.log.items m.actions m.faults m.unreadable.items m.mark m.recovered (given_of m.slots) _ m.next_version same c.link.ensures.given)

pub returns-in-Ok-Err-clause-parts : goal.returns-in-Ok-Err-clause-parts
returns-in-Ok-Err-clause-parts c = let m = c.start_version.new.self in
    record { is = ap parts_in (not_relinked c.args.link c.args.pid c.args.version m.next_version (slots_of m.slots) _ _ c.in-Ok-Err.present c.in-Ok-Err.field-0-is c.in-Ok-Err.ensures.told c.in-Ok-Err.ensures.ok) ∙ c.start_version.ensures.parts }

pub invariant_of-self-in-Err-link-2 : goal.invariant_of-self-in-Err-link-2
invariant_of-self-in-Err-link-2 c = let m = c.start_version.new.self in
    let same = not_relinked c.args.link c.args.pid c.args.version m.next_version (slots_of m.slots) _ _ c.in-Ok-Err.present c.in-Ok-Err.field-0-is c.in-Ok-Err.ensures.told c.in-Ok-Err.ensures.ok in record {
      kept = kept_wider (slots_of m.slots) _ (roots_of m.roots.items) m.in_group m.log.items (places_of m.slots) _ same (λ p e. ap (λ f. f p) c.link.ensures.places ∙ e) m.kept;
      ascends = m.ascends;
      below = slots_below m.next_version (slots_of m.slots) _ m.log.items same m.below;
    }

-- there is no memory

pub invariant_of-self-in-Err-link : goal.invariant_of-self-in-Err-link
invariant_of-self-in-Err-link c = let m = c.start_version.new.self in record {
  kept = kept_wider (slots_of m.slots) _ (roots_of m.roots.items) m.in_group m.log.items (places_of m.slots) _ c.in-Err-link.ensures.err (λ p e. ap (λ f. f p) c.link.ensures.places ∙ e) m.kept;
  ascends = m.ascends;
  below = slots_below m.next_version (slots_of m.slots) _ m.log.items c.in-Err-link.ensures.err m.below;
}

pub returns-in-Err-link-clause-err : goal.returns-in-Err-link-clause-err
returns-in-Err-link-clause-err c = let m = c.start_version.new.self in
    short (slots_of m.slots) _ (roots_of m.roots.items) m.in_group m.log.items m.actions m.faults m.unreadable.items m.mark m.recovered (given_of m.slots) _ m.next_version _ _ c.in-Err-link.ensures.cause c.in_default.ensures.same c.in-Err-link.ensures.err c.link.ensures.given

pub returns-in-Err-link-clause-kept : goal.returns-in-Err-link-clause-kept
returns-in-Err-link-clause-kept c = ap parts_in c.in-Err-link.ensures.err ∙ c.start_version.ensures.parts
