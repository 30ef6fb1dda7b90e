use Rattle.std.proofs.Common.{Some, true, [], ap, sym, ◌∙◌}
use Rattle.sled_store.specs.Update.{put_at}
use Rattle.sled_pages.specs.Slots.{slots_of, places_of, given_of}
use Rattle.sled_store.specs.Roots.{roots_of}
use Rattle.sled_pages.proofs.Kept.{allocates, added_is, allocate_keeps, allocate_below, kept_wider, slots_below, short, placed_here, given_here, not_placed}
use Rattle.sled_pages.proofs.Parted.{parts_put, parts_in}
use Rattle.sled_pages.proofs.memory.MemPagesPages.allocate.Goals as goal

pub returns-clause-ok : goal.returns-clause-ok
returns-clause-ok c = let m = c.start_version.new.self in rw (← c.in-Ok.ensures.ok) (
    allocates (slots_of m.slots) _ (roots_of m.roots.items) m.in_group m.log.items _ c.add-pid.result c.in-Ok.node m.actions m.faults m.unreadable.items m.mark m.recovered (given_of m.slots) _ m.next_version _
    c.in_default.ensures.same c.add-pid.ensures.positive (ap (λ f. f c.add-pid.result) (sym c.reserve.ensures.given) ∙ c.add-pid.ensures.fresh) (given_here m.slots)
    (added_is (slots_of m.slots) _ _ c.add-pid.result m.next_version c.new-page.result c.in-Ok.node c.add-pid.ensures.slots c.new-page.ensures c.reserve.ensures.slots)
    (c.add-pid.ensures.given ∙ ap (λ f. put_at f c.add-pid.result true) c.reserve.ensures.given) c.push_reserved.ensures.items)

pub invariant_of-self-2-clause-kept : goal.invariant_of-self-2-clause-kept
invariant_of-self-2-clause-kept c = let m = c.start_version.new.self in
    allocate_keeps (slots_of m.slots) _ (roots_of m.roots.items) m.in_group m.log.items _ c.add-pid.result (Some (record { version = m.next_version; page = (c.in-Ok.node, []) })) (places_of m.slots) _ _
    (not_placed m.slots c.add-pid.result (ap (λ f. f c.add-pid.result) (sym c.reserve.ensures.given) ∙ c.add-pid.ensures.fresh)) (placed_here m.slots)
    (added_is (slots_of m.slots) _ _ c.add-pid.result m.next_version c.new-page.result c.in-Ok.node c.add-pid.ensures.slots c.new-page.ensures c.reserve.ensures.slots)
    c.reserve.ensures.places c.add-pid.ensures.places c.push_reserved.ensures.items m.kept

pub invariant_of-self-2-clause-below : goal.invariant_of-self-2-clause-below
invariant_of-self-2-clause-below c = let m = c.start_version.new.self in
    allocate_below m.next_version (slots_of m.slots) _ m.log.items _ c.add-pid.result c.in-Ok.node
    (added_is (slots_of m.slots) _ _ c.add-pid.result m.next_version c.new-page.result c.in-Ok.node c.add-pid.ensures.slots c.new-page.ensures c.reserve.ensures.slots) c.push_reserved.ensures.items m.below

pub invariant_of-self-in-Err-reserve : goal.invariant_of-self-in-Err-reserve
invariant_of-self-in-Err-reserve c = let m = c.start_version.new.self in record {
  kept = kept_wider (slots_of m.slots) _ (roots_of m.roots.items) m.in_group m.log.items (places_of m.slots) _ c.reserve.ensures.slots c.reserve.ensures.places m.kept;
  ascends = m.ascends;
  below = slots_below m.next_version (slots_of m.slots) _ m.log.items c.reserve.ensures.slots m.below;
}

pub returns-in-Err-reserve-clause-err : goal.returns-in-Err-reserve-clause-err
returns-in-Err-reserve-clause-err c = let m = c.start_version.new.self in
    short (slots_of m.slots) _ (roots_of m.roots.items) m.in_group m.log.items m.actions m.faults m.unreadable.items m.mark m.recovered (given_of m.slots) _ m.next_version _ _ c.in-Err-reserve.ensures.err c.in_default.ensures.same c.reserve.ensures.slots c.reserve.ensures.given

pub invariant_of-self-in-Err-new : goal.invariant_of-self-in-Err-new
invariant_of-self-in-Err-new c = let m = c.start_version.new.self in record {
  kept = kept_wider (slots_of m.slots) _ (roots_of m.roots.items) m.in_group m.log.items (places_of m.slots) _ c.reserve.ensures.slots c.reserve.ensures.places m.kept;
  ascends = m.ascends;
  below = slots_below m.next_version (slots_of m.slots) _ m.log.items c.reserve.ensures.slots m.below;
}

pub returns-in-Err-new-clause-err : goal.returns-in-Err-new-clause-err
returns-in-Err-new-clause-err c = let m = c.start_version.new.self in
    short (slots_of m.slots) _ (roots_of m.roots.items) m.in_group m.log.items m.actions m.faults m.unreadable.items m.mark m.recovered (given_of m.slots) _ m.next_version _ _ c.in-Err-new.ensures.err c.in_default.ensures.same c.reserve.ensures.slots c.reserve.ensures.given

pub returns-clause-parts : goal.returns-clause-parts
returns-clause-parts c = let m = c.start_version.new.self in rw (← c.in-Ok.ensures.ok) (
    parts_put (slots_of m.slots) _ c.add-pid.result (Some (record { version = m.next_version; page = (c.in-Ok.node, []) }))
    (added_is (slots_of m.slots) _ _ c.add-pid.result m.next_version c.new-page.result c.in-Ok.node c.add-pid.ensures.slots c.new-page.ensures c.reserve.ensures.slots)
    ∙ ap (λ f. put_at f c.add-pid.result (Some (c.in-Ok.node, []))) c.start_version.ensures.parts)

pub returns-in-Err-reserve-clause-kept : goal.returns-in-Err-reserve-clause-kept
returns-in-Err-reserve-clause-kept c = ap parts_in c.reserve.ensures.slots ∙ c.start_version.ensures.parts

pub returns-in-Err-new-clause-kept : goal.returns-in-Err-new-clause-kept
returns-in-Err-new-clause-kept c = ap parts_in c.reserve.ensures.slots ∙ c.start_version.ensures.parts
