use Rattle.std.proofs.Common.{rules, ◌≡◌, ℕ, Some, refl, sym}
use Rattle.std.specs.Ordering.{nat_cmp}
use Rattle.std.specs.BTreeMap.{get}
use Rattle.sled_store.specs.Update.{put_at}
use Rattle.machine_alone.proofs.Finishing.{missing_finish_as, finished_all, finished_as}
use Rattle.machine_alone.proofs.Steps.{settled}
use Rattle.machine_alone.proofs.machine.Machine.finish.Goals as goal

pub advance_to_end-went-requires-after_bounds : goal.advance_to_end-went-requires-after_bounds
advance_to_end-went-requires-after_bounds g c κs within = c.self.invariant.known c.slot.inside.0 c.in-Some.flight.now (sym c.in-Some.ensures.value)

pub returns-in_default : goal.returns-in_default
returns-in_default g c = missing_finish_as g.P.Pages.store g.P.Pages.flush_number g.M.MergeOperator.meant _ _ c.self.view_is c.self.invariant _ _ c.slot.view_is _ _ refl (search rules) (search rules)

pub invariant_of-self-2 : goal.invariant_of-self-2
invariant_of-self-2 g c =
    let next = c.advance_to_end-went.new.flight in
    let is : (q : ℕ) → get nat_cmp (c.get_mut.follows.lender next) q ≡ put_at (get nat_cmp c.self.inside.flights) c.slot.inside.0 (Some next) q = search rules in
    (finished_all g.P.Pages.store g.P.Pages.flush_number g.M.MergeOperator.meant (record { db = c.self.inside.db; flights = c.self.inside.flights.entries; slots_given = c.self.inside.slots_given }) c.self.invariant c.slot.inside.0 c.advance_to_end-went.new.self c.settle.new.flights.entries
    c.in-Some.flight.now next c.advance_to_end-went.result (sym c.in-Some.ensures.value) c.advance_to_end-went.ensures (settled _ _ _ c.slot.inside.0 c.advance_to_end-went.result next is c.settle.ensures.stays)).1

pub returns : goal.returns
returns g c =
    let next = c.advance_to_end-went.new.flight in
    let is : (q : ℕ) → get nat_cmp (c.get_mut.follows.lender next) q ≡ put_at (get nat_cmp c.self.inside.flights) c.slot.inside.0 (Some next) q = search rules in
    finished_as g.P.Pages.store g.P.Pages.flush_number g.M.MergeOperator.meant _ _ c.self.view_is c.self.invariant _ _ c.slot.view_is c.advance_to_end-went.new.self c.settle.new.flights.entries _ c.in-Some.flight.now next c.advance_to_end-went.result c.settle.ensures.told (sym c.in-Some.ensures.value)
    c.advance_to_end-went.ensures (settled _ _ _ c.slot.inside.0 c.advance_to_end-went.result next is c.settle.ensures.stays)
