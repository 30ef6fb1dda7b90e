use Rattle.std.proofs.Common.{rules, ◌≡◌, ℕ, Some, refl, sym}
use Rattle.std.specs.Ordering.{nat_cmp}
use Rattle.std.specs.BTreeMap.{get}
use Rattle.sled_store.specs.Update.{put_at}
use Rattle.tree_steps.proofs.Unkept.{unkept_missing}
use Rattle.machine_alone.proofs.Machines.{missing_step_as, rests_machine, stepped_as, stepped_slot}
use Rattle.machine_alone.proofs.Steps.{settled}
use Rattle.machine_alone.proofs.machine.Machine.step_keeping.Goals as goal

pub advance_keeping-went-requires-after_bounds : goal.advance_keeping-went-requires-after_bounds
advance_keeping-went-requires-after_bounds g c κs within = c.self.invariant.known c.slot.inside.0 c.in-Some.flight.now (sym c.in-Some.ensures.value)

pub returns-in_default : goal.returns-in_default
returns-in_default g c =
    let r = missing_step_as g.P.Pages.store g.P.Pages.flush_number g.M.MergeOperator.meant _ _ c.self.view_is c.self.invariant _ _ c.slot.view_is _ _ refl (search rules) (search rules) in record { step = r.step; sound = r.sound; does = r.does; follows = r.follows; passes = r.passes; slots = r.slots; loses = r.loses; leaves = r.leaves; kept = c.nothing.ensures _ (unkept_missing _) }

pub invariant_of-self-2 : goal.invariant_of-self-2
invariant_of-self-2 g c =
    let next = c.advance_keeping-went.new.flight in
    let is : (q : ℕ) → get nat_cmp (c.get_mut.follows.lender next) q ≡ put_at (get nat_cmp c.self.inside.flights) c.slot.inside.0 (Some next) q = search rules in
    let a = c.advance_keeping-went.ensures in
    (stepped_as g.P.Pages.store g.P.Pages.flush_number g.M.MergeOperator.meant (record { db = c.self.inside.db; flights = c.self.inside.flights.entries; slots_given = c.self.inside.slots_given }) c.self.invariant c.slot.inside.0 c.advance_keeping-went.new.self c.settle.new.flights.entries
    c.in-Some.flight.now next c.advance_keeping-went.result.0 (sym c.in-Some.ensures.value)
    (record { step = a.step; sound = a.sound; does = a.does; follows = a.follows; passes = a.passes; loses = a.loses; leaves = a.leaves; knows = a.knows })
    (settled _ _ _ c.slot.inside.0 c.advance_keeping-went.result.0 next is c.settle.ensures.stays)).1

pub returns : goal.returns
returns g c =
    let next = c.advance_keeping-went.new.flight in
    let is : (q : ℕ) → get nat_cmp (c.get_mut.follows.lender next) q ≡ put_at (get nat_cmp c.self.inside.flights) c.slot.inside.0 (Some next) q = search rules in
    let a = c.advance_keeping-went.ensures in
    let r =
    stepped_slot g.P.Pages.store g.P.Pages.flush_number g.M.MergeOperator.meant _ _ c.self.view_is c.self.invariant _ _ c.slot.view_is c.advance_keeping-went.new.self c.settle.new.flights.entries _ c.in-Some.flight.now next c.advance_keeping-went.result.0 c.settle.ensures.told (sym c.in-Some.ensures.value)
    (record { step = a.step; sound = a.sound; does = a.does; follows = a.follows; passes = a.passes; loses = a.loses; leaves = a.leaves; knows = a.knows })
    (settled _ _ _ c.slot.inside.0 c.advance_keeping-went.result.0 next is c.settle.ensures.stays) in record { step = r.step; sound = r.sound; does = r.does; follows = r.follows; passes = r.passes; slots = r.slots; loses = r.loses; leaves = r.leaves; kept = search rules }
