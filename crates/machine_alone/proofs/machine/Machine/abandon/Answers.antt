use Rattle.std.proofs.Common.{refl, sym, ◌∙◌}
use Rattle.sled.proofs.Opening.{some_there}
use Rattle.machine_alone.proofs.Machines.{missing_abandon_as, rests_machine, none_there, abandoned_as, abandoned_machine}
use Rattle.machine_alone.proofs.machine.Machine.abandon.Goals as goal

pub returns-then-remove : goal.returns-then-remove
returns-then-remove g c =
    let there = some_there _ (sym c.remove.ensures.was ∙ c.if-remove.true) in
    abandoned_as g.P.Pages.store g.P.Pages.flush_number g.M.MergeOperator.meant _ _ c.self.view_is c.self.invariant _ _ c.slot.view_is there.0 there.1 c.remove.new.flights.entries c.remove.ensures.gone

pub returns : goal.returns
returns g c = missing_abandon_as g.P.Pages.store g.P.Pages.flush_number g.M.MergeOperator.meant _ _ c.self.view_is c.self.invariant _ _ c.slot.view_is _ _ refl (c.remove.ensures.same c.if-remove.false) (none_there _ (sym c.remove.ensures.was ∙ c.if-remove.false))

pub invariant_of-self : goal.invariant_of-self
invariant_of-self g c =
    let there = some_there _ (sym c.remove.ensures.was ∙ c.if-remove.true) in
    abandoned_machine g.P.Pages.store g.P.Pages.flush_number g.M.MergeOperator.meant (record { db = c.self.inside.db; flights = c.self.inside.flights.entries; slots_given = c.self.inside.slots_given }) c.self.invariant c.slot.inside.0 there.0 there.1 c.remove.new.flights.entries c.remove.ensures.gone

pub invariant_of-self-2 : goal.invariant_of-self-2
invariant_of-self-2 g c = rests_machine g.P.Pages.store g.P.Pages.flush_number g.M.MergeOperator.meant _ _ c.self.view_is c.self.invariant _ _ c.slot.view_is _ _ refl (c.remove.ensures.same c.if-remove.false)
