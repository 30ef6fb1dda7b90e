use Rattle.std.proofs.Common.{refl, ◌+◌}
use Rattle.machine_alone.proofs.Machines.{room_as, begun_as, begun_machine_as}
use Rattle.machine_alone.proofs.machine.Machine.begin.Goals as goal

pub returns-in-Err-clause-err : goal.returns-in-Err-clause-err
returns-in-Err-clause-err g c = c.in-Err.ensures.err

pub returns-in-Err-add-clause-err : goal.returns-in-Err-add-clause-err
returns-in-Err-add-clause-err g c = room_as g.P.Pages.store g.P.Pages.flush_number g.M.MergeOperator.meant _ _ c.self.view_is c.self.invariant _ _ _ c.in-Ok.ensures.tested c.in-Err-add.ensures.err c.add.new.flights.entries c.in-Err-add.ensures.same

pub invariant_of-self-2 : goal.invariant_of-self-2
invariant_of-self-2 g c = begun_machine_as g.P.Pages.store g.P.Pages.flush_number g.M.MergeOperator.meant _ _ c.self.view_is c.self.invariant c.args.tree.now c.in-Ok.tree c.args.call c.in-Ok.ensures.ok c.in-Ok.ensures.tested c.new.result c.new.ensures (c.self.inside.slots_given + 1) refl _ c.in_default.ensures.ok

pub returns-clause-ok : goal.returns-clause-ok
returns-clause-ok g c = begun_as g.P.Pages.store g.P.Pages.flush_number g.M.MergeOperator.meant _ _ c.self.view_is c.self.invariant c.args.tree.now c.in-Ok.tree c.args.call c.in-Ok.ensures.ok c.in-Ok.ensures.tested c.new.result c.new.ensures (c.self.inside.slots_given + 1) refl c.add.new.flights.entries c.in_default.ensures.ok
