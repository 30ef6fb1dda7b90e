use Rattle.std.proofs.Common.{inl, refl, ◌+◌}
use Rattle.machine_alone.proofs.Finishing.{completed_as, completed_machine}
use Rattle.machine_alone.proofs.Machines.{short_as}
use Rattle.machine_alone.proofs.machine.Machine.complete_in_flight.Goals as goal

pub invariant_of-self : goal.invariant_of-self
invariant_of-self g c =
    let slot = c.self.inside.slots_given + 1 in
    completed_machine g.P.Pages.store g.P.Pages.flush_number g.M.MergeOperator.meant _ _ c.self.view_is c.self.invariant c.args.tree.now c.in-Ok.tree c.args.call c.in-Ok.ensures.ok c.requires.tested c.new-flight.result c.new-flight.ensures c.requires.on_key slot refl c.advance_on-went.new.self _ _ c.advance_on-went.ensures

pub returns : goal.returns
returns g c =
    let slot = c.self.inside.slots_given + 1 in
    completed_as g.P.Pages.store g.P.Pages.flush_number g.M.MergeOperator.meant _ _ c.self.view_is c.self.invariant c.args.tree.now c.in-Ok.tree c.args.call c.in-Ok.ensures.ok c.requires.tested c.new-flight.result c.new-flight.ensures c.requires.on_key slot refl c.advance_on-went.new.self _ _ c.outcome_of.result c.outcome_of.ensures c.advance_on-went.ensures

pub returns-in-Err : goal.returns-in-Err
returns-in-Err g c = inl (record { error = c.in-Err.e; is = refl; reaches = short_as g.P.Pages.store g.P.Pages.flush_number g.M.MergeOperator.meant _ _ c.self.view_is c.self.invariant _ _ _ c.requires.tested c.in-Err.ensures.err })
