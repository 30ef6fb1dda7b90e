use Rattle.std.proofs.Common.{refl, ◌+◌}
use Rattle.sled.specs.Direct.{begun_flight}
use Rattle.machine_alone.proofs.Finishing.{completed_as, completed_machine}
use Rattle.machine_alone.proofs.machine.Machine.complete_quick.Goals as goal

pub invariant_of-self-in-Some : goal.invariant_of-self-in-Some
invariant_of-self-in-Some g c =
    let slot = c.self.inside.slots_given + 1 in
    completed_machine g.P.Pages.store g.P.Pages.flush_number g.M.MergeOperator.meant _ _ c.self.view_is c.self.invariant c.args.tree.now c.args.tree.now c.args.call.now refl c.requires.tested (begun_flight c.args.tree.now c.args.call.now) refl c.requires.on_key slot refl c.make_quick.new.self _ _ c.in-Some.ensures.made.steps

pub returns-in-Some-clause-done : goal.returns-in-Some-clause-done
returns-in-Some-clause-done g c =
    let slot = c.self.inside.slots_given + 1 in
    completed_as g.P.Pages.store g.P.Pages.flush_number g.M.MergeOperator.meant _ _ c.self.view_is c.self.invariant c.args.tree.now c.args.tree.now c.args.call.now refl c.requires.tested (begun_flight c.args.tree.now c.args.call.now) refl c.requires.on_key slot refl c.make_quick.new.self _ _ c.outcome_at_once.result c.outcome_at_once.ensures c.in-Some.ensures.made.steps
