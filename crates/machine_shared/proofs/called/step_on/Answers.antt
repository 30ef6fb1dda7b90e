use Rattle.std.proofs.Common.{◌≢◌, ◌≤◌, Some, option_map, refl, subst}
use Rattle.sled_tree.specs.declared.flight.Job.{Job}
use Rattle.machine_alone.specs.Values.{MachineValue, job_of_call, slots_of}
use Rattle.machine_shared.specs.UnderLock.{LostSlot}
use Rattle.machine_shared.proofs.called.step_on.Goals as goal

pub returns-then-has_given-clause-ends : goal.returns-then-has_given-clause-ends
returns-then-has_given-clause-ends g c = LostSlot c.requires.began (record {
  old = c.in-Some.state;
  new = c.in-Some.state;
  before = c.audit.ensures.held;
  after = c.audit.ensures.held;
  is = record {
    given = subst (λ (m : MachineValue _ _). c.args.slot ≤ m.slots_given) c.machine-else-has_job.ensures (c.has_given.ensures c.if-has_given.true);
    gone = subst (λ (m : MachineValue _ _). option_map job_of_call (slots_of m.flights c.args.slot) ≢ Some (c.args.jobs.0.tree, c.args.jobs.0.call)) c.machine.ensures
        (subst (λ (j : Job). option_map job_of_call (slots_of c.machine.result.now.flights c.args.slot) ≢ Some (j.tree, j.call)) c.first.ensures (c.has_job.ensures.no c.if-has_job.false));
    same = refl;
  };
}) refl refl
