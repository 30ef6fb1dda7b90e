use Rattle.machine_shared.specs.UnderLock.{IsDone}
use Rattle.machine_shared.proofs.Noted.{step_adds}
use Rattle.machine_shared.proofs.UnderLocks.{caller_is}
use Rattle.machine_shared.proofs.steps.step_adding.Goals as goal

pub returns-in-Some-clause-made : goal.returns-in-Some-clause-made
returns-in-Some-clause-made g c = step_adds g.P.Pages.store g.P.Pages.flush_number g.M.MergeOperator.meant _ _ _ c.step-outcome.result _ _ c.step-outcome.ensures.step c.step-outcome.ensures.made

pub returns-in-Some-clause-steps : goal.returns-in-Some-clause-steps
returns-in-Some-clause-steps g c = IsDone (record {
  old = _;
  new = c.step-outcome.new.self;
  before = c.audit.ensures.held;
  after = c.audit-in-Some.ensures.held;
  is = record {
    step = c.step-outcome.ensures.step;
    adds = record { history = c.step-outcome.ensures.history; list = caller_is c.step-outcome.new.me _ _ c.step-outcome.ensures.number c.step-outcome.ensures.made; opening = c.step-outcome.ensures.opening };
    scans = c.step-outcome.ensures.scans;
  };
})
