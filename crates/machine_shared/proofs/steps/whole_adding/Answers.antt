use Rattle.machine_shared.specs.UnderLock.{IsDone}
use Rattle.machine_shared.proofs.Replying.{whole_replies}
use Rattle.machine_shared.proofs.WholeAdds.{whole_adds}
use Rattle.machine_shared.proofs.steps.whole_adding.Goals as goal

pub returns-in-Some-clause-made : goal.returns-in-Some-clause-made
returns-in-Some-clause-made g c = whole_adds g.P.Pages.store g.P.Pages.flush_number g.M.MergeOperator.meant _ _ _ _ _ _ _ _ c.whole-outcome.result c.whole-outcome.ensures.whole

pub returns-in-Some-clause-replies : goal.returns-in-Some-clause-replies
returns-in-Some-clause-replies g c = whole_replies g.P.Pages.store g.P.Pages.flush_number g.M.MergeOperator.meant _ _ _ _ _ _ _ _ c.whole-outcome.result c.whole-outcome.ensures.whole

pub returns-in-Some-clause-wholes : goal.returns-in-Some-clause-wholes
returns-in-Some-clause-wholes g c = IsDone (record {
  old = _;
  new = c.whole-outcome.new.self;
  before = c.audit.ensures.held;
  after = c.audit-in-Some.ensures.held;
  is = record { notes = c.whole-outcome.ensures.whole; number = c.whole-outcome.ensures.number; opening = c.whole-outcome.ensures.opening; scans = c.whole-outcome.ensures.scans };
})
