use Rattle.machine_shared.specs.UnderLock.{EndsBySteps}
use Rattle.machine_shared.proofs.UnderLocks.{caller_is, ends_stepped, stays_in}
use Rattle.machine_shared.proofs.state.State.step_on.Goals as goal

pub returns-clause-ends : goal.returns-clause-ends
returns-clause-ends g c = ends_stepped g.P.Pages.store g.P.Pages.flush_number g.M.MergeOperator.meant _ _ _ c.step_copied-outcome.new.me c.step_copied-outcome.result.0 c.args.slot c.step_copied-outcome.result.1 c.taken_on.result c.taken_on.ensures (EndsBySteps c.requires.began (record {
  old = c.args.self.now;
  new = c.step_copied-outcome.new.self;
  before = c.audit.ensures.held;
  after = c.audit-2.ensures.held;
  is = record {
    its = c.requires.here;
    step = c.step_copied-outcome.ensures.step;
    adds = record { history = c.step_copied-outcome.ensures.history; list = caller_is c.step_copied-outcome.new.me _ _ c.step_copied-outcome.ensures.number c.step_copied-outcome.ensures.made; opening = c.step_copied-outcome.ensures.opening };
    scans = c.step_copied-outcome.ensures.scans;
  };
}))

pub returns-clause-stays : goal.returns-clause-stays
returns-clause-stays g c = stays_in c.step_copied-outcome.result.0 c.args.slot c.step_copied-outcome.result.1 c.taken_on.result c.taken_on.ensures
