use Rattle.machine_shared.specs.UnderLock.{IsDone}
use Rattle.machine_shared.proofs.UnderLocks.{abandons}
use Rattle.machine_shared.proofs.steps.abandon_in.Goals as goal

pub returns-in-Some-clause-abandons : goal.returns-in-Some-clause-abandons
returns-in-Some-clause-abandons g c = IsDone (record {
  old = _;
  new = c.abandon-outcome.new.self;
  before = c.audit.ensures.held;
  after = c.audit-in-Some.ensures.held;
  is = abandons g.P.Pages.store g.P.Pages.flush_number g.M.MergeOperator.meant _ c.abandon-outcome.new.self _ c.abandon-outcome.result c.abandon-outcome.ensures.step c.abandon-outcome.ensures.history c.abandon-outcome.ensures.opening c.abandon-outcome.ensures.scans;
})
