use Rattle.machine_shared.proofs.UnderLocks.{begins}
use Rattle.machine_shared.proofs.steps.begin_in.Goals as goal

pub returns-in-Some : goal.returns-in-Some
returns-in-Some g c = record {
  begins = begins g.P.Pages.store g.P.Pages.flush_number g.M.MergeOperator.meant _ c.begin-begun.new.self _ _ c.begin-begun.result c.audit.ensures.held c.audit-in-Some.ensures.held
      c.begin-begun.ensures.ok c.begin-begun.ensures.err c.begin-begun.ensures.history c.begin-begun.ensures.opening c.begin-begun.ensures.scans c.begin-begun.ensures.same_scans;
}
