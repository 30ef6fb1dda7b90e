use Rattle.edit_calls.proofs.Scanning.{tells_of_end, tells_of_absence}
use Rattle.edit_calls.proofs.scans.end_scan.Goals as goal

pub returns-clause-end : goal.returns-clause-end
returns-clause-end g c = tells_of_end g.P.Pages.store g.P.Pages.flush_number g.M.MergeOperator.meant _ _ _ _ c.law_scans.ensures c.step.ensures.step

pub returns-clause-absent : goal.returns-clause-absent
returns-clause-absent g c e = tells_of_absence g.P.Pages.store g.P.Pages.flush_number g.M.MergeOperator.meant _ _ _ (returns-clause-end g c) _ e
