use Rattle.line_sessions.proofs.Obeying.{written_after}
use Rattle.line_sessions.proofs.lines.answer.Goals as goal

pub returns-clause-obeys : goal.returns-clause-obeys
returns-clause-obeys g c = written_after g.P.Pages.store g.P.Pages.flush_number g.M.MergeOperator.meant _ _ _ _ _ _ _ _ _ _ c.in_ok-run.ensures c.write.ensures.prints
