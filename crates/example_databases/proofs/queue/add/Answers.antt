use Rattle.example_databases.proofs.Queueing.{added, not_added}
use Rattle.example_databases.proofs.queue.add.Goals as goal

pub returns-in-Err-clause-err : goal.returns-in-Err-clause-err
returns-in-Err-clause-err g c = not_added g.P.Pages.store g.M.MergeOperator.meant _ _ _ _ _ c.in-Err.ensures.refuses

pub returns-clause-ok : goal.returns-clause-ok
returns-clause-ok g c = added g.P.Pages.store g.M.MergeOperator.meant _ _ _ _ _ _ c.in-Ok.ensures.changes
