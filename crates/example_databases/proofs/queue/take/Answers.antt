use Rattle.example_databases.proofs.Queueing.{taken, not_taken}
use Rattle.example_databases.proofs.queue.take.Goals as goal

pub returns-in-Ok-clause-ok : goal.returns-in-Ok-clause-ok
returns-in-Ok-clause-ok g c = taken g.P.Pages.store g.M.MergeOperator.meant _ _ _ _ c.audit.ensures.ascend c.in-Ok.ensures.ok

pub returns-in-Err-clause-err : goal.returns-in-Err-clause-err
returns-in-Err-clause-err g c = not_taken g.P.Pages.store g.M.MergeOperator.meant _ _ _ _ c.in-Err.ensures.err
