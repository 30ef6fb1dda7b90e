use Rattle.example_machines.proofs.Streams.{opens, keeps_unopened}
use Rattle.example_machines.proofs.events.open_stream.Goals as goal

pub returns-in-Ok-clause-ok : goal.returns-in-Ok-clause-ok
returns-in-Ok-clause-ok g c = opens g.P.Pages.store g.M.MergeOperator.meant _ _ _ _ c.in-Ok.ensures.ok

pub returns-in-Err-clause-err : goal.returns-in-Err-clause-err
returns-in-Err-clause-err g c = keeps_unopened g.P.Pages.store g.M.MergeOperator.meant _ _ _ _ c.in-Err.ensures.err
