use Rattle.example_machines.proofs.Streams.{reads_from, reads_foreign}
use Rattle.example_machines.proofs.events.read_from.Goals as goal

pub returns-in-Ok-clause-ok : goal.returns-in-Ok-clause-ok
returns-in-Ok-clause-ok g c = reads_from g.P.Pages.store g.M.MergeOperator.meant _ _ _ _ c.in-Ok.ensures.ok

pub returns-in-Err-clause-foreign : goal.returns-in-Err-clause-foreign
returns-in-Err-clause-foreign g c = λ e. reads_foreign g.P.Pages.store g.M.MergeOperator.meant _ _ (c.in-Err.ensures.foreign e)
