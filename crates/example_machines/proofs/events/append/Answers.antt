use Rattle.std.proofs.Common.{◌∙◌}
use Rattle.example_machines.proofs.Streams.{keeps_unnumbered, keeps_unspelled, keeps_unwritten, appends}
use Rattle.example_machines.proofs.events.append.Goals as goal

pub returns-in-Err-clause-err : goal.returns-in-Err-clause-err
returns-in-Err-clause-err g c = keeps_unnumbered g.P.Pages.store g.M.MergeOperator.meant _ _ _ c.in-Err.ensures.err

pub returns-in-Err-spell-clause-err : goal.returns-in-Err-spell-clause-err
returns-in-Err-spell-clause-err g c = keeps_unspelled g.P.Pages.store g.M.MergeOperator.meant _ _ _ c.in-Ok.ensures.ok

pub returns-in-Ok-insert-clause-ok : goal.returns-in-Ok-insert-clause-ok
returns-in-Ok-insert-clause-ok g c = appends g.P.Pages.store g.M.MergeOperator.meant _ _ _ c.in-Ok.ensures.ok _ _ _ _ _ c.in-Ok-insert.ensures.changes c.in-Ok-insert.ensures.leaves (c.as_ref.ensures ∙ c.in-Ok-spell.ensures.ok) c.in-Ok-spell.ensures.is_value.0

pub returns-in-Err-insert-clause-err : goal.returns-in-Err-insert-clause-err
returns-in-Err-insert-clause-err g c = keeps_unwritten g.P.Pages.store g.M.MergeOperator.meant _ _ _ c.in-Ok.ensures.ok _ _ _ _ _ c.in-Err-insert.ensures.refuses c.in-Err-insert.ensures.leaves
