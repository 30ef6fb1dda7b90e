use Rattle.edit_calls.proofs.Keeping.{replies_kept, value_kept}
use Rattle.edit_calls.proofs.kept.get_kept.Goals as goal

pub returns-clause-replies : goal.returns-clause-replies
returns-clause-replies g c = replies_kept g.P.Pages.store g.P.Pages.flush_number g.M.MergeOperator.meant _ _ _ _ _ c.step_kept-told.ensures.kept c.step_kept-told.ensures.step

pub returns-clause-now : goal.returns-clause-now
returns-clause-now g c = value_kept g.P.Pages.store g.P.Pages.flush_number g.M.MergeOperator.meant _ _ _ _ _ c.step_kept-told.ensures.kept c.step_kept-told.ensures.step
