use Rattle.std.proofs.Common.{sym, ◌∙◌, Ok, Err}
use Rattle.sled.proofs.Flushing.{flush_refused_as, flush_done_as}
use Rattle.sled.proofs.Keeping.{flush_keeps, flush_leaves}
use Rattle.sled.proofs.db.Db.flush.Goals as goal

pub returns-in-Err-clause-err : goal.returns-in-Err-clause-err
returns-in-Err-clause-err g c = flush_refused_as g.P.Pages.store g.M.MergeOperator.meant _ _ c.self.view_is _ _ (sym c.in_group.ensures ∙ c.if-in_group.false) c.in-Err.ensures.err

pub returns-clause-ok : goal.returns-clause-ok
returns-clause-ok g c = flush_done_as g.P.Pages.store g.M.MergeOperator.meant _ _ c.self.view_is g.P.Pages.flush_number _ c.in-Ok.ensures.number (sym c.in_group.ensures ∙ c.if-in_group.false) c.self.invariant _ c.in-Ok.ensures.ok

pub returns-in-Err-clause-keeps : goal.returns-in-Err-clause-keeps
returns-in-Err-clause-keeps g c = flush_keeps g.P.Pages.store g.M.MergeOperator.meant _ _ g.P.Pages.flush_number (Err _) tt (returns-in-Err-clause-err g c)

pub returns-in-Err-clause-leaves : goal.returns-in-Err-clause-leaves
returns-in-Err-clause-leaves g c = flush_leaves g.P.Pages.store g.M.MergeOperator.meant _ _ g.P.Pages.flush_number (Err _) tt (returns-in-Err-clause-err g c)

pub returns-clause-keeps : goal.returns-clause-keeps
returns-clause-keeps g c = flush_keeps g.P.Pages.store g.M.MergeOperator.meant _ _ g.P.Pages.flush_number (Ok _) (returns-clause-ok g c) tt

pub returns-clause-leaves : goal.returns-clause-leaves
returns-clause-leaves g c = flush_leaves g.P.Pages.store g.M.MergeOperator.meant _ _ g.P.Pages.flush_number (Ok _) (returns-clause-ok g c) tt
