use Rattle.std.proofs.Common.{sym, ◌∙◌}
use Rattle.sled.proofs.Numbering.{gives_as, refuses_as, closed_as}
use Rattle.sled.proofs.Keeping.{id_rises, id_keeps, id_not_keeps}
use Rattle.sled.proofs.db.Db.generate_id.Goals as goal

pub returns-then-in_group-clause-err : goal.returns-then-in_group-clause-err
returns-then-in_group-clause-err g c = closed_as g.P.Pages.store g.M.MergeOperator.meant _ _ c.self.view_is (sym c.in_group.ensures ∙ c.if-in_group.true)

pub returns-in-Err-clause-err : goal.returns-in-Err-clause-err
returns-in-Err-clause-err g c = refuses_as g.P.Pages.store g.M.MergeOperator.meant _ _ c.self.view_is _ _ (sym c.in_group.ensures ∙ c.if-in_group.false) c.in-Err.ensures.err

pub returns-clause-ok : goal.returns-clause-ok
returns-clause-ok g c = gives_as g.P.Pages.store g.M.MergeOperator.meant _ _ c.self.view_is _ (sym c.in_group.ensures ∙ c.if-in_group.false) c.in_default.ensures.ok c.in_default.ensures.above

pub returns-clause-rises : goal.returns-clause-rises
returns-clause-rises g c = id_rises g.P.Pages.store g.M.MergeOperator.meant _ _ _ (returns-clause-ok g c)

pub returns-clause-keeps : goal.returns-clause-keeps
returns-clause-keeps g c = id_keeps g.P.Pages.store g.M.MergeOperator.meant _ _ _ (returns-clause-ok g c)

pub returns-clause-leaves : goal.returns-clause-leaves
returns-clause-leaves g c = (returns-clause-ok g c).left

pub returns-in-Err-clause-keeps : goal.returns-in-Err-clause-keeps
returns-in-Err-clause-keeps g c = id_not_keeps g.P.Pages.store g.M.MergeOperator.meant _ _ _ (returns-in-Err-clause-err g c)

pub returns-in-Err-clause-leaves : goal.returns-in-Err-clause-leaves
returns-in-Err-clause-leaves g c = (returns-in-Err-clause-err g c).left

pub returns-then-in_group-clause-keeps : goal.returns-then-in_group-clause-keeps
returns-then-in_group-clause-keeps g c = id_not_keeps g.P.Pages.store g.M.MergeOperator.meant _ _ _ (returns-then-in_group-clause-err g c)

pub returns-then-in_group-clause-leaves : goal.returns-then-in_group-clause-leaves
returns-then-in_group-clause-leaves g c = (returns-then-in_group-clause-err g c).left
