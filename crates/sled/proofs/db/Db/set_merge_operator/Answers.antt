use Rattle.sled.proofs.Operating.{set_told, set_db_told}
use Rattle.sled.proofs.Keeping.{set_here, set_others}
use Rattle.sled.proofs.db.Db.set_merge_operator.Goals as goal

pub returns-clause-ok : goal.returns-clause-ok
returns-clause-ok g c = set_told g.P.Pages.store g.M.MergeOperator.meant _ _ c.self.view_is c.self.invariant _ _ c.set_operator.result c.set_operator.new.operators.items c.in_default.ensures.ok c.set_operator.ensures.ok

pub invariant_of-self : goal.invariant_of-self
invariant_of-self g c = set_db_told g.P.Pages.store g.M.MergeOperator.meant _ _ c.self.view_is c.self.invariant _ _ c.set_operator.result c.set_operator.new.operators.items c.in_default.ensures.ok c.set_operator.ensures.ok c.set_operator.ensures.same

pub returns-clause-operator : goal.returns-clause-operator
returns-clause-operator g c = set_here g.P.Pages.store g.M.MergeOperator.meant _ _ _ _ c.set_operator.result (returns-clause-ok g c)

pub returns-clause-others : goal.returns-clause-others
returns-clause-others g c = set_others g.P.Pages.store g.M.MergeOperator.meant _ _ _ _ c.set_operator.result (returns-clause-ok g c)
