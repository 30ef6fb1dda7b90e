use Rattle.sled.proofs.Subscribing.{ends_told, ended_db}
use Rattle.sled.proofs.Keeping.{end_keeps, end_queue, end_others}
use Rattle.sled.proofs.db.Db.unsubscribe.Goals as goal

pub returns-clause-ends : goal.returns-clause-ends
returns-clause-ends g c = ends_told g.P.Pages.store g.M.MergeOperator.meant _ _ c.self.view_is _ _ c.unsubscribe.ensures

pub returns-clause-keeps : goal.returns-clause-keeps
returns-clause-keeps g c = end_keeps g.P.Pages.store g.M.MergeOperator.meant _ _ _ (returns-clause-ends g c)

pub returns-clause-queue : goal.returns-clause-queue
returns-clause-queue g c = end_queue g.P.Pages.store g.M.MergeOperator.meant _ _ _ (returns-clause-ends g c)

pub returns-clause-others : goal.returns-clause-others
returns-clause-others g c = end_others g.P.Pages.store g.M.MergeOperator.meant _ _ _ (returns-clause-ends g c)

pub returns-clause-same : goal.returns-clause-same
returns-clause-same g c = (returns-clause-ends g c).same

pub invariant_of-self : goal.invariant_of-self
invariant_of-self g c = ended_db g.P.Pages.store _ c.self.invariant _ _ c.unsubscribe.ensures
