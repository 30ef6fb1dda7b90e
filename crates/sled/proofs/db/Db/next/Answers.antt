use Rattle.sled.proofs.Subscribing.{takes_told, taken_db}
use Rattle.sled.proofs.Keeping.{next_keeps, next_gives, next_queue, next_others}
use Rattle.sled.proofs.db.Db.next.Goals as goal

pub returns-clause-takes : goal.returns-clause-takes
returns-clause-takes g c = takes_told g.P.Pages.store g.M.MergeOperator.meant _ _ c.self.view_is _ _ _ c.next.ensures.is c.next.ensures.rest

pub returns-clause-keeps : goal.returns-clause-keeps
returns-clause-keeps g c = next_keeps g.P.Pages.store g.M.MergeOperator.meant _ _ _ _ (returns-clause-takes g c)

pub returns-clause-gives : goal.returns-clause-gives
returns-clause-gives g c = next_gives g.P.Pages.store g.M.MergeOperator.meant _ _ _ _ (returns-clause-takes g c)

pub returns-clause-queue : goal.returns-clause-queue
returns-clause-queue g c = next_queue g.P.Pages.store g.M.MergeOperator.meant _ _ _ _ (returns-clause-takes g c)

pub returns-clause-others : goal.returns-clause-others
returns-clause-others g c = next_others g.P.Pages.store g.M.MergeOperator.meant _ _ _ _ (returns-clause-takes g c)

pub returns-clause-same : goal.returns-clause-same
returns-clause-same g c = (returns-clause-takes g c).same

pub invariant_of-self : goal.invariant_of-self
invariant_of-self g c = taken_db g.P.Pages.store _ c.self.invariant _ _ c.next.ensures.rest
