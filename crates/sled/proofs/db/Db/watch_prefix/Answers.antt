use Rattle.sled.proofs.Subscribing.{watched_told, watched_db}
use Rattle.sled.proofs.Keeping.{watch_queue, watch_others}
use Rattle.sled.proofs.db.Db.watch_prefix.Goals as goal

pub returns-clause-ok : goal.returns-clause-ok
returns-clause-ok g c = watched_told g.P.Pages.store g.M.MergeOperator.meant _ _ c.self.view_is _ _ _ c.watch.result _ c.in-Ok.ensures.ok c.in_default.ensures.ok c.watch.ensures.number c.watch.ensures.fresh c.watch.ensures.ok

pub invariant_of-self : goal.invariant_of-self
invariant_of-self g c = watched_db g.P.Pages.store _ c.self.invariant _ _ _ c.watch.result c.watch.ensures.ok c.watch.ensures.err

pub returns-clause-queue : goal.returns-clause-queue
returns-clause-queue g c = watch_queue g.P.Pages.store g.M.MergeOperator.meant _ _ _ _ c.watch.result (returns-clause-ok g c)

pub returns-clause-others : goal.returns-clause-others
returns-clause-others g c = watch_others g.P.Pages.store g.M.MergeOperator.meant _ _ _ _ c.watch.result (returns-clause-ok g c)
