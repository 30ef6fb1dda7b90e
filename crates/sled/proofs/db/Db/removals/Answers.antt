use Rattle.sled.proofs.Ranged.{range_ended, range_rises, range_stopped}
use Rattle.sled.proofs.db.Db.removals.Goals as goal

pub removals_of-batch-requires-clause-ended : goal.removals_of-batch-requires-clause-ended
removals_of-batch-requires-clause-ended g c κs within = range_ended g.P.Pages.store g.M.MergeOperator.meant c.args.self.now c.args.tree.now _ _ c.in-Ok.pairs c.in-Ok.ensures.ok

pub removals_of-batch-requires-clause-rises : goal.removals_of-batch-requires-clause-rises
removals_of-batch-requires-clause-rises g c κs within = range_rises g.P.Pages.store g.M.MergeOperator.meant c.args.self.now c.args.tree.now _ _ c.in-Ok.pairs c.in-Ok.ensures.ok c.audit.ensures.ascend

pub returns-clause-err : goal.returns-clause-err
returns-clause-err g c = range_stopped g.P.Pages.store g.M.MergeOperator.meant c.args.self.now c.args.tree.now _ _ c.in-Ok.pairs c.in-Ok.ensures.ok c.audit.ensures.sound c.removals_of-batch.result c.removals_of-batch.ensures.err
