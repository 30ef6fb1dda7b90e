use Rattle.tree_groups.proofs.Grouping.{left_from}
use Rattle.sled.proofs.Importing.{put_first, put_more, put_stopped}
use Rattle.sled.proofs.db.Db.import_pairs.Goals as goal

pub loop-pair-init : goal.loop-pair-init
loop-pair-init g c = put_first g.P.Pages.store g.M.MergeOperator.meant _ _ _ c.requires

pub returns-in-Err-clause-err : goal.returns-in-Err-clause-err
returns-in-Err-clause-err g c = put_stopped g.P.Pages.store g.M.MergeOperator.meant c.args.self.now c.args.tree.now c.args.pairs.now _ c.loop-pair.self c.loop-pair.invariant c.audit.ensures.sound _ _ (left_from c.args.pairs.now c.loop-pair.pair-index c.pair-item.result c.loop-pair-test.true c.pair-item.is) _ _ c.in-Err.ensures.err

pub loop-pair-preserved : goal.loop-pair-preserved
loop-pair-preserved g c = put_more g.P.Pages.store g.M.MergeOperator.meant c.args.self.now c.args.tree.now c.args.pairs.now _ c.loop-pair.self c.loop-pair.invariant c.audit.ensures.sound _ _ (left_from c.args.pairs.now c.loop-pair.pair-index c.pair-item.result c.loop-pair-test.true c.pair-item.is) _ c.in_default.ensures.ok c.in_default.ensures.now c.saturating_add-count.result c.saturating_add-count.ensures
