use Rattle.tree_pages.proofs.Sizing.{weighs_none, weighs_more}
use Rattle.tree_pages.proofs.stats.with_pairs.Goals as goal

pub loop-pair-init : goal.loop-pair-init
loop-pair-init c = weighs_none _

pub loop-pair-preserved : goal.loop-pair-preserved
loop-pair-preserved c = weighs_more _ _ _ _ _ _ c.loop-pair-test.true c.pair-item.is c.loop-pair.invariant c.in_ok-weight.ensures.ok
