use Rattle.tree_pages.proofs.Sizing.{no_trees, stats_more}
use Rattle.tree_pages.proofs.stats.stats_of.Goals as goal

pub loop-tree-init : goal.loop-tree-init
loop-tree-init g c = no_trees _

pub loop-tree-preserved : goal.loop-tree-preserved
loop-tree-preserved g c = stats_more _ _ _ _ _ _ _ _ c.loop-tree-test.true c.tree-item.is c.loop-tree.invariant c.in_ok-height.ensures.ok c.in_ok-stats.ensures.ok
