use Rattle.std.proofs.Common.{arith}
use Rattle.tree_pages.proofs.Dropping.{from_none, from_more}
use Rattle.tree_pages.proofs.drop.free_levels.Goals as goal

pub loop-level-init : goal.loop-level-init
loop-level-init g c = from_none _ _

pub loop-level-preserved : goal.loop-level-preserved
loop-level-preserved g c = from_more _ _ _ _ _ _ _ (omega arith) c.index-firsts-firsts.is c.loop-level.invariant c.free_level.ensures
