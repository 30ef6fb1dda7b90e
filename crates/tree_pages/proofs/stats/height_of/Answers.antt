use Rattle.std.proofs.Common.{arith}
use Rattle.tree_pages.proofs.Sizing.{high_first, high_more, high_ends}
use Rattle.tree_pages.proofs.stats.height_of.Goals as goal

pub loop-level-init : goal.loop-level-init
loop-level-init g c = high_first _ _

pub loop-level-preserved : goal.loop-level-preserved
loop-level-preserved g c = high_more _ _ _ _ _ _ _ _ _ (omega arith) c.loop-level.invariant c.in-Some.is c.in_ok-more.ensures.ok c.in_ok-total.ensures.ok c.in_ok-cursor.ensures.ok

pub returns-in_default-clause-ok : goal.returns-in_default-clause-ok
returns-in_default-clause-ok g c = high_ends _ _ _ _ _ c.loop-level.invariant c.in_default.is
