use Rattle.std.proofs.Common.{arith}
use Rattle.tree_pages.proofs.Sizing.{weighed_first, weighed_more, weighed_ends}
use Rattle.tree_pages.proofs.stats.weight_along.Goals as goal

pub loop-leaf-init : goal.loop-leaf-init
loop-leaf-init g c = weighed_first _ _

pub loop-leaf-preserved : goal.loop-leaf-preserved
loop-leaf-preserved g c = weighed_more _ _ _ _ _ _ _ _ (omega arith) c.loop-leaf.invariant c.in-Some.is c.in_ok-more.ensures.ok

pub returns-in_default-clause-ok : goal.returns-in_default-clause-ok
returns-in_default-clause-ok g c = weighed_ends _ _ _ _ _ c.loop-leaf.invariant c.in_default.is
