use Rattle.std.proofs.Common.{arith}
use Rattle.tree_pages.proofs.Sizing.{counted_first, counted_more, counted_ends}
use Rattle.tree_pages.proofs.stats.pages_along.Goals as goal

pub loop-count-init : goal.loop-count-init
loop-count-init g c = counted_first _ _

pub loop-count-preserved : goal.loop-count-preserved
loop-count-preserved g c = counted_more _ _ _ _ _ _ (omega arith) c.loop-count.invariant c.in-Some.is c.in_ok-cursor.ensures.ok

pub returns-in_default-clause-ok : goal.returns-in_default-clause-ok
returns-in_default-clause-ok g c = counted_ends _ _ _ _ c.loop-count.invariant c.in_default.is
