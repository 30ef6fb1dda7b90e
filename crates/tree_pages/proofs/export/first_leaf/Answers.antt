use Rattle.std.proofs.Common.{◌∙◌, sym, arith}
use Rattle.tree_pages.proofs.Walks.{down_first, down_more, down_last}
use Rattle.tree_pages.proofs.export.first_leaf.Goals as goal

pub loop-level-init : goal.loop-level-init
loop-level-init g c = down_first _ _

pub loop-level-preserved : goal.loop-level-preserved
loop-level-preserved g c = down_more _ _ _ _ _ (omega arith) c.loop-level.invariant (sym c.in-Some.is ∙ c.in_ok-first_child.ensures.ok)

pub returns-in-Some-2-clause-ok : goal.returns-in-Some-2-clause-ok
returns-in-Some-2-clause-ok g c = down_last _ _ _ _ _ (omega arith) (omega arith) c.loop-level.invariant (sym c.in-Some-2.is ∙ c.in_ok-first_child-2.ensures.ok)
