use Rattle.std.proofs.Common.{arith, ap, sym, ◌∙◌}
use Rattle.sled_nodes.specs.declared.node.Node.{Node}
use Rattle.tree_quick.proofs.Straight.{leads_first, leads_down, leads_to_leaf, leaf_is}
use Rattle.tree_quick.proofs.quick.clean_leaf.Goals as goal

pub loop-passed-init : goal.loop-passed-init
loop-passed-init g c = leads_first _ _ _

pub returns-in-Leaf-clause-leads : goal.returns-in-Leaf-clause-leads
returns-in-Leaf-clause-leads g c =
    leads_to_leaf _ _ _ _ c.in-Some.ensures _ (rw c.deref.ensures at (c.is_clean.ensures c.if-not-is_clean.false)) _ _ c.loop-passed.invariant
    (leaf_is _ _ (ap (λ (n : Node). n.content) (sym c.deref-in-loop-passed.ensures) ∙ c.in-Leaf.is)) (omega arith)

pub loop-passed-preserved : goal.loop-passed-preserved
loop-passed-preserved g c =
    leads_down _ _ _ _ c.in-Some.ensures _ (rw c.deref.ensures at (c.is_clean.ensures c.if-not-is_clean.false)) _ _ c.loop-passed.invariant
    _ _ (rw c.deref-in-loop-passed-2.ensures at c.in-Some-pointer.ensures) (omega arith)
