use Rattle.std.proofs.Common.{arith}
use Rattle.std.specs.BTreeSet.{contains}
use Rattle.std.specs.Ordering.{nat_cmp}
use Rattle.tree_check.proofs.Finding.{child_more}
use Rattle.tree_check.proofs.chain.merging_children.Goals as goal

pub loop-view-preserved : goal.loop-view-preserved
loop-view-preserved c = child_more c.args.above.now c.loop-view.view-index c.view-item.result _ (contains nat_cmp c.loop-view.children) (contains nat_cmp c.add_merging_child.new.children) (omega (arith, c.loop-view-test.true, c.loop-view.auto.view-index-end)) c.view-item.is c.deref.ensures c.loop-view.invariant c.in_default.ensures.ok
