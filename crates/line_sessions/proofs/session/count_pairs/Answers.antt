use Rattle.std.proofs.Common.{arith, length}
use Rattle.std.proofs.lemmas.Grind.{common_steps}
use Rattle.line_sessions.proofs.Printing.{counted_more}
use Rattle.line_sessions.proofs.session.count_pairs.Goals as goal

pub loop-tree-preserved : goal.loop-tree-preserved
loop-tree-preserved c = counted_more c.args.trees.now c.loop-tree.tree-index c.tree-item.result (λ t. length t.2.items) c.loop-tree.count c.saturating_add-count.result _ (omega arith) c.tree-item.is c.loop-tree.invariant (grind (arith, common_steps))
