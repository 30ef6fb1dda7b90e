use Rattle.sled_tree.proofs.Merges.{cursor_helps}
use Rattle.sled_tree.proofs.merge.at_cursor.Goals as goal

pub returns-in-Some-clause-looks : goal.returns-in-Some-clause-looks
returns-in-Some-clause-looks c = cursor_helps _ _ (rw c.deref-node.ensures at c.if-node.false) (rw c.deref-node.ensures at c.in-Some.is) _ _ _ c.help.ensures
