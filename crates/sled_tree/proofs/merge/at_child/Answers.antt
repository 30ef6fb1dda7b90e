use Rattle.sled_tree.proofs.Merges.{child_helps, child_caps}
use Rattle.sled_tree.proofs.merge.at_child.Goals as goal

pub returns-in-Some-clause-reads : goal.returns-in-Some-clause-reads
returns-in-Some-clause-reads c = child_helps _ _ (rw c.deref-read.ensures at c.if-read.false) (rw c.deref-read.ensures at c.in-Some.is) _ _ _ c.help.ensures

pub returns-clause-reads : goal.returns-clause-reads
returns-clause-reads c = child_caps _ _ _ (rw c.deref-read.ensures at c.if-read.false) (rw c.deref-read.ensures at c.in_default.is)
