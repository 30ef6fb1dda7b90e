use Rattle.sled_tree.proofs.Facts.{not_long}
use Rattle.sled_tree.proofs.Merges.{looks_splits, looks_receives}
use Rattle.sled_tree.proofs.merge.meet.Goals as goal

pub returns-then-should_split-clause-looks : goal.returns-then-should_split-clause-looks
returns-then-should_split-clause-looks c = looks_splits _ _ _ c.requires.not_merging c.requires.free

pub returns-clause-looks : goal.returns-clause-looks
returns-clause-looks c = looks_receives _ _ _ c.requires.not_merging c.requires.free c.requires.leads (not_long _ _ (rw c.deref.ensures at c.should_split.ensures) c.if-should_split.false (c.requires.not_merging, c.requires.free))
