use Rattle.std.proofs.Common.{inl, inr}
use Rattle.sled_nodes.proofs.Basics.{untrue}
use Rattle.sled_tree.proofs.Facts.{not_up_to}
use Rattle.sled_tree.proofs.Merges.{looks_done, looks_further}
use Rattle.sled_tree.proofs.merge.compare.Goals as goal

pub returns-then-reaches-clause-looks : goal.returns-then-reaches-clause-looks
returns-then-reaches-clause-looks c = rw c.to_confirm.ensures (looks_done _ _ _ c.requires.not_merging c.requires.free (c.reaches.ensures.0 c.if-reaches.true) (untrue _ c.leads_to.ensures c.if-leads_to.false))

pub returns-in-Some-clause-looks : goal.returns-in-Some-clause-looks
returns-in-Some-clause-looks c = looks_further _ _ _ c.requires.not_merging c.requires.free _ (λ e. untrue _ c.reaches.ensures c.if-reaches.false (inl e)) (not_up_to _ _ (λ u. untrue _ c.reaches.ensures c.if-reaches.false (inr u))) (rw c.deref.ensures at c.in-Some.is)
