use Rattle.std.proofs.Common.{sym, ◌∙◌}
use Rattle.sled_tree.proofs.Arriving.{hoists, goes_on}
use Rattle.sled_tree.proofs.repair.go_on.Goals as goal

pub returns-in-Ok-clause-arrives : goal.returns-in-Ok-clause-arrives
returns-in-Ok-clause-arrives c = rw c.in-Ok.ensures.ok (rw c.deref-in-None.ensures (hoists _ _ _ c.requires.not_merging c.requires.free _ (sym c.into_parent.ensures ∙ c.in-None.is) c.requires.behind.0 (rw c.deref.ensures at c.in-Some.is)))

pub returns-in-Some-into_parent-clause-arrives : goal.returns-in-Some-into_parent-clause-arrives
returns-in-Some-into_parent-clause-arrives c = goes_on _ _ _ c.requires.not_merging c.requires.free _ _ (sym c.into_parent.ensures ∙ c.in-Some-into_parent.is) c.requires.behind (rw c.deref.ensures at c.in-Some.is)
