use Rattle.std.proofs.Common.{sym, ◌∙◌}
use Rattle.sled_tree.proofs.Arriving.{splits_below, splits_root, posted_as, posted_root}
use Rattle.sled_tree.proofs.repair.split.Goals as goal

pub returns-in-Some-clause-arrives : goal.returns-in-Some-clause-arrives
returns-in-Some-clause-arrives c = splits_below _ _ _ c.requires.not_merging c.requires.free _ (sym c.into_parent.ensures ∙ c.in-Some.is)

pub returns-in-Some-clause-follows : goal.returns-in-Some-clause-follows
returns-in-Some-clause-follows c = posted_as _ _ _ (sym c.into_parent.ensures ∙ c.in-Some.is)

pub returns-in-None-clause-arrives : goal.returns-in-None-clause-arrives
returns-in-None-clause-arrives c = splits_root _ _ _ c.requires.not_merging c.requires.free (sym c.into_parent.ensures ∙ c.in-None.is)

pub returns-in-None-clause-follows : goal.returns-in-None-clause-follows
returns-in-None-clause-follows c = posted_root _ _ (sym c.into_parent.ensures ∙ c.in-None.is)
