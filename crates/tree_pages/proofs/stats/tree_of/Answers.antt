use Rattle.tree_pages.proofs.Sizing.{tree_is, no_tree}
use Rattle.tree_pages.proofs.stats.tree_of.Goals as goal

pub returns-in_ok-weight-in-Some-clause-ok : goal.returns-in_ok-weight-in-Some-clause-ok
returns-in_ok-weight-in-Some-clause-ok g c = tree_is _ _ _ _ _ (cc) c.in_ok-height-in-Some.ensures.ok c.in_ok-weight-in-Some.ensures.ok

pub returns-in-None-clause-ok : goal.returns-in-None-clause-ok
returns-in-None-clause-ok g c = no_tree _ _ (cc)
