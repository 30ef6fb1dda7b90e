use Rattle.tree_pages.proofs.Sizing.{weighed_under}
use Rattle.tree_pages.proofs.stats.weight_of.Goals as goal

pub returns-clause-ok : goal.returns-clause-ok
returns-clause-ok g c = weighed_under _ _ _ _ c.in_ok-leaf.ensures.ok c.weight_along.ensures.ok
