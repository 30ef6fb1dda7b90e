use Rattle.tree_quick.proofs.Straight.{LeadsTo}
use Rattle.tree_quick.proofs.quick.clean_leaf.Given as goal

abbrev pub invariant-loop-passed : goal.invariant-loop-passed
invariant-loop-passed g l = LeadsTo (g.P.Pages.store l.pages) l.fn.root l.key l.pid l.first l.passed
