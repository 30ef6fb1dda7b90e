use Rattle.sled_store.specs.State.{nodes_of}
use Rattle.sled_store.specs.Store.{now}
use Rattle.tree_pages.proofs.Sizing.{IsWeighed}
use Rattle.tree_pages.proofs.stats.weight_along.Given as goal

abbrev pub invariant-loop-leaf : goal.invariant-loop-leaf
invariant-loop-leaf g l = IsWeighed (nodes_of (now (g.P.Pages.store l.pages))) l.fn.first l.weight l.cursor l.leaf
