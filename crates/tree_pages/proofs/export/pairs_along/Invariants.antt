use Rattle.sled_store.specs.State.{nodes_of}
use Rattle.sled_store.specs.Store.{now}
use Rattle.tree_pages.proofs.Walks.{IsAlong}
use Rattle.tree_pages.proofs.export.pairs_along.Given as goal

abbrev pub invariant-loop-leaf : goal.invariant-loop-leaf
invariant-loop-leaf g l = IsAlong (nodes_of (now (g.P.Pages.store l.pages))) l.fn.first l.all.items l.cursor l.leaf
