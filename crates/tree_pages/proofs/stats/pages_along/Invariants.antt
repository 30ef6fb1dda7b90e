use Rattle.sled_store.specs.State.{nodes_of}
use Rattle.sled_store.specs.Store.{now}
use Rattle.tree_pages.proofs.Sizing.{IsCounted}
use Rattle.tree_pages.proofs.stats.pages_along.Given as goal

abbrev pub invariant-loop-count : goal.invariant-loop-count
invariant-loop-count g l = IsCounted (nodes_of (now (g.P.Pages.store l.pages))) l.fn.first l.cursor l.count
