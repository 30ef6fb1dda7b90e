use Rattle.sled_store.specs.State.{nodes_of}
use Rattle.sled_store.specs.Store.{now}
use Rattle.tree_pages.proofs.Sizing.{IsHigh}
use Rattle.tree_pages.proofs.stats.height_of.Given as goal

abbrev pub invariant-loop-level : goal.invariant-loop-level
invariant-loop-level g l = IsHigh (nodes_of (now (g.P.Pages.store l.pages))) l.fn.root l.total l.cursor l.level
