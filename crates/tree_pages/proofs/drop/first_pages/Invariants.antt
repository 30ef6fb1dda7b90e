use Rattle.sled_store.specs.State.{nodes_of}
use Rattle.sled_store.specs.Store.{now}
use Rattle.tree_pages.proofs.Walks.{HasNoted}
use Rattle.tree_pages.proofs.drop.first_pages.Given as goal

abbrev pub invariant-loop-level : goal.invariant-loop-level
invariant-loop-level g l = HasNoted (nodes_of (now (g.P.Pages.store l.pages))) l.fn.root l.firsts.items l.cursor l.level
