use Rattle.sled_store.specs.State.{nodes_of}
use Rattle.sled_store.specs.Store.{now}
use Rattle.tree_pages.proofs.Walks.{IsDown}
use Rattle.tree_pages.proofs.export.first_leaf.Given as goal

abbrev pub invariant-loop-level : goal.invariant-loop-level
invariant-loop-level g l = IsDown (nodes_of (now (g.P.Pages.store l.pages))) l.fn.root l.pid l.level
