use Rattle.std.proofs.Common.{take}
use Rattle.sled_store.specs.Store.{now}
use Rattle.tree_pages.specs.Stats.{AreStats}
use Rattle.tree_pages.proofs.stats.stats_of.Given as goal

-- the trees so far are counted
abbrev pub invariant-loop-tree : goal.invariant-loop-tree
invariant-loop-tree g l = AreStats (now (g.P.Pages.store l.pages)) (take l.tree-index l.trees) l.stats
