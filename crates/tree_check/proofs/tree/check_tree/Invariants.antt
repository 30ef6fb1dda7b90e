use Rattle.std.proofs.Common.{◌-◌}
use Rattle.sled_store.specs.Store.{now}
use Rattle.tree_check.specs.theory.Walk.{WalksTree}
use Rattle.tree_check.proofs.tree.check_tree.Given as goal

abbrev pub invariant-loop-passed : goal.invariant-loop-passed
invariant-loop-passed g l = WalksTree (now (g.P.Pages.store l.pages)) l.fn.root l.fn.tree (l.top - l.passed) l.above.items l.fn.levels l.levels
