use Rattle.std.proofs.Common.{take}
use Rattle.sled_store.specs.Store.{now}
use Rattle.tree_check.specs.theory.Walk.{Verifies}
use Rattle.tree_check.proofs.verify.verify_integrity.Given as goal

abbrev pub invariant-loop-i : goal.invariant-loop-i
invariant-loop-i g l = Verifies (now (g.P.Pages.store l.pages)) (take l.i l.list) l.i l.levels
