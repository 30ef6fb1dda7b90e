use Rattle.std.proofs.Common.{◌≤◌}
use Rattle.tree_check.proofs.page.is_later.Given as goal

abbrev pub invariant-loop-i : goal.invariant-loop-i
invariant-loop-i l = 1 ≤ l.i
