use Rattle.std.proofs.Common.{◌≡◌, drop}
use Rattle.std.specs.Ordering.{nat_cmp}
use Rattle.std.specs.FinMap.Entries.{find}
use Rattle.tree_lists.proofs.operators.operator_of.Given as goal

-- the number is not among those so far
abbrev pub invariant-loop-operator : goal.invariant-loop-operator
invariant-loop-operator g l = find nat_cmp l.number (drop l.operator-index l.operators) ≡ find nat_cmp l.number l.operators
