use Rattle.std.proofs.Common.{◌≡◌, ◌+◌, drop}
use Rattle.tree_lists.specs.theory.Operators.{place}
use Rattle.tree_lists.proofs.operators.place_of_number.Given as goal

-- the number is not among those so far
abbrev pub invariant-loop-i : goal.invariant-loop-i
invariant-loop-i g l = l.i + place l.number (drop l.i l.operators) ≡ place l.number l.operators
