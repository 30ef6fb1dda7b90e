use Rattle.std.specs.Cmp.Lexicographic.{slice_cmp}
use Rattle.std.specs.Ordering.{nat_cmp}
use Rattle.sled_nodes.proofs.Rising.{RisesTo}
use Rattle.tree_check.proofs.page.ascends.Given as goal

-- the keys so far ascend
abbrev pub invariant-loop-i : goal.invariant-loop-i
invariant-loop-i g l = RisesTo (slice_cmp nat_cmp) l.entries l.i
