use Rattle.std.specs.Cmp.Lexicographic.{slice_cmp}
use Rattle.std.specs.Ordering.{nat_cmp}
use Rattle.sled_nodes.proofs.Put.{IsPast}
use Rattle.sled_nodes.proofs.pairs.place.Given as goal

-- the keys so far are below this one
abbrev pub invariant-loop-i : goal.invariant-loop-i
invariant-loop-i g l = IsPast (slice_cmp nat_cmp) l.key l.pairs l.i
