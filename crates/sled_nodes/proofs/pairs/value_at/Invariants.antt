use Rattle.std.proofs.Common.{◌≡◌, drop}
use Rattle.std.specs.Cmp.Lexicographic.{slice_cmp}
use Rattle.std.specs.Ordering.{nat_cmp}
use Rattle.std.specs.FinMap.{find}
use Rattle.sled_nodes.proofs.pairs.value_at.Given as goal

abbrev pub invariant-loop-pair : goal.invariant-loop-pair
invariant-loop-pair g l = find (slice_cmp nat_cmp) l.key (drop l.pair-index l.pairs) ≡ find (slice_cmp nat_cmp) l.key l.pairs
