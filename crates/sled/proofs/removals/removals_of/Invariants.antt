use Rattle.std.proofs.Common.{length}
use Rattle.sled.proofs.Ranged.{Collects}
use Rattle.sled.proofs.removals.removals_of.Given as goal

abbrev pub invariant-loop-pair : goal.invariant-loop-pair
invariant-loop-pair g l = Collects l.fn.pairs l.batch l.pairs

abbrev pub decreases-loop-pair : goal.decreases-loop-pair
decreases-loop-pair g l = length l.pairs.pairs
