use Rattle.std.proofs.Common.{length}
use Rattle.typed_map.proofs.Listing.{Goes}
use Rattle.typed_map.proofs.pairs.all_of.Given as goal

abbrev pub invariant-loop-entry : goal.invariant-loop-entry
invariant-loop-entry g l = Goes l.fn.entries l.found.items l.entries

abbrev pub decreases-loop-entry : goal.decreases-loop-entry
decreases-loop-entry g l = length l.entries.pairs
