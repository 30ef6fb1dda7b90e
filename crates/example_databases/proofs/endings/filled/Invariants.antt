use Rattle.std.proofs.Common.{length}
use Rattle.example_databases.proofs.Turned.{Filled}
use Rattle.example_databases.proofs.endings.filled.Given as goal

abbrev pub invariant-loop-key : goal.invariant-loop-key
invariant-loop-key l = Filled l.fn.pairs.items l.pairs.items l.entries.entries

abbrev pub decreases-loop-key : goal.decreases-loop-key
decreases-loop-key l = length l.pairs.items
