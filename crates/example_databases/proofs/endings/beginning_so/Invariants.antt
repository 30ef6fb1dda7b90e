use Rattle.example_databases.proofs.Turned.{SoFar}
use Rattle.example_databases.proofs.endings.beginning_so.Given as goal

abbrev pub invariant-loop-key : goal.invariant-loop-key
invariant-loop-key l = SoFar l.fn.beginning l.fn.entries l.found.items l.key-iterator
