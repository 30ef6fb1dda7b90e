use Rattle.tree_transactions.proofs.Overlaying.{SoFar}
use Rattle.tree_transactions.proofs.overlay.apply_through.Given as goal

abbrev pub invariant-loop-key : goal.invariant-loop-key
invariant-loop-key l = SoFar l.batch l.fn.overlay l.overlay l.key-iterator
