use Rattle.sled_batch.proofs.Copying.{SoFar}
use Rattle.sled_batch.proofs.batch.Batch.clone.Given as goal

abbrev pub invariant-loop-key : goal.invariant-loop-key
invariant-loop-key l = SoFar l.self l.copy l.key-iterator
