use Rattle.std.proofs.Common.{◌≡◌, take}
use Rattle.sled_model.proofs.batches.copied_batches.Given as goal

-- the batches so far are copied
abbrev pub invariant-loop-batch : goal.invariant-loop-batch
invariant-loop-batch l = l.copy.items ≡ take l.batch-index l.batch-items
