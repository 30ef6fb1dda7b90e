use Rattle.std.proofs.Common.{◌≡◌, drop}
use Rattle.example_databases.specs.Batches.{written}
use Rattle.example_databases.proofs.batches.add_pairs.Given as goal

-- what is left to write makes the same of the batch as all of it did
abbrev pub invariant-loop-key : goal.invariant-loop-key
invariant-loop-key l = written (drop l.key-index l.pairs) l.batch ≡ written l.pairs l.fn.batch
