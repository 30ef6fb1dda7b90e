use Rattle.std.proofs.Common.{◌≡◌, [], replicate}
use Rattle.tree_transactions.proofs.overlays.Overlays.fresh.Given as goal

abbrev pub invariant-loop : goal.invariant-loop
invariant-loop l = l.batches.items ≡ replicate l.counter []
