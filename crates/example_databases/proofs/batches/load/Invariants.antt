use Rattle.std.proofs.Common.{length}
use Rattle.example_databases.proofs.Batched.{Loaded}
use Rattle.example_databases.proofs.batches.load.Given as goal

abbrev pub invariant-batches : goal.invariant-batches
invariant-batches g l = Loaded g.P.Pages.store g.M.MergeOperator.meant l.fn.db l.tree.name l.pairs l.db l.rest

abbrev pub decreases-batches : goal.decreases-batches
decreases-batches g l = length l.rest
