use Rattle.sled_nodes.specs.Among.{bound_of}
use Rattle.sled_store.specs.Store.{now}
use Rattle.tree_reads.specs.Leaves.{Seeks}
use Rattle.tree_reads.proofs.nearest.first_along.Given as goal

abbrev pub invariant-loop-count : goal.invariant-loop-count
invariant-loop-count g l = Seeks (now (g.R.Reads.store l.pages)) l.fn.root (bound_of l.lo) l.leaf l.count
