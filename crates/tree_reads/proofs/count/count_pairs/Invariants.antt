use Rattle.sled_store.specs.Store.{now}
use Rattle.tree_reads.specs.theory.Leaves.{Counts}
use Rattle.tree_reads.proofs.count.count_pairs.Given as goal

abbrev pub invariant-loop-count : goal.invariant-loop-count
invariant-loop-count g l = Counts (now (g.R.Reads.store l.pages)) l.fn.root l.leaf l.count l.total
