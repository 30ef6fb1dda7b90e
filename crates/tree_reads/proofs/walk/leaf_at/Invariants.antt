use Rattle.sled_nodes.specs.Among.{bound_of}
use Rattle.sled_store.specs.Store.{now}
use Rattle.tree_reads.proofs.Walking.{Walks}
use Rattle.tree_reads.proofs.walk.leaf_at.Given as goal

abbrev pub invariant-loop-before : goal.invariant-loop-before
invariant-loop-before g l = Walks (now (g.R.Reads.store l.pages)) l.fn.root (bound_of l.target) l.fn.looked l.pid l.before
