use Rattle.std.proofs.Common.{◌≤◌}
use Rattle.sled_nodes.specs.Among.{bound_of}
use Rattle.sled_store.specs.Store.{now}
use Rattle.tree_reads.specs.Leaves.{SeeksBack}
use Rattle.tree_reads.proofs.nearest.last_along.Given as goal

abbrev pub invariant-loop-walk : goal.invariant-loop-walk
invariant-loop-walk g l = SeeksBack (now (g.R.Reads.store l.pages)) l.fn.root (bound_of l.hi) l.leaf l.count × (l.walk ≤ l.count)
