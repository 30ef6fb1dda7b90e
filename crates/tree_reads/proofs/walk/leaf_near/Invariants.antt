use Rattle.std.specs.declared.ops.Bound.TheVariants.{Included}
use Rattle.sled_store.specs.Store.{now}
use Rattle.tree_reads.specs.Walk.{IsWay}
use Rattle.tree_reads.proofs.Walking.{Goes}
use Rattle.tree_reads.proofs.walk.leaf_near.Given as goal

abbrev pub invariant-loop-looked : goal.invariant-loop-looked
invariant-loop-looked g l = Goes (now (g.R.Reads.store l.pages)) l.fn.root (Included l.key) 0 l.pid l.looked × IsWay (now (g.R.Reads.store l.pages)) l.fn.root l.way.items
