use Rattle.std.proofs.Common.{length}
use Rattle.sled_store.specs.In.{In}
use Rattle.sled_store.specs.declared.page.View.{View}
use Rattle.tree_reads.proofs.walk.begin.Given as goal

abbrev pub invariant-loop-view : goal.invariant-loop-view
invariant-loop-view l = (v : View) → In v l.way.items → In v l.fn.way.items

abbrev pub decreases-loop-view : goal.decreases-loop-view
decreases-loop-view l = length l.way.items
