use Rattle.std.proofs.Common.{length}
use Rattle.sled_nodes.specs.theory.Fronts.{AreBehind}
use Rattle.sled_nodes.proofs.order.compare_bytes.Given as goal

-- the same bytes stand before what is left
abbrev pub invariant-eights : goal.invariant-eights
invariant-eights l = AreBehind l.fn.a l.fn.b l.rest l.other

abbrev pub decreases-eights : goal.decreases-eights
decreases-eights l = length l.rest
