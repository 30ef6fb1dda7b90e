use Rattle.std.proofs.Common.{[], sym, arith}
use Rattle.sled_nodes.proofs.Fronts.{padded-over}
use Rattle.sled_nodes.proofs.ivec.IVec.empty.Goals as goal

pub invariant_of-result : goal.invariant_of-result
invariant_of-result c = (omega arith, sym (padded-over 22 [] (omega arith)))
