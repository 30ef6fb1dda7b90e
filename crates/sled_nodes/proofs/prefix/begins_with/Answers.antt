use Rattle.std.proofs.Common.{arith}
use Rattle.sled_nodes.proofs.Shifted.{begins_told}
use Rattle.sled_nodes.proofs.prefix.begins_with.Goals as goal

pub returns : goal.returns
returns c = rw c.len.ensures (begins_told c.args.key.now c.args.prefix.now c.first_eight.result c.front.result c.requires.long c.requires.short c.first_eight.ensures.low c.front.ensures.low c.first_eight.ensures.is c.front.ensures.is (omega arith) (omega arith))
