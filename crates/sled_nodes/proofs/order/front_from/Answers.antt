use Rattle.std.proofs.Common.{arith}
use Rattle.sled_nodes.proofs.Shifted.{front_at, front_left}
use Rattle.sled_nodes.proofs.order.front_from.Goals as goal

pub returns-then-left-ge8 : goal.returns-then-left-ge8
returns-then-left-ge8 c = front_at c.args.bytes.now c.args.start c.first_eight.result (omega arith) c.first_eight.ensures.is

pub returns : goal.returns
returns c = front_left c.args.bytes.now c.args.start c.first_eight-last.result c.requires.long c.requires.within (omega arith) (omega arith) c.first_eight-last.ensures.low c.first_eight-last.ensures.is
