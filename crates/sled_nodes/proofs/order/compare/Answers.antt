use Rattle.std.proofs.Common.{sym, arith}
use Rattle.sled_nodes.proofs.Fronts.{front_below, front_above, front-long}
use Rattle.sled_nodes.proofs.order.compare.Goals as goal

pub returns-then-front-other_front : goal.returns-then-front-other_front
returns-then-front-other_front c = sym (front_below c.args.a.now c.args.b.now c.first_eight-front.ensures.low c.first_eight-other_front.ensures.low c.first_eight-front.result c.first_eight-other_front.result (front-long c.args.a.now c.first_eight-front.result c.if-a-ge8.true c.first_eight-front.ensures.is) (front-long c.args.b.now c.first_eight-other_front.result c.if-b-ge8.true c.first_eight-other_front.ensures.is) (omega arith) (omega arith) c.if-front-other_front.true)

pub returns-then-other_front-front : goal.returns-then-other_front-front
returns-then-other_front-front c = sym (front_above c.args.a.now c.args.b.now c.first_eight-front.ensures.low c.first_eight-other_front.ensures.low c.first_eight-front.result c.first_eight-other_front.result (front-long c.args.a.now c.first_eight-front.result c.if-a-ge8.true c.first_eight-front.ensures.is) (front-long c.args.b.now c.first_eight-other_front.result c.if-b-ge8.true c.first_eight-other_front.ensures.is) (omega arith) (omega arith) c.if-other_front-front.true)
