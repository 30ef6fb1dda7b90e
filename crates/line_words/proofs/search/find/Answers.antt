use Rattle.std.proofs.Common.{◌-◌, length, arith}
use Rattle.line_words.proofs.Searching.{first_among, lacks_more, lacks_fewer}
use Rattle.line_words.proofs.search.find.Goals as goal

pub returns-then-front-lt-LANES : goal.returns-then-front-lt-LANES
returns-then-front-lt-LANES c = first_among c.args.byte c.args.bytes.now c.loop-at.at _ (omega arith) c.in_front-front.ensures c.if-front-lt-LANES.true c.loop-at.invariant

pub loop-at-preserved : goal.loop-at-preserved
loop-at-preserved c = lacks_fewer c.args.byte c.args.bytes.now _ _ (omega arith) (lacks_more c.args.byte c.args.bytes.now c.loop-at.at _ (omega arith) c.in_front-front.ensures c.loop-at.invariant)

pub returns-then-front-lt-LANES-2 : goal.returns-then-front-lt-LANES-2
returns-then-front-lt-LANES-2 c = first_among c.args.byte c.args.bytes.now (length c.args.bytes.now - 16) _ (omega arith) c.in_front-front-2.ensures c.if-front-lt-LANES-2.true (lacks_fewer c.args.byte c.args.bytes.now _ _ (omega arith) c.loop-at.invariant)

pub returns-else-front-lt-LANES-2 : goal.returns-else-front-lt-LANES-2
returns-else-front-lt-LANES-2 c = lacks_fewer c.args.byte c.args.bytes.now _ _ (omega arith) (lacks_more c.args.byte c.args.bytes.now (length c.args.bytes.now - 16) _ (omega arith) c.in_front-front-2.ensures (lacks_fewer c.args.byte c.args.bytes.now _ _ (omega arith) c.loop-at.invariant))
