use Rattle.sled_nodes.proofs.Fronts.{front-long}
use Rattle.sled_nodes.proofs.order.front_of.Goals as goal

pub returns-else-bytes-lt8-clause-is : goal.returns-else-bytes-lt8-clause-is
returns-else-bytes-lt8-clause-is c = front-long c.args.bytes.now c.first_eight.result c.if-bytes-lt8.false c.first_eight.ensures.is
