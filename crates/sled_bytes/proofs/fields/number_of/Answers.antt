use Rattle.sled_bytes.proofs.Numbers.{number_is}
use Rattle.sled_bytes.proofs.fields.number_of.Goals as goal

pub returns-in-Some-clause-gives : goal.returns-in-Some-clause-gives
returns-in-Some-clause-gives c = number_is c.args.bytes.now c.in-Some.front.now _ c.args.at c.from_le_bytes.result c.in-Some.ensures.cases.2 c.in-Some.ensures.cases.0 c.from_le_bytes.ensures
