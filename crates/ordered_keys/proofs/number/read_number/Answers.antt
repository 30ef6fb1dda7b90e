use Rattle.std.proofs.Common.{arith}
use Rattle.ordered_keys.proofs.Reading.{number_read}
use Rattle.ordered_keys.proofs.number.read_number.Goals as goal

pub returns-clause-some : goal.returns-clause-some
returns-clause-some c = number_read c.args.bytes.now c.in_ok-front.front.now c.in_ok-front.rest.now c.from_be_bytes.result c.in_ok-front.ensures.cases.0 c.in_ok-front.ensures.cases.1 c.in_ok-front.ensures.cases.2 (λ i. omega (arith, c.type_inv.bytes i)) c.from_be_bytes.ensures
