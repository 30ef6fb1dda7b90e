use Rattle.std.proofs.Common.{arith, drop, ap, ◌∙◌}
use Rattle.sled_bytes.specs.Reading.{node_at}
use Rattle.sled_bytes.proofs.Again.{node_again, given_of}
use Rattle.sled_bytes.proofs.Found.{node_found}
use Rattle.sled_bytes.proofs.reading.decode_node.Goals as goal

pub returns-clause-written : goal.returns-clause-written
returns-clause-written c n rest fits is = given_of (λ x. (x.0, drop x.1 c.args.bytes.now)) c.node_of.result _ _ c.node_of.ensures.gives (ap node_at is ∙ node_again n rest fits)

pub returns-clause-found : goal.returns-clause-found
returns-clause-found c = node_found c.args.bytes.now c.node_of.result (λ i. omega (arith, c.type_inv.bytes i)) c.node_of.ensures.gives
