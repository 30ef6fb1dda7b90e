use Rattle.std.proofs.Common.{arith, drop, ap, ◌∙◌}
use Rattle.sled_bytes.specs.Reading.{change_at}
use Rattle.sled_bytes.proofs.Again.{change_again, given_of}
use Rattle.sled_bytes.proofs.Found.{change_found}
use Rattle.sled_bytes.proofs.changes.decode_change.Goals as goal

pub returns-clause-written : goal.returns-clause-written
returns-clause-written c change rest fits is = given_of (λ x. (x.0, drop x.1 c.args.bytes.now)) c.change_of.result _ _ c.change_of.ensures.gives (ap change_at is ∙ change_again change rest fits)

pub returns-clause-found : goal.returns-clause-found
returns-clause-found c = change_found c.args.bytes.now c.change_of.result (λ i. omega (arith, c.type_inv.bytes i)) c.change_of.ensures.gives
