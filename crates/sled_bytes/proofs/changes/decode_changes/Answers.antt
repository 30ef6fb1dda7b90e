use Rattle.std.proofs.Common.{arith, ap, ◌∙◌}
use Rattle.sled_bytes.specs.Reading.{changes_of}
use Rattle.sled_bytes.proofs.Again.{changes_again, given_of}
use Rattle.sled_bytes.proofs.Found.{changes_found}
use Rattle.sled_bytes.proofs.changes.decode_changes.Goals as goal

pub returns-clause-written : goal.returns-clause-written
returns-clause-written c changes fits is = given_of _ c.all_of.result _ _ c.all_of.ensures (ap changes_of is ∙ changes_again changes fits)

pub returns-clause-found : goal.returns-clause-found
returns-clause-found c = changes_found c.args.bytes.now c.all_of.result (λ i. omega (arith, c.type_inv.bytes i)) c.all_of.ensures
