use Rattle.std.proofs.Common.{arith, ap, sym, ◌∙◌}
use Rattle.sled_nodes.specs.Among.{bound_of, is_from}
use Rattle.sled_nodes.proofs.Found.{first_found}
use Rattle.sled_nodes.proofs.among.first_place.Goals as goal

pub returns-then-is_from : goal.returns-then-is_from
returns-then-is_from g c = first_found (λ e. is_from (bound_of c.args.bound) e.0) c.args.pairs.now c.loop-i.i c.index-pairs-i.result (omega arith) c.loop-i.invariant (ap (is_from (bound_of c.args.bound)) (sym c.as_ref.ensures) ∙ sym c.is_from.ensures ∙ c.if-is_from.true)
