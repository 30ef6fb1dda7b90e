use Rattle.std.proofs.Common.{◌<◌, length, arith, ap, sym, ◌∙◌}
use Rattle.sled_nodes.specs.Among.{bound_of, is_up_to}
use Rattle.sled_nodes.proofs.Found.{walked_here, walked_on, walked_all}
use Rattle.sled_nodes.proofs.among.last_place.Goals as goal
use Rattle.sled_nodes.proofs.among.last_place.Goals.{then-is_up_to, else-is_up_to}

pub loop-i-preserved : goal.loop-i-preserved
loop-i-preserved g c =
    let h : c.loop-i.i < length c.args.pairs.now = omega arith in
    elim c.if-is_up_to.branch [
      | then-is_up_to w ↦ walked_here (λ e. is_up_to (bound_of c.args.bound) e.0) c.args.pairs.now c.loop-i.i c.index-pairs-i.result c.if-is_up_to.found h w.found-is (ap (is_up_to (bound_of c.args.bound)) (sym c.as_ref.ensures) ∙ sym c.is_up_to.ensures ∙ w.if-is_up_to.true)
      | else-is_up_to w ↦ walked_on (λ e. is_up_to (bound_of c.args.bound) e.0) c.args.pairs.now c.loop-i.i c.index-pairs-i.result c.loop-i.found c.if-is_up_to.found h w.found-is (ap (is_up_to (bound_of c.args.bound)) (sym c.as_ref.ensures) ∙ sym c.is_up_to.ensures ∙ w.if-is_up_to.false) c.loop-i.invariant
    ]

pub returns : goal.returns
returns g c = walked_all (λ e. is_up_to (bound_of c.args.bound) e.0) c.args.pairs.now c.loop-i.i c.loop-i.found (omega arith) c.loop-i.invariant
