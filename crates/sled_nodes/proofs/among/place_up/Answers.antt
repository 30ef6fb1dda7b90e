use Rattle.std.proofs.Common.{◌≡◌, false, arith, rules, ap, sym, ◌∙◌}
use Rattle.sled_nodes.specs.Among.{bound_of}
use Rattle.sled_nodes.specs.Ranges.{Range, is_in_range}
use Rattle.sled_nodes.proofs.Within.{stands_at, walked_past}
use Rattle.sled_nodes.proofs.among.place_up.Goals as goal

pub returns-then-count-place : goal.returns-then-count-place
returns-then-count-place c =
    let r : Range = record { lo = bound_of c.args.lo; hi = bound_of c.args.hi; back = false } in
    let e : c.loop-i.count ≡ c.args.place = search rules in
    (omega arith, stands_at (λ x. is_in_range r x.0) c.args.pairs.now c.loop-i.i c.args.place c.index-pairs-i.result (omega arith) (ap (is_in_range r) (sym c.as_ref.ensures) ∙ sym c.is_within.ensures ∙ c.if-is_within.true) (sym c.loop-i.invariant.0 ∙ e))

pub returns : goal.returns
returns c =
    let r : Range = record { lo = bound_of c.args.lo; hi = bound_of c.args.hi; back = false } in
    let n = c.loop-i.invariant.0 in
    let le = c.loop-i.invariant.1 in
    walked_past (λ x. is_in_range r x.0) c.args.pairs.now c.loop-i.i c.args.place (omega arith) (omega (arith, n, le))
