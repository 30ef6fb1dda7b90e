use Rattle.std.proofs.Common.{◌-◌, [], arith, ap, sym, ◌∙◌}
use Rattle.sled_nodes.specs.Among.{bound_of, is_from, is_up_to}
use Rattle.sled_nodes.proofs.Rising.{parted_from}
use Rattle.sled_nodes.proofs.Within.{down_at, down_past, down_short}
use Rattle.sled_nodes.proofs.ascending.place_down.Goals as goal
use Rattle.sled_nodes.proofs.ascending.place_down.Goals.{else-place-end-via-then-place-end+else-is_from, else-place-end-via-else-place-end}

pub returns-then-is_from : goal.returns-then-is_from
returns-then-is_from c =
    let p = c.count_up_to-end.ensures.parted in
    let h = c.count_up_to-end.ensures.bound in
    (omega (arith, h), down_at (λ e. is_from (bound_of c.args.lo) e.0) (λ e. is_up_to (bound_of c.args.hi) e.0) c.args.pairs.now c.index-pairs-end.result c.count_up_to-end.result h p (parted_from (bound_of c.args.lo) c.args.pairs.now c.requires) (c.count_up_to-end.result - 1 - c.args.place) c.args.place (omega arith) (ap (is_from (bound_of c.args.lo)) (sym c.as_ref.ensures) ∙ sym c.is_from.ensures ∙ c.if-is_from.true))

pub returns-else-place-end : goal.returns-else-place-end
returns-else-place-end c =
    let p = c.count_up_to-end.ensures.parted in
    let h = c.count_up_to-end.ensures.bound in
    elim c.else-place-end.branch [
      | else-place-end-via-then-place-end+else-is_from w ↦
          let f = ap (is_from (bound_of c.args.lo)) (sym w.as_ref.ensures) ∙ sym w.is_from.ensures ∙ w.if-is_from.false in
          down_short (λ e. is_from (bound_of c.args.lo) e.0) (λ e. is_up_to (bound_of c.args.hi) e.0) c.args.pairs.now w.index-pairs-end.result c.count_up_to-end.result h p (parted_from (bound_of c.args.lo) c.args.pairs.now c.requires) (c.count_up_to-end.result - 1 - c.args.place) c.args.place (omega arith) f
      | else-place-end-via-else-place-end w ↦ down_past (λ e. is_from (bound_of c.args.lo) e.0) (λ e. is_up_to (bound_of c.args.hi) e.0) c.args.pairs.now ([], []) c.count_up_to-end.result h p (parted_from (bound_of c.args.lo) c.args.pairs.now c.requires) c.args.place (omega arith)
    ]
