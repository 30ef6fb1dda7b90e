use Rattle.std.proofs.Common.{◌+◌, ◌<◌, length, [], arith, ap, sym, ◌∙◌}
use Rattle.sled_nodes.specs.Among.{bound_of, is_from, is_up_to}
use Rattle.sled_nodes.proofs.Rising.{parted_up_to}
use Rattle.sled_nodes.proofs.Within.{up_at, up_past, up_short}
use Rattle.sled_nodes.proofs.ascending.place_up.Goals as goal
use Rattle.sled_nodes.proofs.ascending.place_up.Goals.{else-place-pairs-via-then-place-pairs+else-is_up_to, else-place-pairs-via-else-place-pairs}

pub returns-then-is_up_to : goal.returns-then-is_up_to
returns-then-is_up_to c =
    let p = c.count_before-start.ensures.parted in
    let l : c.count_before-start.result + c.args.place < length c.args.pairs.now = omega arith in
    (l, up_at (λ e. is_from (bound_of c.args.lo) e.0) (λ e. is_up_to (bound_of c.args.hi) e.0) c.args.pairs.now c.index-pairs-start.result c.count_before-start.result (omega arith) p (parted_up_to (bound_of c.args.hi) c.args.pairs.now c.requires) c.args.place l (ap (is_up_to (bound_of c.args.hi)) (sym c.as_ref.ensures) ∙ sym c.is_up_to.ensures ∙ c.if-is_up_to.true))

pub returns-else-place-pairs : goal.returns-else-place-pairs
returns-else-place-pairs c =
    let p = c.count_before-start.ensures.parted in
    elim c.else-place-pairs.branch [
      | else-place-pairs-via-then-place-pairs+else-is_up_to w ↦
          let f = ap (is_up_to (bound_of c.args.hi)) (sym w.as_ref.ensures) ∙ sym w.is_up_to.ensures ∙ w.if-is_up_to.false in
          up_short (λ e. is_from (bound_of c.args.lo) e.0) (λ e. is_up_to (bound_of c.args.hi) e.0) c.args.pairs.now w.index-pairs-start.result c.count_before-start.result (omega arith) p (parted_up_to (bound_of c.args.hi) c.args.pairs.now c.requires) c.args.place (omega arith) f
      | else-place-pairs-via-else-place-pairs w ↦ up_past (λ e. is_from (bound_of c.args.lo) e.0) (λ e. is_up_to (bound_of c.args.hi) e.0) c.args.pairs.now ([], []) c.count_before-start.result (omega arith) p (parted_up_to (bound_of c.args.hi) c.args.pairs.now c.requires) c.args.place (omega arith)
    ]
