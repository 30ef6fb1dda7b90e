use Rattle.std.proofs.Common.{◌≡◌, ◌≤◌, [], length, refl, sym, ◌∙◌, arith}
use Rattle.sled_nodes.proofs.Fronts.{front_below, front_above, front-long, behind_cmp, behind_eight, left_same, last_eight}
use Rattle.sled_nodes.proofs.order.compare_bytes.Goals as goal
use Rattle.sled_nodes.proofs.order.compare_bytes.Goals.{then-eights-test+else-other-ge8, else-eights-test}

pub returns-then-front-other_front : goal.returns-then-front-other_front
returns-then-front-other_front c = sym (front_below c.eights.rest.now c.eights.other.now c.first_eight-front.ensures.low c.first_eight-other_front.ensures.low c.first_eight-front.result c.first_eight-other_front.result (front-long c.eights.rest.now c.first_eight-front.result c.eights-test.true c.first_eight-front.ensures.is) (front-long c.eights.other.now c.first_eight-other_front.result c.if-other-ge8.true c.first_eight-other_front.ensures.is) (omega arith) (omega arith) c.if-front-other_front.true) ∙ behind_cmp c.args.a.now c.args.b.now c.eights.rest.now c.eights.other.now c.eights.invariant

pub returns-then-other_front-front : goal.returns-then-other_front-front
returns-then-other_front-front c = sym (front_above c.eights.rest.now c.eights.other.now c.first_eight-front.ensures.low c.first_eight-other_front.ensures.low c.first_eight-front.result c.first_eight-other_front.result (front-long c.eights.rest.now c.first_eight-front.result c.eights-test.true c.first_eight-front.ensures.is) (front-long c.eights.other.now c.first_eight-other_front.result c.if-other-ge8.true c.first_eight-other_front.ensures.is) (omega arith) (omega arith) c.if-other_front-front.true) ∙ behind_cmp c.args.a.now c.args.b.now c.eights.rest.now c.eights.other.now c.eights.invariant

pub eights-preserved : goal.eights-preserved
eights-preserved c = behind_eight c.args.a.now c.args.b.now c.eights.rest.now c.eights.other.now c.first_eight-front.result c.first_eight-other_front.result c.eights.invariant c.eights-test.true c.if-other-ge8.true c.first_eight-front.ensures.low c.first_eight-other_front.ensures.low c.first_eight-front.ensures.is c.first_eight-other_front.ensures.is (omega arith)

pub eights-init : goal.eights-init
eights-init c = record { before = []; is = refl; other_is = refl }

pub returns-then-a-ge8 : goal.returns-then-a-ge8
returns-then-a-ge8 c =
    let same : length c.args.a.now ≡ length c.args.b.now = omega arith in
    let long : 8 ≤ length c.args.a.now = omega arith in
    let left = left_same c.args.a.now c.args.b.now c.eights.rest.now c.eights.other.now c.eights.invariant same in
    c.compare_last.ensures ∙ last_eight c.args.a.now c.args.b.now c.eights.rest.now c.eights.other.now c.eights.invariant same long (elim c.eights-test.branch [ then-eights-test+else-other-ge8 w ↦ omega (arith, left) | else-eights-test w ↦ omega arith ])

pub returns : goal.returns
returns c = c.cmp.ensures ∙ behind_cmp c.args.a.now c.args.b.now c.eights.rest.now c.eights.other.now c.eights.invariant
