use Rattle.std.proofs.Common.{◌≡◌, ◌≤◌, length, sym, ◌∙◌, arith}
use Rattle.sled_nodes.proofs.Fronts.{front_below, front_above, front_same, end, length-end, end_low, end_front}
use Rattle.sled_nodes.proofs.order.compare_last.Goals as goal

pub returns-then-last-other_last : goal.returns-then-last-other_last
returns-then-last-other_last c =
    let a = c.args.a.now in
    let b = c.args.b.now in
    let h : 8 ≤ length c.args.b.now = omega arith in
    sym (front_below (end a c.requires.long) (end b h) (end_low a c.requires.long c.first_eight-last.ensures.low) (end_low b h c.first_eight-other_last.ensures.low) c.first_eight-last.result c.first_eight-other_last.result (end_front a c.requires.long c.first_eight-last.result c.first_eight-last.ensures.is) (end_front b h c.first_eight-other_last.result c.first_eight-other_last.ensures.is) (omega arith) (omega arith) c.if-last-other_last.true)

pub returns-then-other_last-last : goal.returns-then-other_last-last
returns-then-other_last-last c =
    let a = c.args.a.now in
    let b = c.args.b.now in
    let h : 8 ≤ length c.args.b.now = omega arith in
    sym (front_above (end a c.requires.long) (end b h) (end_low a c.requires.long c.first_eight-last.ensures.low) (end_low b h c.first_eight-other_last.ensures.low) c.first_eight-last.result c.first_eight-other_last.result (end_front a c.requires.long c.first_eight-last.result c.first_eight-last.ensures.is) (end_front b h c.first_eight-other_last.result c.first_eight-other_last.ensures.is) (omega arith) (omega arith) c.if-other_last-last.true)

pub returns : goal.returns
returns c =
    let a = c.args.a.now in
    let b = c.args.b.now in
    let h : 8 ≤ length c.args.b.now = omega arith in
    let level : c.first_eight-last.result ≡ c.first_eight-other_last.result = omega arith in
    let eight : length (end b h) ≤ 8 = omega (arith, length-end b h) in
    sym (front_same (end a c.requires.long) (end b h) (end_low a c.requires.long c.first_eight-last.ensures.low) (end_low b h c.first_eight-other_last.ensures.low) (sym (end_front a c.requires.long c.first_eight-last.result c.first_eight-last.ensures.is) ∙ (level ∙ end_front b h c.first_eight-other_last.result c.first_eight-other_last.ensures.is)) eight (length-end a c.requires.long ∙ sym (length-end b h)))
