use Rattle.std.proofs.Common.{◌≡◌, ◌≤◌, ◌-◌, drop, subst, length, sym, ◌∙◌, arith}
use Rattle.sled_nodes.proofs.Fronts.{front_below, front_above, front_same, last_of_two, bytes_cmp}
use Rattle.sled_nodes.specs.Order.{Key}
use Rattle.sled_nodes.proofs.order.compare_to.Goals as goal

pub returns-then-own-front : goal.returns-then-own-front
returns-then-own-front c = sym (front_below c.args.key.now c.args.other.now c.front-own.ensures.low (λ i. omega (arith, c.type_inv.other i)) c.front-own.result c.args.front c.front-own.ensures.is c.requires (omega arith) (omega arith) c.if-own-front.true)

pub returns-then-front-own : goal.returns-then-front-own
returns-then-front-own c = sym (front_above c.args.key.now c.args.other.now c.front-own.ensures.low (λ i. omega (arith, c.type_inv.other i)) c.front-own.result c.args.front c.front-own.ensures.is c.requires (omega arith) (omega arith) c.if-front-own.true)

pub returns-then-other-le8 : goal.returns-then-other-le8
returns-then-other-le8 c =
    let level : c.front-own.result ≡ c.args.front = omega arith in
    let length : length c.args.key.now ≡ length c.args.other.now = omega arith in
    sym (front_same c.args.key.now c.args.other.now c.front-own.ensures.low (λ i. omega (arith, c.type_inv.other i)) (sym c.front-own.ensures.is ∙ (level ∙ c.requires)) (omega arith) length)

pub returns-then-other-le16 : goal.returns-then-other-le16
returns-then-other-le16 c =
    let level : c.front-own.result ≡ c.args.front = omega arith in
    let same : length c.args.key.now ≡ length c.args.other.now = omega arith in
    let long : 8 ≤ length c.args.key.now = omega arith in
    let short : length c.args.key.now ≤ 16 = omega arith in
    let tells = last_of_two c.args.key.now c.args.other.now c.front-own.ensures.low (λ i. omega (arith, c.type_inv.other i)) (sym c.front-own.ensures.is ∙ (level ∙ c.requires)) same long short in
    c.compare_last.ensures ∙ subst (λ (z : Key). bytes_cmp (drop (length z - 8) z) (drop (length c.args.other.now - 8) c.args.other.now) ≡ bytes_cmp c.args.key.now c.args.other.now) (sym c.as_ref.ensures) tells
