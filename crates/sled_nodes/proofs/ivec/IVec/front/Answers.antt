use Rattle.std.proofs.Common.{◌≡◌, ◌≤◌, ◌<◌, ℕ, take, length, get_or, ap, sym, subst, ◌∙◌, arith}
use Rattle.std.specs.Int.{from_be_bytes, w64}
use Rattle.std.specs.Arc.{arc_value}
use Rattle.sled_nodes.specs.Order.{Key}
use Rattle.sled_nodes.specs.Bytes.{bytes_of}
use Rattle.sled_nodes.specs.theory.Fronts.{front}
use Rattle.sled_nodes.proofs.Fronts.{short_padded, middle_padded, array-long, front-in, low_take}
use Rattle.sled_nodes.proofs.ivec.IVec.front.Goals as goal

pub first_eight-requires : goal.first_eight-requires
first_eight-requires c =
    let e = short_padded c.self.inside.bytes c.in-Short.field-0 c.in-Short.bytes c.in-Short.is c.self.invariant in
    let long = array-long c.in-Short.bytes (take c.in-Short.field-0 c.in-Short.bytes) 22 (omega arith) e in
    subst (λ (z : Key). 8 ≤ length z) (sym c.as_slice.ensures) long

pub first_eight-requires-in-Middle : goal.first_eight-requires-in-Middle
first_eight-requires-in-Middle c =
    let e = middle_padded c.self.inside.bytes c.in-Middle.field-0 c.in-Middle.bytes c.in-Middle.is c.self.invariant in
    let long = array-long (arc_value c.in-Middle.bytes) (take c.in-Middle.field-0 (arc_value c.in-Middle.bytes)) 56 (omega arith) e in
    subst (λ (z : Key). 8 ≤ length z) (sym (c.as_slice-in-Middle.ensures ∙ c.deref.ensures)) long

pub returns-in-Short-clause-is : goal.returns-in-Short-clause-is
returns-in-Short-clause-is c =
    let e = short_padded c.self.inside.bytes c.in-Short.field-0 c.in-Short.bytes c.in-Short.is c.self.invariant in
    let first : c.first_eight.result ≡ from_be_bytes w64 (take 8 c.in-Short.bytes) = c.first_eight.ensures.is ∙ ap (λ (z : Key). from_be_bytes w64 (take 8 z)) c.as_slice.ensures in
    subst (λ (z : Key). c.first_eight.result ≡ front z) (sym (ap bytes_of c.in-Short.is) ∙ c.self.view_is) (front-in c.in-Short.bytes (take c.in-Short.field-0 c.in-Short.bytes) 22 c.first_eight.result (omega arith) e first)

pub returns-in-Short-clause-low : goal.returns-in-Short-clause-low
returns-in-Short-clause-low c =
    let low = subst (λ (z : Key). (i : ℕ) → get_or z i 0 < 256) c.as_slice.ensures c.first_eight.ensures.low in
    subst (λ (z : Key). (i : ℕ) → get_or z i 0 < 256) (sym (ap bytes_of c.in-Short.is) ∙ c.self.view_is) (low_take c.in-Short.field-0 c.in-Short.bytes low)

pub returns-in-Middle-clause-is : goal.returns-in-Middle-clause-is
returns-in-Middle-clause-is c =
    let e = middle_padded c.self.inside.bytes c.in-Middle.field-0 c.in-Middle.bytes c.in-Middle.is c.self.invariant in
    let first : c.first_eight-in-Middle.result ≡ from_be_bytes w64 (take 8 (arc_value c.in-Middle.bytes)) = c.first_eight-in-Middle.ensures.is ∙ ap (λ (z : Key). from_be_bytes w64 (take 8 z)) (c.as_slice-in-Middle.ensures ∙ c.deref.ensures) in
    subst (λ (z : Key). c.first_eight-in-Middle.result ≡ front z) (sym (ap bytes_of c.in-Middle.is) ∙ c.self.view_is) (front-in (arc_value c.in-Middle.bytes) (take c.in-Middle.field-0 (arc_value c.in-Middle.bytes)) 56 c.first_eight-in-Middle.result (omega arith) e first)

pub returns-in-Middle-clause-low : goal.returns-in-Middle-clause-low
returns-in-Middle-clause-low c =
    let low = subst (λ (z : Key). (i : ℕ) → get_or z i 0 < 256) (c.as_slice-in-Middle.ensures ∙ c.deref.ensures) c.first_eight-in-Middle.ensures.low in
    subst (λ (z : Key). (i : ℕ) → get_or z i 0 < 256) (sym (ap bytes_of c.in-Middle.is) ∙ c.self.view_is) (low_take c.in-Middle.field-0 (arc_value c.in-Middle.bytes) low)
