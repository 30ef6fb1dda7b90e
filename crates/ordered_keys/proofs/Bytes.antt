-- The order of the bytes of numbers and of texts.
use Rattle.std.proofs.Common.{◌≡◌, ℕ, zero, suc, ◌+◌, ◌^◌, ◌<◌, [], ◌∷◌, ◌++◌, refl, sym, ap, ◌∙◌, append_assoc, arith}
use Rattle.std.specs.List.{flat_map}
use Rattle.std.specs.Ordering.{ordering_then, nat_cmp}
use Rattle.std.specs.declared.cmp.Ordering.TheVariants.{Less, Greater}
use Rattle.sled_nodes.specs.Order.{Key}
use Rattle.sled_nodes.proofs.Fronts.{bytes_cmp, then_assoc, cmp_less, cmp_greater, number_then as eight_then}
use Rattle.ordered_keys.specs.Keys.{spelled_byte, spelled_text, spelled_number}

pub number_then : (m n : ℕ) (x y : Key) → m < 2 ^ 64 → n < 2 ^ 64 → bytes_cmp (spelled_number m ++ x) (spelled_number n ++ y) ≡ ordering_then (nat_cmp m n) (bytes_cmp x y)
unfolding spelled_number
number_then m n x y p q = eight_then m n x y p q

-- ---- texts

pub byte_then : (b c : ℕ) (x y : Key) → bytes_cmp (spelled_byte b ++ x) (spelled_byte c ++ y) ≡ ordering_then (nat_cmp b c) (bytes_cmp x y)
byte_then zero zero x y = refl
byte_then zero (suc c) x y =
    let less : nat_cmp 0 (suc c) ≡ Less = cmp_less 0 (suc c) (omega arith) in
    ap (λ o. ordering_then o (bytes_cmp (255 ∷ x) y)) less ∙ sym (ap (λ o. ordering_then o (bytes_cmp x y)) less)
byte_then (suc b) zero x y =
    let greater : nat_cmp (suc b) 0 ≡ Greater = cmp_greater (suc b) 0 (omega arith) in
    ap (λ o. ordering_then o (bytes_cmp x (255 ∷ y))) greater ∙ sym (ap (λ o. ordering_then o (bytes_cmp x y)) greater)
byte_then (suc b) (suc c) x y = refl

-- the end of a text stands before each byte
pub end_before : (c : ℕ) (x z : Key) → bytes_cmp (0 ∷ 0 ∷ x) (spelled_byte c ++ z) ≡ Less
end_before zero x z = refl
end_before (suc c) x z = ap (λ o. ordering_then o (bytes_cmp (0 ∷ x) z)) (cmp_less 0 (suc c) (omega arith))

end_after : (b : ℕ) (x z : Key) → bytes_cmp (spelled_byte b ++ z) (0 ∷ 0 ∷ x) ≡ Greater
end_after zero x z = refl
end_after (suc b) x z = ap (λ o. ordering_then o (bytes_cmp z (0 ∷ x))) (cmp_greater (suc b) 0 (omega arith))

pieces_then : (s t x y : Key) → bytes_cmp (flat_map spelled_byte s ++ (0 ∷ 0 ∷ x)) (flat_map spelled_byte t ++ (0 ∷ 0 ∷ y)) ≡ ordering_then (bytes_cmp s t) (bytes_cmp x y)
pieces_then [] [] x y = refl
pieces_then [] (c ∷ t) x y = ap (bytes_cmp (0 ∷ 0 ∷ x)) (append_assoc (spelled_byte c) (flat_map spelled_byte t) (0 ∷ 0 ∷ y)) ∙ end_before c x (flat_map spelled_byte t ++ (0 ∷ 0 ∷ y))
pieces_then (b ∷ s) [] x y = ap (λ (z : Key). bytes_cmp z (0 ∷ 0 ∷ y)) (append_assoc (spelled_byte b) (flat_map spelled_byte s) (0 ∷ 0 ∷ x)) ∙ end_after b y (flat_map spelled_byte s ++ (0 ∷ 0 ∷ x))
pieces_then (b ∷ s) (c ∷ t) x y =
    let front = flat_map spelled_byte s ++ (0 ∷ 0 ∷ x) in
    let back = flat_map spelled_byte t ++ (0 ∷ 0 ∷ y) in
    ap (λ (z : Key). bytes_cmp z ((spelled_byte c ++ flat_map spelled_byte t) ++ (0 ∷ 0 ∷ y))) (append_assoc (spelled_byte b) (flat_map spelled_byte s) (0 ∷ 0 ∷ x))
    ∙ (ap (bytes_cmp (spelled_byte b ++ front)) (append_assoc (spelled_byte c) (flat_map spelled_byte t) (0 ∷ 0 ∷ y))
    ∙ (byte_then b c front back ∙ (ap (ordering_then (nat_cmp b c)) (pieces_then s t x y) ∙ sym (then_assoc (nat_cmp b c) (bytes_cmp s t) (bytes_cmp x y)))))

-- the bytes of a text, its end, and what follows
pub text_on : (s x : Key) → spelled_text s ++ x ≡ flat_map spelled_byte s ++ (0 ∷ 0 ∷ x)
unfolding spelled_text
text_on s x = append_assoc (flat_map spelled_byte s) (0 ∷ 0 ∷ []) x

pub text_then : (s t x y : Key) → bytes_cmp (spelled_text s ++ x) (spelled_text t ++ y) ≡ ordering_then (bytes_cmp s t) (bytes_cmp x y)
text_then s t x y = ap (λ (z : Key). bytes_cmp z (spelled_text t ++ y)) (text_on s x) ∙ (ap (bytes_cmp (flat_map spelled_byte s ++ (0 ∷ 0 ∷ x))) (text_on t y) ∙ pieces_then s t x y)
