-- Reading numbers and texts.
use Rattle.std.proofs.Common.{◌≡◌, ◌≢◌, ℕ, ◌+◌, ◌<◌, ◌≤◌, List, [], ◌∷◌, ◌++◌, take, drop, length, get_or, Option, Some, None, sym, ap, ◌∙◌, append_assoc, arith, inl, inr}
use Rattle.std.proofs.lemmas.Bool.{cases_lt}
use Rattle.std.proofs.lemmas.List.{take-append-drop, take_all, length-take, get_or-take, get_or_past, append-nil}
use Rattle.std.proofs.lemmas.List.Concat.{flat_map-append}
use Rattle.std.proofs.lemmas.Nat.{be_bytes_8}
use Rattle.std.specs.Int.{w64, from_be_bytes}
use Rattle.std.specs.List.{flat_map}
use Rattle.sled_nodes.specs.Order.{Key}
use Rattle.ordered_keys.specs.Keys.{spelled_byte, spelled_text, spelled_number}
use Rattle.ordered_keys.specs.theory.Keys.{spelled_piece}
use Rattle.ordered_keys.proofs.Bytes.{text_on}
use Rattle.ordered_keys.proofs.Apart.{byte_apart, end_apart}

front_low : (bytes : Key) → ((i : ℕ) → get_or bytes i 0 < 256) → (i : ℕ) → get_or (take 8 bytes) i 0 < 256
front_low bytes low i =
    elim (cases_lt i 8) [
      | inl lt ↦ rw (get_or-take 8 bytes i 0 lt) (low i)
      | inr le ↦ rw (get_or_past (take 8 bytes) i 0 (omega (arith, length-take 8 bytes))) (omega arith)
    ]

pub number_read : (bytes front rest : Key) (n : ℕ) → front ≡ take 8 bytes → rest ≡ drop 8 bytes → length rest + 8 ≡ length bytes → ((i : ℕ) → get_or bytes i 0 < 256) → n ≡ from_be_bytes w64 front → bytes ≡ spelled_number n ++ rest
unfolding spelled_number
number_read bytes front rest n f r len low is =
    let eight : length (take 8 bytes) ≡ 8 = omega (arith, length-take 8 bytes) in
    let back = be_bytes_8 (take 8 bytes) n eight (front_low bytes low) (is ∙ ap (from_be_bytes w64) f) in
    sym (take-append-drop 8 bytes) ∙ (ap (λ (z : Key). z ++ drop 8 bytes) (sym back) ∙ ap (λ (z : Key). spelled_number n ++ z) (sym r))

-- one more value, read or spelled
pub read_more : {X : Type 0} (f : X → Key) (xs new : List X) (x : X) (rest others bytes : Key) → flat_map f xs ++ rest ≡ bytes → rest ≡ f x ++ others → new ≡ xs ++ x ∷ [] → flat_map f new ++ others ≡ bytes
read_more {X = X} f xs new x rest others bytes all is pushed =
    ap (λ (t : List X). flat_map f t ++ others) pushed
    ∙ (ap (λ (z : Key). z ++ others) (flat_map-append f xs (x ∷ []))
    ∙ (append_assoc (flat_map f xs) (flat_map f (x ∷ [])) others
    ∙ (ap (λ (z : Key). flat_map f xs ++ (z ++ others)) (append-nil (f x))
    ∙ (ap (λ (z : Key). flat_map f xs ++ z) (sym is) ∙ all))))

-- all bytes of a text, and its end
pub pushed_all : (text old mid new : Key) (at : ℕ) → new ≡ mid ++ 0 ∷ 0 ∷ [] → mid ≡ old ++ flat_map spelled_byte (take at text) → length text ≤ at → new ≡ old ++ spelled_text text
unfolding spelled_text
pushed_all text old mid new at e m le =
    let whole : take at text ≡ text = take_all at text le in
    e ∙ (ap (λ (z : Key). z ++ 0 ∷ 0 ∷ []) (m ∙ ap (λ (t : Key). old ++ flat_map spelled_byte t) whole) ∙ append_assoc old (flat_map spelled_byte text) (0 ∷ 0 ∷ []))

-- the end
pub read_end : (text made rest others bytes : Key) (piece : Option ℕ) → flat_map spelled_byte text ++ rest ≡ bytes → rest ≡ spelled_piece piece ++ others → piece ≡ None → made ≡ text → bytes ≡ spelled_text made ++ others
read_end text made rest others bytes piece all is none copied =
    sym all ∙ (ap (λ (z : Key). flat_map spelled_byte text ++ z) (is ∙ ap (λ (o : Option ℕ). spelled_piece o ++ others) none) ∙ (sym (text_on text others) ∙ ap (λ (t : Key). spelled_text t ++ others) (sym copied)))

resume : (front text rest y : Key) → flat_map spelled_byte front ++ rest ≡ flat_map spelled_byte text ++ (0 ∷ 0 ∷ y) → (piece : Option ℕ) × (z : Key) × (rest ≡ spelled_piece piece ++ z)
resume [] [] rest y e = (None, y, e)
resume [] (c ∷ text) rest y e = (Some c, flat_map spelled_byte text ++ (0 ∷ 0 ∷ y), e ∙ append_assoc (spelled_byte c) (flat_map spelled_byte text) (0 ∷ 0 ∷ y))
resume (b ∷ front) [] rest y e = absurd (end_apart b y (flat_map spelled_byte front ++ rest) (sym e ∙ append_assoc (spelled_byte b) (flat_map spelled_byte front) rest))
resume (b ∷ front) (c ∷ text) rest y e =
    resume front text rest y (byte_apart b c (flat_map spelled_byte front ++ rest) (flat_map spelled_byte text ++ (0 ∷ 0 ∷ y))
    (sym (append_assoc (spelled_byte b) (flat_map spelled_byte front) rest) ∙ (e ∙ append_assoc (spelled_byte c) (flat_map spelled_byte text) (0 ∷ 0 ∷ y)))).1

-- where no piece comes next, no text stands there
pub read_none : (front rest bytes : Key) → flat_map spelled_byte front ++ rest ≡ bytes → ((piece : Option ℕ) (z : Key) → rest ≢ spelled_piece piece ++ z) → (text y : Key) → bytes ≢ spelled_text text ++ y
read_none front rest bytes all none text y e =
    let next = resume front text rest y (all ∙ (e ∙ text_on text y)) in
    none next.0 next.1 next.2
