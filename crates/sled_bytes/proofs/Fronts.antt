-- What bytes begin with stays what they begin with.
use Rattle.std.proofs.Common.{◌≡◌, ◌≤◌, ◌+◌, ◌<◌, ℕ, List, ◌++◌, length, take, get_or, refl, sym, ap, ◌∙◌, [], ◌∷◌, arith}
use Rattle.std.specs.List.{flat_map}
use Rattle.std.proofs.lemmas.List.{take_at, take-take, length-append, flat_map_more, take_more}

-- where bytes begin with a longer front, they begin with the shorter one
pub begun_on : (front middle more whole : List ℕ) → middle ≡ front ++ more → take (length middle) whole ≡ middle → take (length front) whole ≡ front
begun_on front middle more whole is begun =
    let le : length front ≤ length middle = omega (arith, ap length is, length-append front more) in
    sym (take-take (length front) (length middle) whole le) ∙ (ap (take (length front)) (begun ∙ is) ∙ take_at front more (length front) refl)

-- the bytes of one more
pub each_more : {X : Type 0} (spell : X → List ℕ) (xs : List X) (i : ℕ) (d x : X) (old out new : List ℕ) → i < length xs → out ≡ old ++ flat_map spell (take i xs) → x ≡ get_or xs i d → new ≡ out ++ spell x → new ≡ old ++ flat_map spell (take (i + 1) xs)
each_more {X} spell xs i d x old out new lt so_far is pushed =
    pushed ∙ (ap (λ (l : List ℕ). l ++ spell x) so_far ∙ (flat_map_more spell old (take i xs) x
    ∙ ap (λ (l : List X). old ++ flat_map spell l) (ap (λ (y : X). take i xs ++ y ∷ []) is ∙ sym (take_more xs i d lt))))
