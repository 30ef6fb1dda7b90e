-- When lists match.
use Rattle.std.proofs.Common.{◌≡◌, ℕ, Bool, true, false, cond, nat_eq, List, [], ◌∷◌, sym, refl, ap, ◌∙◌, subst, inl, inr, arith}
use Rattle.std.proofs.lemmas.Bool.{eqb-true}
use Rattle.std.proofs.lemmas.Bool.Decides.{nat_tests}
use Rattle.tree_laws.specs.Crashes.{Stutters}
use Rattle.tree_laws.specs.theory.CrashLaws.{ahead, once_each, MatchesLaw}

pub itself : (x : ℕ) → nat_eq x x ≡ true
itself x = grind (arith, nat_tests)

-- ahead of a list twice is ahead of it once
ahead_twice : (x : ℕ) (ys : List ℕ) → ahead x (ahead x ys) ≡ ahead x ys
ahead_twice x [] = ap (λ b. cond b (x ∷ []) (x ∷ x ∷ [])) (itself x)
ahead_twice x (y ∷ ys) = go (nat_eq x y) refl
  where
    go : (b : Bool) → nat_eq x y ≡ b → ahead x (cond b (y ∷ ys) (x ∷ y ∷ ys)) ≡ cond b (y ∷ ys) (x ∷ y ∷ ys)
    go true e = ap (λ b. cond b (y ∷ ys) (x ∷ y ∷ ys)) e
    go false e = ap (λ b. cond b (x ∷ y ∷ ys) (x ∷ x ∷ y ∷ ys)) (itself x)

repeats_once : (once xs : List ℕ) → Stutters once xs → once_each xs ≡ once_each once
repeats_once [] [] r = refl
repeats_once [] (x ∷ xs) r = absurd r
repeats_once (a ∷ once) [] r = absurd r
repeats_once (a ∷ once) (x ∷ xs) (e, inl r) = ap (λ z. ahead z (once_each xs)) (sym e) ∙ ap (ahead a) (repeats_once once xs r)
repeats_once (a ∷ once) (x ∷ xs) (e, inr r) = ap (λ z. ahead z (once_each xs)) (sym e) ∙ ap (ahead a) (repeats_once (a ∷ once) xs r) ∙ ahead_twice a (once_each once)

ahead_repeats : (x : ℕ) (zs xs : List ℕ) → Stutters zs xs → Stutters (ahead x zs) (x ∷ xs)
ahead_repeats x [] xs r = (refl, inl r)
ahead_repeats x (y ∷ ys) xs r = go (nat_eq x y) refl
  where
    go : (b : Bool) → nat_eq x y ≡ b → Stutters (cond b (y ∷ ys) (x ∷ y ∷ ys)) (x ∷ xs)
    go true e = (sym (eqb-true x y e), inr r)
    go false e = (refl, inl r)

once_repeats : (xs : List ℕ) → Stutters (once_each xs) xs
once_repeats [] = tt
once_repeats (x ∷ xs) = ahead_repeats x (once_each xs) xs (once_repeats xs)

pub matches_law : MatchesLaw
matches_law xs ys = (
  λ m. repeats_once m.once xs m.left ∙ sym (repeats_once m.once ys m.right),
  λ e. record { once = once_each xs; left = once_repeats xs; right = subst (λ z. Stutters z ys) (sym e) (once_repeats ys) },
)
