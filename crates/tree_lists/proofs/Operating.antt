-- The list of the merge operators.
use Rattle.std.proofs.Common.{◌≡◌, ◌≢◌, ℕ, suc, ◌≤◌, ◌<◌, Bool, true, false, cond, List, [], ◌∷◌, ◌++◌, length, Some, None, slice_set, sym, refl, ap, ◌∙◌, subst, arith}
use Rattle.std.specs.declared.cmp.Ordering.{Ordering}
use Rattle.std.specs.declared.cmp.Ordering.TheVariants.{Less, Equal, Greater}
use Rattle.std.specs.Ordering.{nat_cmp, eq_by_cmp, is_eq}
use Rattle.std.specs.FinMap.{nat_cmp-IsAntisymmetric}
use Rattle.std.specs.FinMap.Entries.{find}
use Rattle.std.proofs.lemmas.Cmp.{nat_cmp_total, tied_itself}
use Rattle.tree_lists.specs.theory.Operators.{with_operator, place}

itself : (n : ℕ) → eq_by_cmp nat_cmp n n ≡ true
itself n = ap is_eq (tied_itself nat_cmp_total n)

one_number : (k n : ℕ) → eq_by_cmp nat_cmp k n ≡ true → k ≡ n
one_number k n e = nat_cmp-IsAntisymmetric k n (tie (nat_cmp k n) e)
  where
    tie : (r : Ordering) → is_eq r ≡ true → r ≡ Equal
    tie Less e = cc
    tie Equal e = refl
    tie Greater e = cc

other : (k n : ℕ) → k ≢ n → eq_by_cmp nat_cmp k n ≡ false
other k n off = go (eq_by_cmp nat_cmp k n) refl
  where
    go : (b : Bool) → eq_by_cmp nat_cmp k n ≡ b → eq_by_cmp nat_cmp k n ≡ false
    go true e = absurd (off (one_number k n e))
    go false e = e

module _ {M : Type 0} (n : ℕ) (operator : M) where
  -- the one at the place goes, or the operator comes at the end
  pub set_in : (es : List (ℕ × M)) → place n es < length es → slice_set es (place n es) (n, operator) ≡ with_operator n operator es
  set_in [] h = absurd (omega arith)
  set_in (e ∷ es) h = go (eq_by_cmp nat_cmp n e.0) (set_in es) h
    where
      less : (a b : ℕ) → suc a < suc b → a < b
      less a b h = omega arith

      go : (b : Bool) → (place n es < length es → slice_set es (place n es) (n, operator) ≡ with_operator n operator es) → cond b 0 (suc (place n es)) < suc (length es) → slice_set (e ∷ es) (cond b 0 (suc (place n es))) (n, operator) ≡ cond b ((n, operator) ∷ es) (e ∷ with_operator n operator es)
      go true rest h = refl
      go false rest h = ap (λ z. e ∷ z) (rest (less (place n es) (length es) h))

  pub set_out : (es : List (ℕ × M)) → length es ≤ place n es → es ++ (n, operator) ∷ [] ≡ with_operator n operator es
  set_out [] h = refl
  set_out (e ∷ es) h = go (eq_by_cmp nat_cmp n e.0) (set_out es) h
    where
      less : (a b : ℕ) → suc a ≤ suc b → a ≤ b
      less a b h = omega arith

      none : {X : Type 0} (a : ℕ) → suc a ≤ 0 → X
      none a h = absurd (omega arith)

      go : (b : Bool) → (length es ≤ place n es → es ++ (n, operator) ∷ [] ≡ with_operator n operator es) → suc (length es) ≤ cond b 0 (suc (place n es)) → (e ∷ es) ++ (n, operator) ∷ [] ≡ cond b ((n, operator) ∷ es) (e ∷ with_operator n operator es)
      go true rest h = none (length es) h
      go false rest h = ap (λ z. e ∷ z) (rest (less (length es) (place n es) h))

  pub find_set : (es : List (ℕ × M)) → find nat_cmp n (with_operator n operator es) ≡ Some operator
  find_set [] = ap (λ b. cond b (Some operator) None) (itself n)
  find_set (e ∷ es) = go (eq_by_cmp nat_cmp n e.0) (find_set es) refl
    where
      go : (b : Bool) → find nat_cmp n (with_operator n operator es) ≡ Some operator → eq_by_cmp nat_cmp n e.0 ≡ b → find nat_cmp n (cond b ((n, operator) ∷ es) (e ∷ with_operator n operator es)) ≡ Some operator
      go true rest t = ap (λ b. cond b (Some operator) (find nat_cmp n es)) (itself n)
      go false rest t = ap (λ b. cond b (Some e.1) (find nat_cmp n (with_operator n operator es))) t ∙ rest

  pub find_other : (k : ℕ) → k ≢ n → (es : List (ℕ × M)) → find nat_cmp k (with_operator n operator es) ≡ find nat_cmp k es
  find_other k off [] = ap (λ b. cond b (Some operator) None) (other k n off)
  find_other k off (e ∷ es) = go (eq_by_cmp nat_cmp n e.0) (find_other k off es) refl
    where
      go : (b : Bool) → find nat_cmp k (with_operator n operator es) ≡ find nat_cmp k es → eq_by_cmp nat_cmp n e.0 ≡ b → find nat_cmp k (cond b ((n, operator) ∷ es) (e ∷ with_operator n operator es)) ≡ cond (eq_by_cmp nat_cmp k e.0) (Some e.1) (find nat_cmp k es)
      go true rest t = ap (λ b. cond b (Some operator) (find nat_cmp k es)) (other k n off) ∙ sym (ap (λ b. cond b (Some e.1) (find nat_cmp k es)) (other k e.0 (λ s. off (s ∙ sym (one_number n e.0 t)))))
      go false rest t = ap (λ z. cond (eq_by_cmp nat_cmp k e.0) (Some e.1) z) rest

pub replaced_in : {M : Type 0} (n : ℕ) (operator : M) (es : List (ℕ × M)) (i : ℕ) (x : ℕ × M) → i ≡ place n es → x ≡ (n, operator) → i < length es → slice_set es i x ≡ with_operator n operator es
replaced_in n operator es i x at is h = ap (λ z. slice_set es z x) at ∙ ap (λ z. slice_set es (place n es) z) is ∙ set_in n operator es (subst (λ z. z < length es) at h)

pub pushed_out : {M : Type 0} (n : ℕ) (operator : M) (es : List (ℕ × M)) (i : ℕ) (new : List (ℕ × M)) → i ≡ place n es → new ≡ es ++ (n, operator) ∷ [] → length es ≤ i → new ≡ with_operator n operator es
pushed_out n operator es i new at is h = is ∙ set_out n operator es (subst (λ z. length es ≤ z) at h)
