-- Which calls a sync followed.
use Rattle.std.proofs.Common.{◌≡◌, ℕ, ◌-◌, ◌<◌, ◌≤◌, zero, suc, Bool, true, false, List, [], ◌∷◌, length, get_or, drop, ◌∙◌, ap, subst, arith}
use Rattle.std.specs.List.{list_any}
use Rattle.std.proofs.lemmas.List.{drop-drop, get_or-drop, length-drop}
use Rattle.std.proofs.lemmas.List.Folds.{list_any_at}
use Rattle.std.proofs.lemmas.Bool.{or_parts}

module _ {X : Type 0} (p : X → Bool) where
  none_of_rest : (xs : List X) (k : ℕ) → list_any p xs ≡ false → list_any p (drop k xs) ≡ false
  none_of_rest xs zero none = none
  none_of_rest [] (suc k) none = none
  none_of_rest (x ∷ xs) (suc k) none = none_of_rest xs k (or_parts (p x) (list_any p xs) none).1

  -- where none of the elements from n on passes, none from a later place on does
  pub none_behind : (xs : List X) (n i : ℕ) → n ≤ i → list_any p (drop n xs) ≡ false → list_any p (drop i xs) ≡ false
  none_behind xs n i le none =
      let k = i - n in
      subst (λ (j : ℕ). list_any p (drop j xs) ≡ false) (omega arith) (subst (λ (ys : List X). list_any p ys ≡ false) (drop-drop k n xs) (none_of_rest (drop n xs) k none))

  -- where the element before n passes, one from an earlier place on does
  pub some_behind : (xs : List X) (n i : ℕ) (d : X) → i < n → n ≤ length xs → p (get_or xs (n - 1) d) ≡ true → list_any p (drop i xs) ≡ true
  some_behind xs n i d lt le here =
      let k = n - 1 - i in
      let at : get_or (drop i xs) k d ≡ get_or xs (n - 1) d = get_or-drop i xs k d ∙ ap (λ (j : ℕ). get_or xs j d) (omega arith) in
      list_any_at p (drop i xs) k d (omega (arith, length-drop i xs)) (ap p at ∙ here)
