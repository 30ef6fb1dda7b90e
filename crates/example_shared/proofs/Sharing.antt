-- What all callers made is what stands in the history.
use Rattle.std.proofs.Common.{◌≡◌, ◌∙◌, ℕ, ◌+◌, ◌<◌, suc, Bool, true, false, cond, nat_eq, length, length-append, List, [], ◌∷◌, map, filter, All, sum_by, count_by, slice_index_or, sym, refl, ap, arith}
use Rattle.std.proofs.lemmas.List.Sums.{sum_by-cons}
use Rattle.sled_nodes.specs.Order.{Key}
use Rattle.machine_shared.specs.Gathered.{IsOfGiven, EachOnce}
use Rattle.machine_shared.specs.History.{made_by}
use Rattle.machine_shared.specs.Made.{MadeValue, EntryValue}
use Rattle.machine_shared.specs.Values.{CallerValue}
use Rattle.example_shared.specs.Places.{made_in}
use Rattle.example_shared.specs.Raising.{swapped_by, swapped, swaps_of, SharesLaw}

-- ---- sums

shifted : (n m : ℕ) → n < m → suc n < suc m
shifted n m l = omega arith

pub first_of_all : {X : Type 0} (P : X → Type 0) (x : X) (xs : List X) → All P (x ∷ xs) → P x
first_of_all P x xs h = h 0 x (above (length xs))
  where
    above : (n : ℕ) → 0 < suc n
    above n = omega arith

pub rest_of_all : {X : Type 0} (P : X → Type 0) (x : X) (xs : List X) → All P (x ∷ xs) → All P xs
rest_of_all P x xs h k d l = h (suc k) d (shifted k (length xs) l)

sums_same : {X : Type 0} (f g : X → ℕ) (xs : List X) → All (λ x. f x ≡ g x) xs → sum_by f xs ≡ sum_by g xs
sums_same f g [] h = refl
sums_same f g (x ∷ xs) h =
    sum_by-cons f x xs
    ∙ ap (λ n. n + sum_by f xs) (first_of_all (λ x. f x ≡ g x) x xs h)
    ∙ ap (λ n. g x + n) (sums_same f g xs (rest_of_all (λ x. f x ≡ g x) x xs h))
    ∙ sym (sum_by-cons g x xs)

sums_added : {X : Type 0} (f g : X → ℕ) (xs : List X) → sum_by (λ x. f x + g x) xs ≡ sum_by f xs + sum_by g xs
sums_added f g [] = refl
sums_added f g (x ∷ xs) =
    both (f x) (g x) (sum_by f xs) (sum_by g xs) (sum_by (λ x. f x + g x) (x ∷ xs)) (sum_by (λ x. f x + g x) xs) (sum_by f (x ∷ xs)) (sum_by g (x ∷ xs)) (sum_by-cons (λ x. f x + g x) x xs) (sums_added f g xs) (sum_by-cons f x xs) (sum_by-cons g x xs)
  where
    both : (a b p q total rest fs gs : ℕ) → total ≡ a + b + rest → rest ≡ p + q → fs ≡ a + p → gs ≡ b + q → total ≡ fs + gs
    both a b p q total rest fs gs e h i j = omega arith

none_and : (m : ℕ) → m ≡ 0 → 0 + m ≡ 0
none_and m e = omega arith

none_sum : {X : Type 0} (xs : List X) → sum_by (λ x. 0) xs ≡ 0
none_sum [] = refl
none_sum (x ∷ xs) = sum_by-cons (λ x. 0) x xs ∙ none_and (sum_by (λ x. 0) xs) (none_sum xs)

-- a term that is there where a test passes counts as often as it does
no_more : (b : Bool) (count : ℕ) → cond b 1 0 + count ≡ 0 → (b ≡ false) × (count ≡ 0)
no_more true count e = absurd (not_none count e)
  where
    not_none : (n : ℕ) → 1 + n ≡ 0 → ⊥
    not_none n e = omega arith
no_more false count e = (refl, same count e)
  where
    same : (n : ℕ) → 0 + n ≡ 0 → n ≡ 0
    same n e = omega arith

passed_none : {X : Type 0} (p : X → Bool) (n : ℕ) (xs : List X) → count_by p xs ≡ 0 → sum_by (λ x. cond (p x) n 0) xs ≡ 0
passed_none p n [] e = refl
passed_none p n (x ∷ xs) e =
    let off = no_more (p x) (count_by p xs) (sym (sum_by-cons (λ x. cond (p x) 1 0) x xs) ∙ e) in
    sum_by-cons (λ x. cond (p x) n 0) x xs ∙ ap (λ b. cond b n 0 + sum_by (λ x. cond (p x) n 0) xs) off.0 ∙ none_and (sum_by (λ x. cond (p x) n 0) xs) (passed_none p n xs off.1)

passed_once : {X : Type 0} (p : X → Bool) (n : ℕ) (xs : List X) → count_by p xs ≡ 1 → sum_by (λ x. cond (p x) n 0) xs ≡ n
passed_once p n [] e = absurd (none e)
  where
    none : ◌≡◌ {A = ℕ} 0 1 → ⊥
    none e = omega arith
passed_once p n (x ∷ xs) e = sum_by-cons (λ x. cond (p x) n 0) x xs ∙ go (p x) (passed_once p n xs) (sym (sum_by-cons (λ x. cond (p x) 1 0) x xs) ∙ e)
  where
    left_none : (count : ℕ) → 1 + count ≡ 1 → count ≡ 0
    left_none count e = omega arith

    left_one : (count : ℕ) → 0 + count ≡ 1 → count ≡ 1
    left_one count e = omega arith

    and_none : (m : ℕ) → m ≡ 0 → n + m ≡ n
    and_none m e = omega arith

    after_none : (m : ℕ) → m ≡ n → 0 + m ≡ n
    after_none m e = omega arith

    go : (b : Bool) → (count_by p xs ≡ 1 → sum_by (λ x. cond (p x) n 0) xs ≡ n) → cond b 1 0 + count_by p xs ≡ 1 → cond b n 0 + sum_by (λ x. cond (p x) n 0) xs ≡ n
    go true later h = and_none (sum_by (λ x. cond (p x) n 0) xs) (passed_none p n xs (left_none (count_by p xs) h))
    go false later h = after_none (sum_by (λ x. cond (p x) n 0) xs) (later (left_one (count_by p xs) h))

-- ---- the entries of callers

module _ (tree key : Key) where
  counted : (m : MadeValue) (made : List MadeValue) → length (swapped tree key (m ∷ made)) ≡ length (swapped_by tree key m) + length (swapped tree key made)
  counted m made = length-append (swapped_by tree key m) (swapped tree key made)

  -- of an entry and those after it
  counted_by : (e : EntryValue) (es : List EntryValue) (n : ℕ)
      → length (swapped tree key (made_by n (e ∷ es))) ≡ cond (nat_eq e.by n) (length (swapped_by tree key e.made)) 0 + length (swapped tree key (made_by n es))
  counted_by e es n = go (nat_eq e.by n)
    where
      nothing : (m : ℕ) → m ≡ 0 + m
      nothing m = omega arith

      go : (b : Bool) → length (swapped tree key (map (λ e. e.made) (cond b (e ∷ filter (λ e. nat_eq e.by n) es) (filter (λ e. nat_eq e.by n) es))))
          ≡ cond b (length (swapped_by tree key e.made)) 0 + length (swapped tree key (made_by n es))
      go true = counted e.made (made_by n es)
      go false = nothing (length (swapped tree key (made_by n es)))

  shares : (given : ℕ) (callers : List CallerValue) → EachOnce given callers → (es : List EntryValue) → All (IsOfGiven given) es
      → length (swapped tree key (made_in es)) ≡ sum_by (λ (c : CallerValue). length (swapped tree key (made_by c.number es))) callers
  shares given callers once [] all = sym (none_sum callers)
  shares given callers once (e ∷ es) all =
      counted e.made (made_in es)
      ∙ ap (λ n. length (swapped_by tree key e.made) + n) (shares given callers once es (rest_of_all (IsOfGiven given) e es all))
      ∙ ap (λ n. n + sum_by (λ (c : CallerValue). length (swapped tree key (made_by c.number es))) callers) (sym (passed_once (λ (c : CallerValue). nat_eq e.by c.number) (length (swapped_by tree key e.made)) callers (once e.by (first_of_all (IsOfGiven given) e es all))))
      ∙ sym (sums_added (λ (c : CallerValue). cond (nat_eq e.by c.number) (length (swapped_by tree key e.made)) 0) (λ (c : CallerValue). length (swapped tree key (made_by c.number es))) callers)
      ∙ sym (sums_same (λ (c : CallerValue). length (swapped tree key (made_by c.number (e ∷ es)))) (λ (c : CallerValue). cond (nat_eq e.by c.number) (length (swapped_by tree key e.made)) 0 + length (swapped tree key (made_by c.number es))) callers
      (λ k d l. counted_by e es (slice_index_or callers k d).number))

pub shares_law : SharesLaw
shares_law tree key history given callers made once all =
    shares tree key given callers once history all
    ∙ sym (sums_same (swaps_of tree key) (λ (c : CallerValue). length (swapped tree key (made_by c.number history))) callers (λ k d l. ap (λ l. length (swapped tree key l)) (made k d l)))
