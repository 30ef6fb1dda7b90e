-- Lists whose keys rise, and what a search by halves finds in them.
use Rattle.std.proofs.Common.{◌≡◌, ℕ, zero, suc, ◌+◌, ◌<◌, ◌≤◌, Bool, true, false, not, T, List, [], ◌∷◌, length, filter, get_or, take, Some, None, Result, Ok, Err, refl, sym, ap, subst, ◌∙◌, arith, Ordering, Less, Equal, Greater, is_lt, is_eq, is_gt, IfOk, IfErr, OnOk, OnErr, cond, ◌-◌, ◌==◌, nat_lt, eqb→eq, remove}
use Rattle.std.proofs.lemmas.Bool.Decides.{nat_tests}
use Rattle.std.specs.Ordering.{ordering_index, ordering_reverse, eq_by_cmp}
use Rattle.std.specs.Cmp.{IsTotalOrder}
use Rattle.std.specs.List.{AllWithin, list_any}
use Rattle.std.specs.List.Sorted.{IsBinarySearchResult, IsSearchInRange, IsNonDecreasingBy, IsPartitionedBy, IsPartitionPoint}
use Rattle.std.specs.FinMap.Entries.{put, find, is_sorted, below_all, is_sorted-put}
use Rattle.std.specs.Cmp.Lexicographic.{slice_cmp, nat_list_cmp_total}
use Rattle.std.specs.Ordering.{nat_cmp}
use Rattle.std.specs.declared.ops.Bound.{Bound}
use Rattle.std.specs.declared.ops.Bound.TheVariants.{Included, Excluded, Unbounded}
use Rattle.sled_nodes.proofs.Basics.{true_of, of_true, left_of, right_of, both_of, less_of}
use Rattle.sled_nodes.specs.Order.{Key, key_cmp}
use Rattle.sled_nodes.specs.Among.{is_up_to, is_from}
use Rattle.sled_nodes.specs.theory.Pairs.{Stands, Goes}
use Rattle.sled_nodes.specs.theory.Places.{IsFirstAt, IsLastAt}
use Rattle.sled_nodes.specs.theory.Rising.{IsHit, IsGap, IsOut}
use Rattle.sled_nodes.proofs.Found.{none_more, none_all, first_found, last_here, last_stays, last_all}
use Rattle.sled_nodes.proofs.Put.{IsPast, stands_at, past_more, goes_before, goes_last}

-- a walk over what passes, or passes not
module _ {X : Type 0} (p : X → Bool) where
  none_upto : (xs : List X) (n : ℕ) → n ≤ length xs → AllWithin (λ x. p x ≡ false) xs 0 n → list_any p (take n xs) ≡ false
  none_upto xs zero h a = refl
  none_upto [] (suc n) h a = absurd (omega (arith, h))
  none_upto (x ∷ xs) (suc n) h a =
      let next : n + 1 ≡ suc n = omega arith in
      subst (λ m. list_any p (take m (x ∷ xs)) ≡ false) next (none_more p (x ∷ xs) n x (omega (arith, h)) (none_upto (x ∷ xs) n (omega (arith, h)) (λ j d l m. a j d l (omega (arith, m)))) (a n x (omega arith) (omega arith)))

  last_by : (xs : List X) (i m : ℕ) (d : X) → i + 1 + m ≤ length xs → AllWithin (λ x. p x ≡ false) xs (i + 1) (length xs) → p (get_or xs i d) ≡ true → IsLastAt p (take (i + 1 + m) xs) i
  last_by xs i zero d h a t = let same : i + 1 ≡ i + 1 + 0 = omega arith in subst (λ n. IsLastAt p (take n xs) i) same (last_here p xs i d (omega (arith, h)) t)
  last_by xs i (suc m) d h a t =
      let next : i + 1 + m + 1 ≡ i + 1 + suc m = omega arith in
      subst (λ n. IsLastAt p (take n xs) i) next (last_stays p xs (i + 1 + m) i d (omega (arith, h)) (a (i + 1 + m) d (omega arith) (omega (arith, h))) (last_by xs i m d (omega (arith, h)) a t))

  -- the place where those that pass end, and where those that pass not do
  pub last_of : (xs : List X) (i : ℕ) → IsPartitionPoint (λ x. p x ≡ true) (λ x. p x ≡ false) xs (i + 1) → i < length xs → IsLastAt p xs i
  last_of [] i h l = absurd (omega (arith, l))
  last_of (x ∷ xs) i h l =
      let all : i + 1 + (length (x ∷ xs) - (i + 1)) ≡ length (x ∷ xs) = omega (arith, l) in
      last_all p (x ∷ xs) i (subst (λ n. IsLastAt p (take n (x ∷ xs)) i) all (last_by (x ∷ xs) i (length (x ∷ xs) - (i + 1)) x (omega (arith, l)) h.1 (h.0 i x (omega arith) (omega arith))))

  pub none_of : (xs : List X) (n : ℕ) → n ≡ 0 → IsPartitionPoint (λ x. p x ≡ true) (λ x. p x ≡ false) xs n → list_any p xs ≡ false
  none_of xs n e h = none_all p xs (none_upto xs (length xs) (omega arith) (λ j d a b. h.1 j d (omega (arith, e)) b))

  pub first_of : (xs : List X) (i : ℕ) → IsPartitionPoint (λ x. not (p x) ≡ true) (λ x. not (p x) ≡ false) xs i → i < length xs → IsFirstAt p xs i
  first_of [] i h l = absurd (omega (arith, l))
  first_of (x ∷ xs) i h l = first_found p (x ∷ xs) i x l (none_upto (x ∷ xs) i (omega (arith, l)) (λ j d a b. failed (p (get_or (x ∷ xs) j d)) (h.0 j d a b))) (passed (p (get_or (x ∷ xs) i x)) (h.1 i x (omega arith) l))
    where
      failed : (b : Bool) → not b ≡ true → b ≡ false
      failed true e = cc
      failed false e = refl

      passed : (b : Bool) → not b ≡ false → b ≡ true
      passed true e = refl
      passed false e = cc

  pub none_from : (xs : List X) (n : ℕ) → length xs ≤ n → IsPartitionPoint (λ x. not (p x) ≡ true) (λ x. not (p x) ≡ false) xs n → list_any p xs ≡ false
  none_from xs n le h = none_all p xs (none_upto xs (length xs) (omega arith) (λ j d a b. failed (p (get_or xs j d)) (h.0 j d a (omega (arith, b, le)))))
    where
      failed : (b : Bool) → not b ≡ true → b ≡ false
      failed true e = cc
      failed false e = refl

-- what passes not goes
module _ {X : Type 0} (keeps : X → Bool) where
  kept_all : (xs : List X) → AllWithin (λ x. keeps x ≡ true) xs 0 (length xs) → filter keeps xs ≡ xs
  kept_all [] a = refl
  kept_all (x ∷ xs) a =
      ap (λ b. cond b (x ∷ filter keeps xs) (filter keeps xs)) (a 0 x (omega arith) (omega arith))
      ∙ ap (λ l. x ∷ l) (kept_all xs (λ j d l m. a (suc j) d (omega (arith, l)) (omega (arith, m))))

  one_goes : (xs : List X) (i : ℕ) → i < length xs → AllWithin (λ x. keeps x ≡ true) xs 0 i → ((d : X) → keeps (get_or xs i d) ≡ false) → AllWithin (λ x. keeps x ≡ true) xs (i + 1) (length xs) → filter keeps xs ≡ remove xs i
  one_goes [] i h a e b = absurd (omega (arith, h))
  one_goes (x ∷ xs) zero h a e b =
      ap (λ t. cond t (x ∷ filter keeps xs) (filter keeps xs)) (e x)
      ∙ kept_all xs (λ j d l m. b (suc j) d (omega (arith, l)) (omega (arith, m)))
  one_goes (x ∷ xs) (suc i) h a e b =
      ap (λ t. cond t (x ∷ filter keeps xs) (filter keeps xs)) (a 0 x (omega arith) (omega arith))
      ∙ ap (λ l. x ∷ l) (one_goes xs i (omega (arith, h)) (λ j d l m. a (suc j) d (omega arith) (omega (arith, m))) e (λ j d l m. b (suc j) d (omega (arith, l)) (omega (arith, m))))

module _ {K : Type 0} (R : K → K → Ordering) (k : K) where
  unequal : (r : Ordering) → (x : K) → R k x ≡ r → is_eq r ≡ false → eq_by_cmp R k x ≡ false
  unequal r x e f = ap is_eq e ∙ f

  module _ (o : IsTotalOrder R) where
    lower : (x y : K) → R x y ≡ Less → (r : Ordering) → R y k ≡ r → is_gt r ≡ false → R x k ≡ Less
    lower x y l Less e f = o.trans x y k l e
    lower x y l Equal e f = o.antisymm x k ∙ ap ordering_reverse (sym (o.congr y k x e) ∙ (o.antisymm y x ∙ ap ordering_reverse l))
    lower x y l Greater e f = cc

    pub not_past : (x y : K) → R x y ≡ Less → not (is_gt (R y k)) ≡ true → R x k ≡ Less
    not_past x y l t = lower x y l (R y k) refl (off (is_gt (R y k)) t)
      where
        off : (b : Bool) → not b ≡ true → b ≡ false
        off true e = cc
        off false e = refl

    pub yet_lower : (x y : K) → R x y ≡ Less → is_lt (R y k) ≡ true → R x k ≡ Less
    yet_lower x y l t = o.trans x y k l (less_of (R y k) (of_true (is_lt (R y k)) t))

    turned : (x : K) (r : Ordering) → R x k ≡ r → R k x ≡ ordering_reverse r
    turned x r e = o.antisymm k x ∙ ap ordering_reverse e

    back : (x : K) (r : Ordering) → R k x ≡ r → R x k ≡ ordering_reverse r
    back x r e = o.antisymm x k ∙ ap ordering_reverse e

    at_most : (r : Ordering) → ordering_index r ≤ 2
    at_most Less = omega arith
    at_most Equal = omega arith
    at_most Greater = omega arith

    climb : (x y : K) → R x y ≡ Less → (r : Ordering) → R y k ≡ r → ordering_index (R x k) ≤ ordering_index r
    climb x y l Less e = let n : ordering_index (R x k) ≡ 0 = ap ordering_index (o.trans x y k l e) in omega (arith, n)
    climb x y l Equal e =
        let a : R k x ≡ Greater = sym (o.congr y k x e) ∙ (o.antisymm y x ∙ ap ordering_reverse l) in
        let n : ordering_index (R x k) ≡ 0 = ap ordering_index (o.antisymm x k ∙ ap ordering_reverse a) in
        omega (arith, n)
    climb x y l Greater e = at_most (R x k)

module _ {K X : Type 0} (R : K → K → Ordering) where
  -- each later key is greater
  below_at : (x : K) (es : List (K × X)) (j : ℕ) (d : K × X) → T (below_all R x es) → j < length es → R x (get_or es j d).0 ≡ Less
  below_at x [] j d t h = absurd (omega (arith, h))
  below_at x (e ∷ es) zero d t h = less_of (R x e.0) (left_of (is_lt (R x e.0)) (below_all R x es) t)
  below_at x (e ∷ es) (suc j) d t h = below_at x es j d (right_of (is_lt (R x e.0)) (below_all R x es) t) (omega (arith, h))

  rises_at : (es : List (K × X)) (i j : ℕ) (d : K × X) → T (is_sorted R es) → i < j → j < length es → R (get_or es i d).0 (get_or es j d).0 ≡ Less
  rises_at [] i j d t l h = absurd (omega (arith, h))
  rises_at (e ∷ es) i zero d t l h = absurd (omega (arith, l))
  rises_at (e ∷ es) zero (suc j) d t l h = below_at e.0 es j d (left_of (below_all R e.0 es) (is_sorted R es) t) (omega (arith, h))
  rises_at (e ∷ es) (suc i) (suc j) d t l h = rises_at es i j d (right_of (below_all R e.0 es) (is_sorted R es) t) (omega (arith, l)) (omega (arith, h))

  pub rises : (es : List (K × X)) (i j : ℕ) (d : K × X) → is_sorted R es ≡ true → i < j → j < length es → R (get_or es i d).0 (get_or es j d).0 ≡ Less
  rises es i j d s l h = rises_at es i j d (of_true (is_sorted R es) s) l h

  -- a pair less, at a place
  below_less : (x : K) (es : List (K × X)) (i : ℕ) → T (below_all R x es) → T (below_all R x (remove es i))
  below_less x [] zero t = t
  below_less x [] (suc i) t = t
  below_less x (e ∷ es) zero t = right_of (is_lt (R x e.0)) (below_all R x es) t
  below_less x (e ∷ es) (suc i) t = both_of (is_lt (R x e.0)) (below_all R x (remove es i)) (left_of (is_lt (R x e.0)) (below_all R x es) t) (below_less x es i (right_of (is_lt (R x e.0)) (below_all R x es) t))

  sorted_less : (es : List (K × X)) (i : ℕ) → T (is_sorted R es) → T (is_sorted R (remove es i))
  sorted_less [] zero t = t
  sorted_less [] (suc i) t = t
  sorted_less (e ∷ es) zero t = right_of (below_all R e.0 es) (is_sorted R es) t
  sorted_less (e ∷ es) (suc i) t = both_of (below_all R e.0 (remove es i)) (is_sorted R (remove es i)) (below_less e.0 es i (left_of (below_all R e.0 es) (is_sorted R es) t)) (sorted_less es i (right_of (below_all R e.0 es) (is_sorted R es) t))

  pub rises_less : (es : List (K × X)) (i : ℕ) → is_sorted R es ≡ true → is_sorted R (remove es i) ≡ true
  rises_less es i s = true_of (is_sorted R (remove es i)) (sorted_less es i (of_true (is_sorted R es) s))

  -- the keys so far ascend
  abbrev pub RisesTo : List (K × X) → ℕ → Type 0
  RisesTo es n = (k : ℕ) (d : K × X) → k + 1 < n → R (get_or es k d).0 (get_or es (k + 1) d).0 ≡ Less

  -- from neighbours
  module _ (o : IsTotalOrder R) where
    below_too : (x y : K) (es : List (K × X)) → R x y ≡ Less → T (below_all R y es) → T (below_all R x es)
    below_too x y [] l t = tt
    below_too x y (e ∷ es) l t =
        let step : R x e.0 ≡ Less = o.trans x y e.0 l (less_of (R y e.0) (left_of (is_lt (R y e.0)) (below_all R y es) t)) in
        both_of (is_lt (R x e.0)) (below_all R x es) (of_true (is_lt (R x e.0)) (ap is_lt step)) (below_too x y es l (right_of (is_lt (R y e.0)) (below_all R y es) t))

    from_next : (es : List (K × X)) → ((k : ℕ) (d : K × X) → suc k < length es → R (get_or es k d).0 (get_or es (suc k) d).0 ≡ Less) → T (is_sorted R es)
    from_next [] h = tt
    from_next (e ∷ []) h = tt
    from_next (e ∷ f ∷ es) h =
        let rest : T (is_sorted R (f ∷ es)) = from_next (f ∷ es) (λ k d l. h (suc k) d (omega (arith, l))) in
        let l : R e.0 f.0 ≡ Less = h 0 e (omega arith) in
        both_of (below_all R e.0 (f ∷ es)) (is_sorted R (f ∷ es)) (both_of (is_lt (R e.0 f.0)) (below_all R e.0 es) (of_true (is_lt (R e.0 f.0)) (ap is_lt l)) (below_too e.0 f.0 es l (left_of (below_all R f.0 es) (is_sorted R es) rest))) rest

    pub rises_from : (es : List (K × X)) (n : ℕ) → length es ≤ n → RisesTo es n → is_sorted R es ≡ true
    rises_from es n le h = true_of (is_sorted R es) (from_next es (λ k d l.
        let next : k + 1 ≡ suc k = omega arith in
        subst (λ m. R (get_or es k d).0 (get_or es m d).0 ≡ Less) next (h k d (omega (arith, l, le)))))

    pub rises_put : (k : K) (v : X) (es : List (K × X)) → is_sorted R es ≡ true → is_sorted R (put R k v es) ≡ true
    rises_put k v es s = true_of (is_sorted R (put R k v es)) (is_sorted-put R o k v es (of_true (is_sorted R es) s))

    -- what is put, or is not
    pub rises_on : {Y E : Type 0} (r : Result Y E) (k : K) (v : X) (es new : List (K × X)) → is_sorted R es ≡ true → OnOk r (new ≡ put R k v es) → OnErr r (new ≡ es) → is_sorted R new ≡ true
    rises_on (Ok y) k v es new s e f = ap (is_sorted R) e ∙ rises_put k v es s
    rises_on (Err x) k v es new s e f = ap (is_sorted R) f ∙ s

    -- a test that lower keys pass too
    pub parted : (p : K → Bool) (es : List (K × X)) → ((x y : K) → R x y ≡ Less → p y ≡ true → p x ≡ true) → is_sorted R es ≡ true → IsPartitionedBy (λ e. p e.0) es
    parted p es down s i j d le h t = by (i == j) refl
      where
        by : (b : Bool) → (i == j) ≡ b → p (get_or es i d).0 ≡ true
        by true e = subst (λ n. p (get_or es n d).0 ≡ true) (sym (eqb→eq i j (of_true (i == j) e))) t
        by false e = down (get_or es i d).0 (get_or es j d).0 (rises es i j d s (grind (arith, nat_tests)) h) t

    -- a search by halves
    module _ (k : K) where
      climbs : (es : List (K × X)) → is_sorted R es ≡ true → IsNonDecreasingBy (λ e. ordering_index (R e.0 k)) es
      climbs es s i j d le h = by (i == j) refl
        where
          by : (b : Bool) → (i == j) ≡ b → ordering_index (R (get_or es i d).0 k) ≤ ordering_index (R (get_or es j d).0 k)
          by true e = subst (λ n. ordering_index (R (get_or es n d).0 k) ≤ ordering_index (R (get_or es j d).0 k)) (sym (eqb→eq i j (of_true (i == j) e))) (omega arith)
          by false e = climb R k o (get_or es i d).0 (get_or es j d).0 (rises es i j d s (grind (arith, nat_tests)) h) (R (get_or es j d).0 k) refl

      pub hit : (es : List (K × X)) (i : ℕ) → is_sorted R es ≡ true → i < length es → ((d : K × X) → R (get_or es i d).0 k ≡ Equal) → IsHit R k es i
      hit es i s h e = record {
        in_range = h;
        before = λ j d a b. sym (o.congr (get_or es i d).0 k (get_or es j d).0 (e d)) ∙ (o.antisymm (get_or es i d).0 (get_or es j d).0 ∙ ap ordering_reverse (rises es j i d s b h));
        here = λ d. turned R k o (get_or es i d).0 Equal (e d);
        after = λ j d a b. sym (o.congr (get_or es i d).0 k (get_or es j d).0 (e d)) ∙ rises es i j d s (omega (arith, a)) b;
      }

      -- at a place whose key is lower, all before it are, and at one whose key is higher, all behind it are
      pub lower_to : (es : List (K × X)) (i : ℕ) → is_sorted R es ≡ true → i < length es → ((d : K × X) → R (get_or es i d).0 k ≡ Less) → AllWithin (λ e. R e.0 k ≡ Less) es 0 (i + 1)
      lower_to es i s h e j d a b = by (i == j) refl
        where
          by : (t : Bool) → (i == j) ≡ t → R (get_or es j d).0 k ≡ Less
          by true t = subst (λ n. R (get_or es n d).0 k ≡ Less) (eqb→eq i j (of_true (i == j) t)) (e d)
          by false t = o.trans (get_or es j d).0 (get_or es i d).0 k (rises es j i d s (grind (arith, nat_tests)) h) (e d)

      pub higher_from : (es : List (K × X)) (i : ℕ) → is_sorted R es ≡ true → i < length es → ((d : K × X) → R (get_or es i d).0 k ≡ Greater) → AllWithin (λ e. R e.0 k ≡ Greater) es i (length es)
      higher_from es i s h e j d a b = by (i == j) refl
        where
          by : (t : Bool) → (i == j) ≡ t → R (get_or es j d).0 k ≡ Greater
          by true t = subst (λ n. R (get_or es n d).0 k ≡ Greater) (eqb→eq i j (of_true (i == j) t)) (e d)
          by false t =
              let below : R k (get_or es i d).0 ≡ Less = turned R k o (get_or es i d).0 Greater (e d) in
              let less : R k (get_or es j d).0 ≡ Less = o.trans k (get_or es i d).0 (get_or es j d).0 below (rises es i j d s (grind (arith, nat_tests)) b) in
              o.antisymm (get_or es j d).0 k ∙ ap ordering_reverse less

      pub gap : (es : List (K × X)) (i : ℕ) → i ≤ length es → AllWithin (λ e. R e.0 k ≡ Less) es 0 i → AllWithin (λ e. R e.0 k ≡ Greater) es i (length es) → IsGap R k es i
      gap es i h before after = record {
        in_range = h;
        before = λ j d a b. turned R k o (get_or es j d).0 Less (before j d a b);
        after = λ j d a b. turned R k o (get_or es j d).0 Greater (after j d a b);
      }

      -- what a search by halves of the library finds
      pub searched : (es : List (K × X)) → is_sorted R es ≡ true → (r : Result ℕ ℕ) → IsSearchInRange r (length es) → IsBinarySearchResult (λ e. R e.0 k) es r → record { ok : IfOk r (IsHit R k es); err : IfErr r (IsGap R k es) }
      searched es s (Ok i) h e = record { ok = hit es i s h e; err = tt }
      searched es s (Err i) h e =
          let p = e (climbs es s) in
          record {
            ok = tt;
            err = record {
              in_range = h;
              before = λ j d a b. turned R k o (get_or es j d).0 Less (p.0 j d a b);
              after = λ j d a b. turned R k o (get_or es j d).0 Greater (p.1 j d a b);
            };
          }

      -- how many are below the key, and how many are not above it
      pub gap_below : (es : List (K × X)) (i : ℕ) → IsGap R k es i → IsPartitionPoint (λ e. is_lt (R e.0 k) ≡ true) (λ e. is_lt (R e.0 k) ≡ false) es i
      gap_below es i g = (
        λ j d a b. ap is_lt (back R k o (get_or es j d).0 Greater (g.before j d a b)),
        λ j d a b. ap is_lt (back R k o (get_or es j d).0 Less (g.after j d a b)),
      )

      pub gap_to : (es : List (K × X)) (i : ℕ) → IsGap R k es i → IsPartitionPoint (λ e. is_gt (R e.0 k) ≡ false) (λ e. is_gt (R e.0 k) ≡ true) es i
      gap_to es i g = (
        λ j d a b. ap is_gt (back R k o (get_or es j d).0 Greater (g.before j d a b)),
        λ j d a b. ap is_gt (back R k o (get_or es j d).0 Less (g.after j d a b)),
      )

      pub hit_below : (es : List (K × X)) (i : ℕ) → IsHit R k es i → IsPartitionPoint (λ e. is_lt (R e.0 k) ≡ true) (λ e. is_lt (R e.0 k) ≡ false) es i
      hit_below es i h = (λ j d a b. ap is_lt (back R k o (get_or es j d).0 Greater (h.before j d a b)), λ j d a b. at_or_behind j d a b (i == j) refl)
        where
          at_or_behind : (j : ℕ) (d : K × X) → i ≤ j → j < length es → (t : Bool) → (i == j) ≡ t → is_lt (R (get_or es j d).0 k) ≡ false
          at_or_behind j d a b true t = ap is_lt (back R k o (get_or es j d).0 Equal (subst (λ n. R k (get_or es n d).0 ≡ Equal) (eqb→eq i j (of_true (i == j) t)) (h.here d)))
          at_or_behind j d a b false t = ap is_lt (back R k o (get_or es j d).0 Less (h.after j d (grind (arith, nat_tests)) b))

      pub hit_to : (es : List (K × X)) (i : ℕ) → IsHit R k es i → IsPartitionPoint (λ e. is_gt (R e.0 k) ≡ false) (λ e. is_gt (R e.0 k) ≡ true) es (i + 1)
      hit_to es i h = (λ j d a b. at_or_before j d a b (i == j) refl, λ j d a b. ap is_gt (back R k o (get_or es j d).0 Less (h.after j d a b)))
        where
          at_or_before : (j : ℕ) (d : K × X) → 0 ≤ j → j < i + 1 → (t : Bool) → (i == j) ≡ t → is_gt (R (get_or es j d).0 k) ≡ false
          at_or_before j d a b true t = ap is_gt (back R k o (get_or es j d).0 Equal (subst (λ n. R k (get_or es n d).0 ≡ Equal) (eqb→eq i j (of_true (i == j) t)) (h.here d)))
          at_or_before j d a b false t = ap is_gt (back R k o (get_or es j d).0 Greater (h.before j d a (grind (arith, nat_tests))))

  -- what follows from what was found
  module _ (k : K) where
    past_to : (es : List (K × X)) (i : ℕ) → i ≤ length es → AllWithin (λ e. R k e.0 ≡ Greater) es 0 i → IsPast R k es i
    past_to es zero h a = record { kept = λ v. refl }
    past_to [] (suc i) h a = absurd (omega (arith, h))
    past_to (x ∷ xs) (suc i) h a =
        let next : i + 1 ≡ suc i = omega arith in
        subst (λ n. IsPast R k (x ∷ xs) n) next (past_more R (x ∷ xs) i x k (omega (arith, h)) (past_to (x ∷ xs) i (omega (arith, h)) (λ j d l m. a j d l (omega (arith, m)))) (a i x (omega arith) (omega arith)))

    pub hit_stands : (es : List (K × X)) (i : ℕ) → IsHit R k es i → Stands R k es i
    hit_stands [] i h = let l = h.in_range in absurd (omega (arith, l))
    hit_stands (x ∷ xs) i h = let l = h.in_range in stands_at R (x ∷ xs) i x k l (past_to (x ∷ xs) i (omega (arith, l)) h.before) (h.here x)

    pub gap_goes : (es : List (K × X)) (i : ℕ) → IsGap R k es i → Goes R k es i
    gap_goes es i g = by (i == length es) refl
      where
        past_i : IsPast R k es i
        past_i = past_to es i g.in_range g.before

        inside : (es : List (K × X)) → IsGap R k es i → IsPast R k es i → i < length es → Goes R k es i
        inside [] g p l = absurd (omega (arith, l))
        inside (x ∷ xs) g p l = goes_before R (x ∷ xs) i x k l p (g.after i x (omega arith) l)

        by : (b : Bool) → (i == length es) ≡ b → Goes R k es i
        by true e =
            let n : i ≡ length es = eqb→eq i (length es) (of_true (i == length es) e) in
            subst (λ m. Goes R k es m) (sym n) (goes_last R es k (subst (λ m. IsPast R k es m) n past_i))
        by false e = let h = g.in_range in inside es g past_i (grind (arith, nat_tests))

    pub all_stand : (es : List (K × X)) (r : Result ℕ ℕ) → IfOk r (IsHit R k es) → IfOk r (Stands R k es)
    all_stand es (Ok i) h = hit_stands es i h
    all_stand es (Err i) h = tt

    pub all_go : (es : List (K × X)) (r : Result ℕ ℕ) → IfErr r (IsGap R k es) → IfErr r (Goes R k es)
    all_go es (Ok i) h = tt
    all_go es (Err i) h = gap_goes es i h

    gap_apart : (es : List (K × X)) (i : ℕ) → IsGap R k es i → AllWithin (λ e. eq_by_cmp R k e.0 ≡ false) es 0 (length es)
    gap_apart es i g j d a b = by (nat_lt j i) refl
      where
        by : (t : Bool) → nat_lt j i ≡ t → eq_by_cmp R k (get_or es j d).0 ≡ false
        by true e = unequal R k Greater (get_or es j d).0 (g.before j d a (grind (arith, nat_tests))) refl
        by false e = unequal R k Less (get_or es j d).0 (g.after j d (grind (arith, nat_tests)) b) refl

    found_at : (es : List (K × X)) (i : ℕ) (d : K × X) → i < length es → AllWithin (λ e. R k e.0 ≡ Greater) es 0 i → R k (get_or es i d).0 ≡ Equal → find R k es ≡ Some (get_or es i d).1
    found_at [] i d h a e = absurd (omega (arith, h))
    found_at (x ∷ xs) zero d h a e = ap (λ r. cond (is_eq r) (Some x.1) (find R k xs)) e
    found_at (x ∷ xs) (suc i) d h a e =
        ap (λ r. cond (is_eq r) (Some x.1) (find R k xs)) (a 0 x (omega arith) (omega arith))
        ∙ found_at xs i d (omega (arith, h)) (λ j f l m. a (suc j) f (omega arith) (omega (arith, m))) e

    pub hit_found : (es : List (K × X)) (i : ℕ) (d : K × X) → IsHit R k es i → find R k es ≡ Some (get_or es i d).1
    hit_found es i d h = found_at es i d h.in_range h.before (h.here d)

    none_at : (es : List (K × X)) → AllWithin (λ e. eq_by_cmp R k e.0 ≡ false) es 0 (length es) → find R k es ≡ None
    none_at [] a = refl
    none_at (x ∷ xs) a = ap (λ b. cond b (Some x.1) (find R k xs)) (a 0 x (omega arith) (omega arith)) ∙ none_at xs (λ j d l m. a (suc j) d (omega arith) (omega (arith, m)))

    pub gap_found : (es : List (K × X)) (i : ℕ) → IsGap R k es i → find R k es ≡ None
    gap_found es i g = none_at es (gap_apart es i g)

    pub hit_out : (es : List (K × X)) (i : ℕ) → IsHit R k es i → IsOut (λ e. not (eq_by_cmp R k e.0)) es (Some i)
    hit_out es i h = (h.in_range, one_goes (λ e. not (eq_by_cmp R k e.0)) es i h.in_range (λ j d l m. ap not (unequal R k Greater (get_or es j d).0 (h.before j d l m) refl)) (λ d. ap (λ o. not (is_eq o)) (h.here d)) (λ j d l m. ap not (unequal R k Less (get_or es j d).0 (h.after j d l m) refl)))

    pub gap_out : (es : List (K × X)) (i : ℕ) → IsGap R k es i → IsOut (λ e. not (eq_by_cmp R k e.0)) es None
    gap_out es i g = kept_all (λ e. not (eq_by_cmp R k e.0)) es (λ j d l m. ap not (gap_apart es i g j d l m))

-- within a bound
up_to_lower : (b : Bound Key) (x y : Key) → slice_cmp nat_cmp x y ≡ Less → is_up_to b y ≡ true → is_up_to b x ≡ true
unfolding key_cmp
up_to_lower (Included b) x y l t = ap (λ r. not (is_gt r)) (not_past (slice_cmp nat_cmp) b nat_list_cmp_total x y l t)
up_to_lower (Excluded b) x y l t = ap is_lt (yet_lower (slice_cmp nat_cmp) b nat_list_cmp_total x y l t)
up_to_lower Unbounded x y l t = refl

before_lower : (b : Bound Key) (x y : Key) → slice_cmp nat_cmp x y ≡ Less → not (is_from b y) ≡ true → not (is_from b x) ≡ true
unfolding key_cmp
before_lower (Included b) x y l t = ap (λ r. not (not (is_lt r))) (yet_lower (slice_cmp nat_cmp) b nat_list_cmp_total x y l (twice (is_lt (slice_cmp nat_cmp y b)) t))
  where
    twice : (a : Bool) → not (not a) ≡ true → a ≡ true
    twice true e = refl
    twice false e = cc
before_lower (Excluded b) x y l t = ap (λ r. not (is_gt r)) (not_past (slice_cmp nat_cmp) b nat_list_cmp_total x y l t)
before_lower Unbounded x y l t = t

module _ {X : Type 0} (bound : Bound Key) (es : List (Key × X)) (s : is_sorted (slice_cmp nat_cmp) es ≡ true) where
  pub parted_up_to : IsPartitionedBy (λ e. is_up_to bound e.0) es
  parted_up_to = parted (slice_cmp nat_cmp) nat_list_cmp_total (λ k. is_up_to bound k) es (up_to_lower bound) s

  pub parted_from : IsPartitionedBy (λ e. not (is_from bound e.0)) es
  parted_from = parted (slice_cmp nat_cmp) nat_list_cmp_total (λ k. not (is_from bound k)) es (before_lower bound) s

  -- how many keys are within a bound, by how many are below its key or up to it
  module _ (n : ℕ) (k : Key) where
    pub up_to_included : bound ≡ Included k → IsPartitionPoint (λ e. is_gt (slice_cmp nat_cmp e.0 k) ≡ false) (λ e. is_gt (slice_cmp nat_cmp e.0 k) ≡ true) es n → IsPartitionPoint (λ e. is_up_to bound e.0 ≡ true) (λ e. is_up_to bound e.0 ≡ false) es n
    unfolding key_cmp
    up_to_included is p = (λ j d a b. ap (λ c. is_up_to c (get_or es j d).0) is ∙ ap not (p.0 j d a b), λ j d a b. ap (λ c. is_up_to c (get_or es j d).0) is ∙ ap not (p.1 j d a b))

    pub up_to_excluded : bound ≡ Excluded k → IsPartitionPoint (λ e. is_lt (slice_cmp nat_cmp e.0 k) ≡ true) (λ e. is_lt (slice_cmp nat_cmp e.0 k) ≡ false) es n → IsPartitionPoint (λ e. is_up_to bound e.0 ≡ true) (λ e. is_up_to bound e.0 ≡ false) es n
    unfolding key_cmp
    up_to_excluded is p = (λ j d a b. ap (λ c. is_up_to c (get_or es j d).0) is ∙ p.0 j d a b, λ j d a b. ap (λ c. is_up_to c (get_or es j d).0) is ∙ p.1 j d a b)

    pub before_included : bound ≡ Included k → IsPartitionPoint (λ e. is_lt (slice_cmp nat_cmp e.0 k) ≡ true) (λ e. is_lt (slice_cmp nat_cmp e.0 k) ≡ false) es n → IsPartitionPoint (λ e. not (is_from bound e.0) ≡ true) (λ e. not (is_from bound e.0) ≡ false) es n
    unfolding key_cmp
    before_included is p = (λ j d a b. ap (λ c. not (is_from c (get_or es j d).0)) is ∙ ap (λ t. not (not t)) (p.0 j d a b), λ j d a b. ap (λ c. not (is_from c (get_or es j d).0)) is ∙ ap (λ t. not (not t)) (p.1 j d a b))

    pub before_excluded : bound ≡ Excluded k → IsPartitionPoint (λ e. is_gt (slice_cmp nat_cmp e.0 k) ≡ false) (λ e. is_gt (slice_cmp nat_cmp e.0 k) ≡ true) es n → IsPartitionPoint (λ e. not (is_from bound e.0) ≡ true) (λ e. not (is_from bound e.0) ≡ false) es n
    unfolding key_cmp
    before_excluded is p = (λ j d a b. ap (λ c. not (is_from c (get_or es j d).0)) is ∙ ap not (p.0 j d a b), λ j d a b. ap (λ c. not (is_from c (get_or es j d).0)) is ∙ ap not (p.1 j d a b))
