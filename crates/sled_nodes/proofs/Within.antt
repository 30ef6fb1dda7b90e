-- What a list has within two bounds, by how many of those stand in front of a place.
use Rattle.std.proofs.Common.{◌≡◌, ℕ, zero, suc, ◌+◌, ◌-◌, ◌<◌, ◌≤◌, Bool, true, false, not, cond, ◌&&◌, List, [], ◌∷◌, length, filter, reverse, take, get_or, Some, None, refl, sym, ap, ◌∙◌, arith}
use mathlib.Core.Bool.{true≢false}
use Rattle.std.specs.List.{slice_get}
use Rattle.std.specs.List.Sorted.{IsPartitionedBy, IsPartitionPoint}
use Rattle.std.proofs.lemmas.List.{length-reverse, get_or-reverse}
use Rattle.std.proofs.lemmas.List.Filters.{length-filter_more}
use Rattle.std.proofs.lemmas.Option.{slice_get_past, slice_get-get_or}
use Rattle.std.proofs.Math.Seq.{take-length}
use Rattle.sled_nodes.proofs.Basics.{not_true, and_true, first_off, second_off}

on : (a : Bool) → not a ≡ false → a ≡ true
on true e = refl
on false e = cc

-- from the back
turned : {X : Type 0} (ys : List X) (k j : ℕ) → k + 1 + j ≡ length ys → slice_get (reverse ys) k ≡ slice_get ys j
turned [] k j e = absurd (omega (arith, e))
turned (y ∷ ys) k j e =
    let n : length (reverse (y ∷ ys)) ≡ length (y ∷ ys) = length-reverse (y ∷ ys) in
    let m : length (y ∷ ys) - 1 - k ≡ j = omega (arith, e) in
    slice_get-get_or (reverse (y ∷ ys)) k y (omega (arith, e, n))
    ∙ ap Some (get_or-reverse (y ∷ ys) k y (omega (arith, e)))
    ∙ ap (λ i. Some (get_or (y ∷ ys) i y)) m
    ∙ sym (slice_get-get_or (y ∷ ys) j y (omega (arith, e)))

module _ {X : Type 0} (p : X → Bool) where
  -- how many of the first n pass
  abbrev so_far : List X → ℕ → ℕ
  so_far xs n = length (filter p (take n xs))

  one_more : (xs : List X) (i : ℕ) (d : X) → i < length xs → p (get_or xs i d) ≡ true → so_far xs (i + 1) ≡ so_far xs i + 1
  one_more xs i d h t = length-filter_more p xs i d h ∙ ap (λ b. so_far xs i + cond b 1 0) t

  no_more : (xs : List X) (i : ℕ) (d : X) → i < length xs → p (get_or xs i d) ≡ false → so_far xs (i + 1) ≡ so_far xs i
  no_more xs i d h f =
      let e : so_far xs (i + 1) ≡ so_far xs i + 0 = length-filter_more p xs i d h ∙ ap (λ b. so_far xs i + cond b 1 0) f in
      omega (arith, e)

  whole : (xs : List X) → length (filter p xs) ≡ so_far xs (length xs)
  whole xs = ap (λ ys. length (filter p ys)) (sym (take-length xs))

  -- all of the next m pass, or none does
  rise : (xs : List X) (d : X) (n m : ℕ) → n + m ≤ length xs → ((j : ℕ) → n ≤ j → j < n + m → p (get_or xs j d) ≡ true) → so_far xs (n + m) ≡ so_far xs n + m
  rise xs d n zero h a =
      let same : n + 0 ≡ n = omega arith in
      let e : so_far xs (n + 0) ≡ so_far xs n = ap (so_far xs) same in
      omega (arith, e)
  rise xs d n (suc m) h a =
      let next : n + suc m ≡ n + m + 1 = omega arith in
      let before : so_far xs (n + m) ≡ so_far xs n + m = rise xs d n m (omega (arith, h)) (λ j l u. a j l (omega (arith, u))) in
      let here : so_far xs (n + m + 1) ≡ so_far xs (n + m) + 1 = one_more xs (n + m) d (omega (arith, h)) (a (n + m) (omega arith) (omega arith)) in
      ap (so_far xs) next ∙ omega (arith, before, here)

  flat : (xs : List X) (d : X) (n m : ℕ) → n + m ≤ length xs → ((j : ℕ) → n ≤ j → j < n + m → p (get_or xs j d) ≡ false) → so_far xs (n + m) ≡ so_far xs n
  flat xs d n zero h a = let same : n + 0 ≡ n = omega arith in ap (so_far xs) same
  flat xs d n (suc m) h a =
      let next : n + suc m ≡ n + m + 1 = omega arith in
      let before : so_far xs (n + m) ≡ so_far xs n = flat xs d n m (omega (arith, h)) (λ j l u. a j l (omega (arith, u))) in
      let here : so_far xs (n + m + 1) ≡ so_far xs (n + m) = no_more xs (n + m) d (omega (arith, h)) (a (n + m) (omega arith) (omega arith)) in
      ap (so_far xs) next ∙ here ∙ before

  -- m more are m more at the most
  one_at_most : (b : Bool) → cond b 1 0 ≤ 1
  one_at_most true = omega arith
  one_at_most false = omega arith

  slow : (xs : List X) (d : X) (n m : ℕ) → n + m ≤ length xs → so_far xs (n + m) ≤ so_far xs n + m
  slow xs d n zero h =
      let same : n + 0 ≡ n = omega arith in
      let e : so_far xs (n + 0) ≡ so_far xs n = ap (so_far xs) same in
      omega (arith, e)
  slow xs d n (suc m) h =
      let next : n + suc m ≡ n + m + 1 = omega arith in
      let e : so_far xs (n + suc m) ≡ so_far xs (n + m + 1) = ap (so_far xs) next in
      let before : so_far xs (n + m) ≤ so_far xs n + m = slow xs d n m (omega (arith, h)) in
      let here : so_far xs (n + m + 1) ≡ so_far xs (n + m) + cond (p (get_or xs (n + m) d)) 1 0 = length-filter_more p xs (n + m) d (omega (arith, h)) in
      let one : cond (p (get_or xs (n + m) d)) 1 0 ≤ 1 = one_at_most (p (get_or xs (n + m) d)) in
      omega (arith, e, before, here, one)

  -- one that passes stands, among those that pass, behind those before it
  stands : (xs : List X) (i : ℕ) (d : X) → i < length xs → p (get_or xs i d) ≡ true → slice_get (filter p xs) (so_far xs i) ≡ Some (get_or xs i d)
  stands [] i d h t = absurd (omega (arith, h))
  stands (x ∷ xs) zero d h t = ap (λ b. slice_get (cond b (x ∷ filter p xs) (filter p xs)) 0) t
  stands (x ∷ xs) (suc i) d h t = go (p x) (stands xs i d (omega (arith, h)) t)
    where
      go : (b : Bool) → slice_get (filter p xs) (so_far xs i) ≡ Some (get_or xs i d) → slice_get (cond b (x ∷ filter p xs) (filter p xs)) (length (cond b (x ∷ filter p (take i xs)) (filter p (take i xs)))) ≡ Some (get_or xs i d)
      go true e = e
      go false e = e

  pub stands_at : (xs : List X) (i k : ℕ) (d : X) → i < length xs → p (get_or xs i d) ≡ true → so_far xs i ≡ k → slice_get xs i ≡ slice_get (filter p xs) k
  stands_at xs i k d h t e = slice_get-get_or xs i d h ∙ sym (stands xs i d h t) ∙ ap (slice_get (filter p xs)) e

  -- none stands there
  pub walked_past : (xs : List X) (n k : ℕ) → n ≡ length xs → so_far xs n ≤ k → slice_get (filter p xs) k ≡ None
  walked_past xs n k e h =
      let all : length (filter p xs) ≡ so_far xs n = whole xs ∙ ap (so_far xs) (sym e) in
      slice_get_past (filter p xs) k (omega (arith, all, h))

  -- where those that pass end, and those that pass not begin: so many pass
  pub counted : (xs : List X) (n : ℕ) → n ≤ length xs → IsPartitionPoint (λ x. p x ≡ true) (λ x. p x ≡ false) xs n → n ≡ length (filter p xs)
  counted [] n h parts = omega (arith, h)
  counted (x ∷ xs) n h parts =
      let same : 0 + n ≡ n = omega arith in
      let all : n + (length (x ∷ xs) - n) ≡ length (x ∷ xs) = omega (arith, h) in
      let front : so_far (x ∷ xs) (0 + n) ≡ 0 + n = rise (x ∷ xs) x 0 n (omega (arith, h)) (λ j l u. parts.0 j x l (omega (arith, u))) in
      let rest : so_far (x ∷ xs) (n + (length (x ∷ xs) - n)) ≡ so_far (x ∷ xs) n = flat (x ∷ xs) x n (length (x ∷ xs) - n) (omega (arith, h)) (λ j l u. parts.1 j x l (omega (arith, u, h))) in
      sym (whole (x ∷ xs) ∙ ap (so_far (x ∷ xs)) (sym all) ∙ rest ∙ ap (so_far (x ∷ xs)) (sym same) ∙ front ∙ same)

  back_past : (xs : List X) (k : ℕ) → length (filter p xs) ≤ k → slice_get (reverse (filter p xs)) k ≡ None
  back_past xs k h = let n : length (reverse (filter p xs)) ≡ length (filter p xs) = length-reverse (filter p xs) in slice_get_past (reverse (filter p xs)) k (omega (arith, n, h))

-- Of a list that ascends, those from a lower bound on stand behind the others, and those up to an upper one before them
module _ {X : Type 0} (from up : X → Bool) (xs : List X) (d : X) where
  abbrev within : X → Bool
  within x = from x && up x

  -- from the front: n is where those from the lower bound begin
  module _ (n : ℕ) (h : n ≤ length xs) (begins : IsPartitionPoint (λ x. not (from x) ≡ true) (λ x. not (from x) ≡ false) xs n) (falls : IsPartitionedBy up xs) where
    none_yet : so_far within xs n ≡ 0
    none_yet =
        let same : 0 + n ≡ n = omega arith in
        let e : so_far within xs (0 + n) ≡ 0 = flat within xs d 0 n (omega (arith, h)) (λ j l u. first_off (from (get_or xs j d)) (up (get_or xs j d)) (not_true (from (get_or xs j d)) (begins.0 j d l (omega (arith, u))))) in
        ap (so_far within xs) (sym same) ∙ e

    pub up_at : (k : ℕ) → n + k < length xs → up (get_or xs (n + k) d) ≡ true → slice_get xs (n + k) ≡ slice_get (filter within xs) k
    up_at k l t =
        let all : so_far within xs (n + k) ≡ so_far within xs n + k = rise within xs d n k (omega (arith, l)) (λ j le u. and_true (from (get_or xs j d)) (up (get_or xs j d)) (on (from (get_or xs j d)) (begins.1 j d le (omega (arith, u, l)))) (falls j (n + k) d (omega (arith, u)) l t)) in
        let none : so_far within xs n ≡ 0 = none_yet in
        stands_at within xs (n + k) k d l (and_true (from (get_or xs (n + k) d)) (up (get_or xs (n + k) d)) (on (from (get_or xs (n + k) d)) (begins.1 (n + k) d (omega arith) l)) t) (omega (arith, all, none))

    pub up_past : (k : ℕ) → length xs ≤ n + k → slice_get (filter within xs) k ≡ None
    up_past k l =
        let all : n + (length xs - n) ≡ length xs = omega (arith, h) in
        let few : so_far within xs (n + (length xs - n)) ≤ so_far within xs n + (length xs - n) = slow within xs d n (length xs - n) (omega (arith, h)) in
        let none : so_far within xs n ≡ 0 = none_yet in
        walked_past within xs (n + (length xs - n)) k all (omega (arith, few, none, l))

    pub up_short : (k : ℕ) → n + k < length xs → up (get_or xs (n + k) d) ≡ false → slice_get (filter within xs) k ≡ None
    up_short k l f =
        let all : n + k + (length xs - (n + k)) ≡ length xs = omega (arith, l) in
        let few : so_far within xs (n + k) ≤ so_far within xs n + k = slow within xs d n k (omega (arith, l)) in
        let rest : so_far within xs (n + k + (length xs - (n + k))) ≡ so_far within xs (n + k) = flat within xs d (n + k) (length xs - (n + k)) (omega (arith, l)) (λ j le u. second_off (from (get_or xs j d)) (up (get_or xs j d)) (go j le (omega (arith, u, l)) (up (get_or xs j d)) refl)) in
        let none : so_far within xs n ≡ 0 = none_yet in
        walked_past within xs (n + k + (length xs - (n + k))) k all (omega (arith, few, rest, none))
      where
        go : (j : ℕ) → n + k ≤ j → j < length xs → (b : Bool) → up (get_or xs j d) ≡ b → up (get_or xs j d) ≡ false
        go j le u true e = absurd (true≢false (sym (falls (n + k) j d le u e) ∙ f))
        go j le u false e = e

  -- from the back: n is where those up to the upper bound end
  module _ (n : ℕ) (h : n ≤ length xs) (ends : IsPartitionPoint (λ x. up x ≡ true) (λ x. up x ≡ false) xs n) (climbs : IsPartitionedBy (λ x. not (from x)) xs) where
    no_others : length (filter within xs) ≡ so_far within xs n
    no_others =
        let all : n + (length xs - n) ≡ length xs = omega (arith, h) in
        let rest : so_far within xs (n + (length xs - n)) ≡ so_far within xs n = flat within xs d n (length xs - n) (omega (arith, h)) (λ j l u. second_off (from (get_or xs j d)) (up (get_or xs j d)) (ends.1 j d l (omega (arith, u, h)))) in
        whole within xs ∙ ap (so_far within xs) (sym all) ∙ rest

    pub down_at : (i k : ℕ) → i + 1 + k ≡ n → from (get_or xs i d) ≡ true → slice_get xs i ≡ slice_get (reverse (filter within xs)) k
    down_at i k e t =
        let m : i + (1 + k) ≡ n = omega (arith, e) in
        let all : so_far within xs (i + (1 + k)) ≡ so_far within xs i + (1 + k) = rise within xs d i (1 + k) (omega (arith, e, h)) (λ j le u. and_true (from (get_or xs j d)) (up (get_or xs j d)) (go j le (omega (arith, u, e, h)) (from (get_or xs j d)) refl) (ends.0 j d (omega arith) (omega (arith, u, e)))) in
        let total : length (filter within xs) ≡ so_far within xs (i + (1 + k)) = no_others ∙ ap (so_far within xs) (sym m) in
        stands_at within xs i (so_far within xs i) d (omega (arith, e, h)) (and_true (from (get_or xs i d)) (up (get_or xs i d)) t (ends.0 i d (omega arith) (omega (arith, e)))) refl
        ∙ sym (turned (filter within xs) k (so_far within xs i) (omega (arith, all, total)))
      where
        go : (j : ℕ) → i ≤ j → j < length xs → (b : Bool) → from (get_or xs j d) ≡ b → from (get_or xs j d) ≡ true
        go j le u true f = f
        go j le u false f = absurd (true≢false (sym (climbs i j d le u (ap not f)) ∙ ap not t))

    pub down_past : (k : ℕ) → n ≤ k → slice_get (reverse (filter within xs)) k ≡ None
    down_past k l =
        let same : 0 + n ≡ n = omega arith in
        let few : so_far within xs (0 + n) ≤ 0 + n = slow within xs d 0 n (omega (arith, h)) in
        let total : length (filter within xs) ≡ so_far within xs (0 + n) = no_others ∙ ap (so_far within xs) (sym same) in
        back_past within xs k (omega (arith, few, total, l))

    pub down_short : (i k : ℕ) → i + 1 + k ≡ n → from (get_or xs i d) ≡ false → slice_get (reverse (filter within xs)) k ≡ None
    down_short i k e f =
        let few : so_far within xs (i + 1 + k) ≤ so_far within xs (i + 1) + k = slow within xs d (i + 1) k (omega (arith, e, h)) in
        let none : so_far within xs (0 + (i + 1)) ≡ 0 = flat within xs d 0 (i + 1) (omega (arith, e, h)) (λ j l u. first_off (from (get_or xs j d)) (up (get_or xs j d)) (not_true (from (get_or xs j d)) (climbs j i d (omega (arith, u)) (omega (arith, e, h)) (ap not f)))) in
        let same : 0 + (i + 1) ≡ i + 1 = omega arith in
        let front : so_far within xs (i + 1) ≡ 0 = ap (so_far within xs) (sym same) ∙ none in
        let total : length (filter within xs) ≡ so_far within xs (i + 1 + k) = no_others ∙ ap (so_far within xs) (sym e) in
        back_past within xs k (omega (arith, few, front, total))
