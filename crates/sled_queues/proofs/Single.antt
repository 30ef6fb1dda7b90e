-- Lists that have each number once.
use Rattle.std.proofs.Common.{◌≡◌, ◌≢◌, ℕ, zero, suc, ◌+◌, ◌-◌, ◌<◌, Bool, true, false, cond, not, nat_eq, ◌||◌, List, [], ◌∷◌, ◌++◌, take, drop, length, get_or, sym, refl, ap, ◌∙◌, arith}
use mathlib.Core.Bool.{true≢false}
use Rattle.std.proofs.lemmas.Bool.{eq-eqb, ne_eqb, eqb-true}
use Rattle.std.proofs.lemmas.List.Folds.{list_any-append}
use Rattle.std.proofs.lemmas.List.{length-append}
use Rattle.std.proofs.Math.Seq.{take-length, take-append_seam, drop-append_seam}
use Rattle.sled_nodes.proofs.Basics.{first_false, second_false, or_true, or_false}
use Rattle.sled_queues.specs.Lists.{is_in, Once}
use Rattle.sled_queues.specs.theory.Lists.{without}

-- a number that is in a list is another than one that is not
apart : (a b : ℕ) (ns : List ℕ) → is_in a ns ≡ true → is_in b ns ≡ false → a ≢ b
apart a b ns h g e = true≢false (sym h ∙ ap (λ k. is_in k ns) e ∙ g)

in_at : (ns : List ℕ) (i d : ℕ) → i < length ns → is_in (get_or ns i d) ns ≡ true
in_at [] i d l = absurd (omega arith)
in_at (n ∷ ns) zero d l = ap (λ b. b || is_in n ns) (eq-eqb n n refl)
in_at (n ∷ ns) (suc i) d l = ap (λ b. nat_eq (get_or ns i d) n || b) (in_at ns i d (omega arith)) ∙ or_true (nat_eq (get_or ns i d) n)

-- no number stands before itself
pub unmet : (ns : List ℕ) (i d : ℕ) → Once ns → i < length ns → is_in (get_or ns i d) (take i ns) ≡ false
unmet [] i d r l = absurd (omega arith)
unmet (n ∷ ns) zero d r l = refl
unmet (n ∷ ns) (suc i) d r l = or_false (nat_eq (get_or ns i d) n) (is_in (get_or ns i d) (take i ns)) (ne_eqb (get_or ns i d) n (apart (get_or ns i d) n ns (in_at ns i d (omega arith)) r.0)) (unmet ns i d r.1 (omega arith))

-- the beginning of such a list
out_of_take : (n k : ℕ) (ns : List ℕ) → is_in n ns ≡ false → is_in n (take k ns) ≡ false
out_of_take n zero ns h = refl
out_of_take n (suc k) [] h = refl
out_of_take n (suc k) (m ∷ ns) h = or_false (nat_eq n m) (is_in n (take k ns)) (first_false (nat_eq n m) (is_in n ns) h) (out_of_take n k ns (second_false (nat_eq n m) (is_in n ns) h))

pub take_once : (k : ℕ) (ns : List ℕ) → Once ns → Once (take k ns)
take_once zero ns r = tt
take_once (suc k) [] r = tt
take_once (suc k) (n ∷ ns) r = (out_of_take n k ns r.0, take_once k ns r.1)

-- one after the other, where none is in both
pub both_once : (xs ys : List ℕ) → Once xs → Once ys → ((n : ℕ) → is_in n xs ≡ true → is_in n ys ≡ false) → Once (xs ++ ys)
both_once [] ys x y h = y
both_once (n ∷ xs) ys x y h = (
  list_any-append (nat_eq n) xs ys ∙ or_false (is_in n xs) (is_in n ys) x.0 (h n (ap (λ b. b || is_in n xs) (eq-eqb n n refl))),
  both_once xs ys x.1 y (λ m i. h m (ap (λ b. nat_eq m n || b) i ∙ or_true (nat_eq m n))),
)

pub push_once : (k : ℕ) (ns : List ℕ) → Once ns → is_in k ns ≡ false → Once (ns ++ k ∷ [])
push_once k ns r h = both_once ns (k ∷ []) r (refl, tt) (λ n i. ap (λ b. b || false) (ne_eqb n k (apart n k ns i h)))

-- without one of them
out_of_without : (n k : ℕ) (ns : List ℕ) → is_in n ns ≡ false → is_in n (without k ns) ≡ false
out_of_without n k [] h = refl
out_of_without n k (m ∷ ns) h = go (nat_eq m k) (out_of_without n k ns (second_false (nat_eq n m) (is_in n ns) h))
  where
    go : (b : Bool) → is_in n (without k ns) ≡ false → is_in n (cond (not b) (m ∷ without k ns) (without k ns)) ≡ false
    go true r = r
    go false r = or_false (nat_eq n m) (is_in n (without k ns)) (first_false (nat_eq n m) (is_in n ns) h) r

pub without_once : (k : ℕ) (ns : List ℕ) → Once ns → Once (without k ns)
without_once k [] r = tt
without_once k (n ∷ ns) r = go (nat_eq n k) (without_once k ns r.1)
  where
    go : (b : Bool) → Once (without k ns) → Once (cond (not b) (n ∷ without k ns) (without k ns))
    go true h = h
    go false h = (out_of_without n k ns r.0, h)

pub without_gone : (k : ℕ) (ns : List ℕ) → is_in k (without k ns) ≡ false
without_gone k [] = refl
without_gone k (m ∷ ns) = go (nat_eq m k) refl (without_gone k ns)
  where
    go : (b : Bool) → nat_eq m k ≡ b → is_in k (without k ns) ≡ false → is_in k (cond (not b) (m ∷ without k ns) (without k ns)) ≡ false
    go true e r = r
    go false e r = or_false (nat_eq k m) (is_in k (without k ns)) (ne_eqb k m (λ s. true≢false (sym (eq-eqb m k (sym s)) ∙ e))) r

-- the other numbers stay
kept_once : (k n m : ℕ) (ns : List ℕ) (b : Bool) → n ≢ k → nat_eq m k ≡ b → is_in n (without k ns) ≡ is_in n ns → is_in n (cond (not b) (m ∷ without k ns) (without k ns)) ≡ (nat_eq n m || is_in n ns)
kept_once k n m ns true h e rest = rest ∙ sym (ap (λ b. b || is_in n ns) (ne_eqb n m (λ s. h (s ∙ eqb-true m k e))))
kept_once k n m ns false h e rest = ap (λ b. nat_eq n m || b) rest

pub without_keeps : (k n : ℕ) (ns : List ℕ) → n ≢ k → is_in n (without k ns) ≡ is_in n ns
without_keeps k n [] h = refl
without_keeps k n (m ∷ ns) h = kept_once k n m ns (nat_eq m k) h refl (without_keeps k n ns h)

-- a number that is not in a list is put to its end and taken out again
pub push_without : (k : ℕ) (ns : List ℕ) → is_in k ns ≡ false → without k (ns ++ k ∷ []) ≡ ns
push_without k [] h = ap (λ b. cond (not b) (k ∷ []) []) (eq-eqb k k refl)
push_without k (m ∷ ns) h =
    ap (λ b. cond (not b) (m ∷ without k (ns ++ k ∷ [])) (without k (ns ++ k ∷ []))) (ne_eqb m k (λ s. absurd (true≢false (sym (eq-eqb k m (sym s)) ∙ first_false (nat_eq k m) (is_in k ns) h))))
    ∙ ap (λ z. m ∷ z) (push_without k ns (second_false (nat_eq k m) (is_in k ns) h))

-- the parts of a list that was made of two
pub first_part : (xs ys all : List ℕ) (n : ℕ) → all ≡ xs ++ ys → n ≡ length xs → take n all ≡ xs
first_part xs ys all n is e = ap (take n) is ∙ ap (λ k. take k (xs ++ ys)) e ∙ take-append_seam xs ys

pub last_part : (xs ys all : List ℕ) (n : ℕ) → all ≡ xs ++ ys → n ≡ length xs → take (length all - n) (drop n all) ≡ ys
last_part xs ys all n is e =
    ap (λ z. take (length z - n) (drop n z)) is
    ∙ ap (λ k. take (length (xs ++ ys) - k) (drop k (xs ++ ys))) e
    ∙ ap (λ z. take (length (xs ++ ys) - length xs) z) (drop-append_seam xs ys)
    ∙ ap (λ k. take k ys) (less (length (xs ++ ys)) (length xs) (length ys) (length-append xs ys))
    ∙ take-length ys
  where
    less : (a b c : ℕ) → a ≡ b + c → a - b ≡ c
    less a b c h = omega (arith, h)
