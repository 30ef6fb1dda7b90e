-- Prepared events come one after the other.
use Rattle.std.proofs.Common.{◌≡◌, ℕ, zero, suc, ◌+◌, ◌-◌, ◌≤◌, ◌<◌, Bool, true, false, cond, nat_le, min, List, [], ◌∷◌, ◌++◌, length, drop, take, get_or, sym, refl, ap, ◌∙◌, arith}
use Rattle.std.proofs.lemmas.Bool.{leb-true, leb-false}
use Rattle.std.proofs.lemmas.List.{take_more}
use Rattle.sled_model.specs.declared.event.Event.{Event}
use Rattle.sled_model.specs.Backlog.{Backlog, queue_limit, comes, come_all}
use Rattle.sled_model.specs.Ids.{greatest_of_all}

pub length_take : (xs : List Event) (i : ℕ) → i ≤ length xs → length (take i xs) ≡ i
length_take xs zero l = refl
length_take [] (suc i) l = absurd (omega (arith, l))
length_take (x ∷ xs) (suc i) l = let r = length_take xs i (omega (arith, l)) in omega (arith, r)

next_first : (xs : List Event) (i : ℕ) (d : Event) → i < length xs → drop i xs ≡ get_or xs i d ∷ drop (i + 1) xs
next_first [] i d l = absurd (omega (arith, l))
next_first (x ∷ xs) zero d l = refl
next_first (x ∷ xs) (suc i) d l = let e : suc i + 1 ≡ suc (i + 1) = omega arith in next_first xs i d (omega (arith, l)) ∙ ap (λ k. get_or xs i d ∷ drop k (x ∷ xs)) (sym e)

shifted : (xs : List Event) (i : ℕ) (d : Event) → i < length xs → 1 ≤ i → take i (drop 1 xs) ≡ drop 1 (take i xs) ++ get_or xs i d ∷ []
shifted [] i d l a = absurd (omega (arith, l))
shifted (x ∷ xs) zero d l a = absurd (omega (arith, a))
shifted (x ∷ xs) (suc i) d l a = let e : i + 1 ≡ suc i = omega arith in ap (λ k. take k xs) (sym e) ∙ take_more xs i d (omega (arith, l))

dropped : (xs : List Event) (i : ℕ) → drop i (drop 1 xs) ≡ drop (i + 1) xs
dropped [] i = go i
  where
    go : (i : ℕ) → drop {A = Event} i [] ≡ drop {A = Event} (i + 1) []
    go zero = refl
    go (suc i) = let e : suc i + 1 ≡ suc (i + 1) = omega arith in sym (ap (λ k. drop {A = Event} k []) e)
dropped (x ∷ xs) i = let e : i + 1 ≡ suc i = omega arith in sym (ap (λ k. drop k (x ∷ xs)) e)

has_room : (n : ℕ) → n < queue_limit → nat_le queue_limit n ≡ false
has_room n l = go (nat_le queue_limit n) refl
  where
    go : (b : Bool) → nat_le queue_limit n ≡ b → b ≡ false
    go true e = absurd (let up : queue_limit ≤ n = leb-true queue_limit n e in omega (arith, up, l))
    go false e = refl

is_full : (n : ℕ) → queue_limit ≤ n → nat_le queue_limit n ≡ true
is_full n l = go (nat_le queue_limit n) refl
  where
    go : (b : Bool) → nat_le queue_limit n ≡ b → b ≡ true
    go true e = refl
    go false e = absurd (let low : n < queue_limit = leb-false queue_limit n e in omega (arith, low, l))

abbrev pub held_to : ℕ → ℕ → List Event → Backlog
held_to missed i xs = record { missed = missed; events = take i xs }

-- one comes where there is room
pub admits : (xs : List Event) (i missed : ℕ) → i < length xs → i < queue_limit → come_all (drop (i + 1) xs) (held_to missed (i + 1) xs) ≡ come_all (drop i xs) (held_to missed i xs)
admits [] i missed l r = absurd (omega (arith, l))
admits (x ∷ ys) i missed l r =
    let xs : List Event = x ∷ ys in
    let e : Event = get_or xs i x in
    let low : length (take i xs) < queue_limit = (let n = length_take xs i (omega (arith, l)) in omega (arith, n, r)) in
    let came : comes e (held_to missed i xs) ≡ held_to missed (i + 1) xs =
    ap (λ b. cond b (record { missed = min (missed + 1) greatest_of_all; events = drop 1 (take i xs) ++ e ∷ [] }) (record { missed = missed; events = take i xs ++ e ∷ [] })) (has_room (length (take i xs)) low)
    ∙ ap (λ l. record { missed = missed; events = l }) (sym (take_more xs i x l)) in
    sym (ap (λ z. come_all z (held_to missed i xs)) (next_first xs i x l) ∙ ap (come_all (drop (i + 1) xs)) came)

-- one comes and the oldest goes
pub pushes : (xs : List Event) (i missed count : ℕ) → i < length xs → queue_limit ≤ i → count ≡ min (missed + 1) greatest_of_all → come_all (drop i (drop 1 xs)) (held_to count i (drop 1 xs)) ≡ come_all (drop i xs) (held_to missed i xs)
pushes [] i missed count l r c = absurd (omega (arith, l))
pushes (x ∷ ys) i missed count l r c =
    let xs : List Event = x ∷ ys in
    let e : Event = get_or xs i x in
    let high : queue_limit ≤ length (take i xs) = (let n = length_take xs i (omega (arith, l)) in omega (arith, n, r)) in
    let came : comes e (held_to missed i xs) ≡ held_to count i (drop 1 xs) =
    ap (λ b. cond b (record { missed = min (missed + 1) greatest_of_all; events = drop 1 (take i xs) ++ e ∷ [] }) (record { missed = missed; events = take i xs ++ e ∷ [] })) (is_full (length (take i xs)) high)
    ∙ ap (λ l. record { missed = min (missed + 1) greatest_of_all; events = l }) (sym (shifted xs i x l (omega (arith, r))))
    ∙ ap (λ k. record { missed = k; events = take i (drop 1 xs) }) (sym c) in
    ap (λ z. come_all z (held_to count i (drop 1 xs))) (dropped xs i) ∙ sym (ap (λ z. come_all z (held_to missed i xs)) (next_first xs i x l) ∙ ap (come_all (drop (i + 1) xs)) came)

length_drop : (xs : List Event) (i : ℕ) → length (drop i xs) ≡ length xs - i
length_drop xs zero = omega arith
length_drop [] (suc i) = omega arith
length_drop (x ∷ xs) (suc i) = let r = length_drop xs i in omega (arith, r)

-- all have come
pub admitted : (xs : List Event) (i missed : ℕ) (was : Backlog) → i ≤ length xs → length (drop i xs) ≡ 0 → come_all (drop i xs) (held_to missed i xs) ≡ was → record { missed = missed; events = xs } ≡ was
admitted xs i missed was l none is = ap (λ es. record { missed = missed; events = es }) (sym (whole xs i (let d = length_drop xs i in omega (arith, d, none, l)))) ∙ ap (λ z. come_all z (held_to missed i xs)) (sym (empty (drop i xs) none)) ∙ is
  where
    empty : (ys : List Event) → length ys ≡ 0 → ys ≡ []
    empty [] e = refl
    empty (y ∷ ys) e = absurd (omega (arith, e))

    whole : (xs : List Event) (i : ℕ) → length xs ≤ i → take i xs ≡ xs
    whole [] zero l = refl
    whole [] (suc i) l = refl
    whole (x ∷ xs) zero l = absurd (omega (arith, l))
    whole (x ∷ xs) (suc i) l = ap (λ r. x ∷ r) (whole xs i (omega (arith, l)))

pub all_came : (xs : List Event) (i : ℕ) → i ≤ length xs → length (drop i xs) ≡ 0 → i ≡ length xs
all_came xs i l none = let d = length_drop xs i in omega (arith, d, none, l)

pub pushes_to : (xs ys : List Event) (i missed count : ℕ) → i < length xs → queue_limit ≤ i → count ≡ min (missed + 1) greatest_of_all → ys ≡ drop 1 xs → come_all (drop i ys) (held_to count i ys) ≡ come_all (drop i xs) (held_to missed i xs)
pushes_to xs ys i missed count l r c is = ap (λ z. come_all (drop i z) (held_to count i z)) is ∙ pushes xs i missed count l r c
