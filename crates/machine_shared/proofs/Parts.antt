-- Pages as parts of a range.
use Rattle.std.proofs.Common.{◌≡◌, ◌∙◌, ℕ, ◌≤◌, Bool, true, false, ◌&&◌, if◌then◌else◌, List, [], ◌∷◌, ◌++◌, length, take, drop, reverse, filter, All, sym, refl, ap, subst, arith}
use Rattle.std.proofs.lemmas.List.{length-take, reverse-append, reverse-reverse, take-append-drop}
use Rattle.std.proofs.lemmas.List.Elements.{All-nil, All-cons, All-head, All-tail}
use Rattle.std.specs.FinMap.Entries.{is_sorted, below_all, is_sorted-where_key}
use Rattle.std.specs.declared.ops.Bound.{Bound}
use Rattle.sled_nodes.proofs.Basics.{first_true, second_true, of_true, true_of}
use Rattle.sled_nodes.specs.Order.{Key, key_cmp}
use Rattle.tree_reads.specs.Ranges.{pairs_within}
use Rattle.sled_model.specs.Maps.{Map}
use Rattle.machine_shared.specs.Orders.{in_order}
use Rattle.machine_shared.specs.Reads.{IsPageOf, IsPart, is_within, page_of}
use Rattle.machine_shared.specs.theory.Orders.{IsPage}
use Rattle.machine_shared.specs.declared.read.Answer.{Answer}
use Rattle.machine_shared.specs.declared.read.Answer.TheVariants as told

abbrev Pair : Type 0
Pair = Key × Key

-- what is kept passes the test
kept : {X : Type 0} (f : X → Bool) (xs : List X) → All (λ x. f x ≡ true) (filter f xs)
kept f [] = All-nil (λ x. f x ≡ true)
kept f (x ∷ xs) = go (f x) refl (kept f xs)
  where
    go : (b : Bool) → f x ≡ b → All (λ x. f x ≡ true) (filter f xs) → All (λ x. f x ≡ true) (if b then x ∷ filter f xs else filter f xs)
    go true e rest = All-cons (λ x. f x ≡ true) x (filter f xs) e rest
    go false e rest = rest

-- both parts of a list
all_left : {X : Type 0} (C : X → Type 0) (xs ys : List X) → All C (xs ++ ys) → All C xs
all_left C [] ys h = All-nil C
all_left C (x ∷ xs) ys h = All-cons C x xs (All-head C x (xs ++ ys) h) (all_left C xs ys (All-tail C x (xs ++ ys) h))

all_right : {X : Type 0} (C : X → Type 0) (xs ys : List X) → All C (xs ++ ys) → All C ys
all_right C [] ys h = h
all_right C (x ∷ xs) ys h = all_right C xs ys (All-tail C x (xs ++ ys) h)

below_left : (k : Key) (xs ys : List Pair) → below_all key_cmp k (xs ++ ys) ≡ true → below_all key_cmp k xs ≡ true
below_left k [] ys h = refl
below_left k (x ∷ xs) ys h = ap (λ b. b && below_all key_cmp k xs) (first_true _ _ h) ∙ below_left k xs ys (second_true _ _ h)

sorted_left : (xs ys : List Pair) → is_sorted key_cmp (xs ++ ys) ≡ true → is_sorted key_cmp xs ≡ true
sorted_left [] ys h = refl
sorted_left (x ∷ xs) ys h = ap (λ b. b && is_sorted key_cmp xs) (below_left x.0 xs ys (first_true _ _ h)) ∙ sorted_left xs ys (second_true _ _ h)

sorted_right : (xs ys : List Pair) → is_sorted key_cmp (xs ++ ys) ≡ true → is_sorted key_cmp ys ≡ true
sorted_right [] ys h = h
sorted_right (x ∷ xs) ys h = sorted_right xs ys (second_true _ _ h)

-- the first so many from one end are the one part or the other
parted : (back : Bool) (most : ℕ) (all : List Pair) → (before after : List Pair) × (in_order back (take most (in_order back all)) ≡ (if back then after else before)) × (all ≡ before ++ after)
parted false most all = (take most all, drop most all, refl, sym (take-append-drop most all))
parted true most all = (
  reverse (drop most (reverse all)),
  reverse (take most (reverse all)),
  refl,
  sym (reverse-reverse all) ∙ ap reverse (sym (take-append-drop most (reverse all))) ∙ reverse-append (take most (reverse all)) (drop most (reverse all)),
)

part_of : (back : Bool) {before after : List Pair} (C : List Pair → Type 0) → C before → C after → C (if back then after else before)
part_of true C b a = a
part_of false C b a = b

few : (back : Bool) (most : ℕ) (all : List Pair) → length (take most (in_order back all)) ≤ most
few back most all = let l = length-take most (in_order back all) in omega (arith, l)

pub page_part : (lo hi : Bound Key) (back : Bool) (most : ℕ) (map : Map) → is_sorted key_cmp map ≡ true → IsPart lo hi back most (page_of lo hi back most map)
page_part lo hi back most map s =
    let all = pairs_within lo hi map in
    let p = parted back most all in
    let within = kept (λ (e : Pair). is_within lo hi e.0) map in
    let sorted : is_sorted key_cmp all ≡ true = true_of (is_sorted key_cmp all) (is_sorted-where_key key_cmp (is_within lo hi) map (of_true (is_sorted key_cmp map) s)) in
    record {
      few = few back most all;
      within = subst (All (λ (e : Pair). is_within lo hi e.0 ≡ true)) (sym p.2) (let w = subst (All (λ (e : Pair). is_within lo hi e.0 ≡ true)) p.3 within in part_of back (All (λ (e : Pair). is_within lo hi e.0 ≡ true)) (all_left (λ (e : Pair). is_within lo hi e.0 ≡ true) p.0 p.1 w) (all_right (λ (e : Pair). is_within lo hi e.0 ≡ true) p.0 p.1 w));
      order = subst (λ l. is_sorted key_cmp l ≡ true) (sym p.2) (let w = subst (λ l. is_sorted key_cmp l ≡ true) p.3 sorted in part_of back (λ l. is_sorted key_cmp l ≡ true) (sorted_left p.0 p.1 w) (sorted_right p.0 p.1 w));
    }

-- what was told
abbrev pairs_told : Answer → List Pair
pairs_told (told.Pairs pairs) = pairs
pairs_told other = []

pub page_is : {lo hi : Bound Key} {back : Bool} {most : ℕ} {answer : Answer} → IsPageOf lo hi back most answer → IsPage answer
page_is p = (p.pairs, p.is)

pub part_told : (lo hi : Bound Key) (back : Bool) (most : ℕ) (answer : Answer) (pairs : List Pair) → IsPageOf lo hi back most answer → answer ≡ told.Pairs pairs → IsPart lo hi back most pairs
part_told lo hi back most answer pairs p e = subst (IsPart lo hi back most) (ap pairs_told (sym p.is ∙ e)) p.part
