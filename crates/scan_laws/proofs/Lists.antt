-- Lists of pairs in the order of a scan.
use Rattle.std.proofs.Common.{◌≡◌, ◌∙◌, ◌⊎◌, inl, inr, Bool, true, false, cond, not, filter, List, [], ◌∷◌, ◌++◌, sym, refl, ap, subst, Less, Equal, Greater, is_gt}
use Rattle.std.specs.Prelude.{reverse, Option, Some, None}
use Rattle.std.specs.Ordering.{is_lt, ordering_reverse}
use Rattle.std.specs.FinMap.Entries.{is_sorted, below_all}
use Rattle.std.proofs.lemmas.List.{reverse-append}
use Rattle.std.specs.declared.cmp.Ordering.{Ordering}
use Rattle.std.proofs.lemmas.Cmp.{upto}
use Rattle.std.specs.declared.ops.Bound.{Bound}
use Rattle.std.specs.declared.ops.Bound.TheVariants.{Included, Excluded, Unbounded}
use Rattle.sled_nodes.proofs.Basics.{false_true, not_true, first_true, second_true, is_less, key_total}
use Rattle.sled_nodes.specs.Among.{is_up_to, is_from}
use Rattle.sled_nodes.specs.Order.{Key, key_cmp, Below, UpTo}
use Rattle.sled_nodes.specs.Ranges.{Range, is_reversed}
use Rattle.sled_store.specs.In.{In}
use Rattle.sled_model.specs.Scan.{is_in_rest, Before, is_read}
use Rattle.tree_laws.proofs.Order.{least, upto_below-trans, below_upto-trans}
use Rattle.scan_laws.specs.Scanned.{InOrder}

abbrev Pair : Type 0
Pair = Key × Key

pub in_left : (e : Pair) (xs ys : List Pair) → In e xs → In e (xs ++ ys)
in_left e [] ys h = absurd h
in_left e (x ∷ xs) ys (inl h) = inl h
in_left e (x ∷ xs) ys (inr h) = inr (in_left e xs ys h)

pub in_right : (e : Pair) (xs ys : List Pair) → In e ys → In e (xs ++ ys)
in_right e [] ys h = h
in_right e (x ∷ xs) ys h = inr (in_right e xs ys h)

pub in_either : (e : Pair) (xs ys : List Pair) → In e (xs ++ ys) → In e xs ⊎ In e ys
in_either e [] ys h = inr h
in_either e (x ∷ xs) ys (inl h) = inl (inl h)
in_either e (x ∷ xs) ys (inr h) = elim (in_either e xs ys h) [ inl l ↦ inl (inr l) | inr r ↦ inr r ]

pub ordered_left : (back : Bool) (xs ys : List Pair) → InOrder back (xs ++ ys) → InOrder back xs
ordered_left back [] ys h = tt
ordered_left back (x ∷ xs) ys h = ((λ f i. h.0 f (in_left f xs ys i)), ordered_left back xs ys h.1)

pub ordered_both : (back : Bool) (xs ys : List Pair) → InOrder back xs → InOrder back ys → ((e f : Pair) → In e xs → In f ys → Before back e.0 f.0) → InOrder back (xs ++ ys)
ordered_both back [] ys h g apart = g
ordered_both back (x ∷ xs) ys h g apart = (
  (λ f i. elim (in_either f xs ys i) [ inl l ↦ h.0 f l | inr r ↦ apart x f (inl refl) r ]),
  ordered_both back xs ys h.1 g (λ e f i j. apart e f (inr i) j),
)

-- a list turned round
turned : (x : Pair) (xs : List Pair) → reverse (x ∷ xs) ≡ reverse xs ++ x ∷ []
turned x xs = reverse-append (x ∷ []) xs

pub in_turned : (e : Pair) (xs : List Pair) → In e xs → In e (reverse xs)
in_turned e [] h = absurd h
in_turned e (x ∷ xs) (inl h) = subst (λ l. In e l) (sym (turned x xs)) (in_right e (reverse xs) (x ∷ []) (inl h))
in_turned e (x ∷ xs) (inr h) = subst (λ l. In e l) (sym (turned x xs)) (in_left e (reverse xs) (x ∷ []) (in_turned e xs h))

pub in_turned_back : (e : Pair) (xs : List Pair) → In e (reverse xs) → In e xs
in_turned_back e [] h = h
in_turned_back e (x ∷ xs) h = elim (in_either e (reverse xs) (x ∷ []) (subst (λ l. In e l) (turned x xs) h)) [
  | inl l ↦ inr (in_turned_back e xs l)
  | inr r ↦ inl (only r)
]
  where
    only : In e (x ∷ []) → e ≡ x
    only (inl h) = h
    only (inr h) = absurd h

pub ordered_turned : (xs : List Pair) → InOrder false xs → InOrder true (reverse xs)
ordered_turned [] h = tt
ordered_turned (x ∷ xs) h = subst (λ l. InOrder true l) (sym (turned x xs))
    (ordered_both true (reverse xs) (x ∷ []) (ordered_turned xs h.1) ((λ f i. absurd i), tt) (λ e f i j. last e f (in_turned_back e xs i) j))
  where
    last : (e f : Pair) → In e xs → In f (x ∷ []) → Before true e.0 f.0
    last e f i (inl j) = subst (λ (z : Pair). Below z.0 e.0) (sym j) (h.0 e i)
    last e f i (inr j) = absurd j

-- the pairs that pass a test
kept_in : (p : Pair → Bool) (e : Pair) (xs : List Pair) → In e (filter p xs) → In e xs × (p e ≡ true)
kept_in p e [] i = absurd i
kept_in p e (x ∷ xs) i = go (p x) refl (kept_in p e xs) i
  where
    go : (b : Bool) → p x ≡ b → (In e (filter p xs) → In e xs × (p e ≡ true)) → In e (cond b (x ∷ filter p xs) (filter p xs)) → (In e (x ∷ xs)) × (p e ≡ true)
    go true h rest (inl i) = (inl i, ap p i ∙ h)
    go true h rest (inr i) = let r = rest i in (inr r.0, r.1)
    go false h rest i = let r = rest i in (inr r.0, r.1)

pub in_kept : (p : Pair → Bool) (e : Pair) (xs : List Pair) → In e (filter p xs) → In e xs
in_kept p e xs i = (kept_in p e xs i).0

pub passes : (p : Pair → Bool) (e : Pair) (xs : List Pair) → In e (filter p xs) → p e ≡ true
passes p e xs i = (kept_in p e xs i).1

pub keeps_in : (p : Pair → Bool) (e : Pair) (xs : List Pair) → In e xs → p e ≡ true → In e (filter p xs)
keeps_in p e [] i h = absurd i
keeps_in p e (x ∷ xs) i h = go (p x) refl (λ j. keeps_in p e xs j h) i
  where
    go : (b : Bool) → p x ≡ b → (In e xs → In e (filter p xs)) → In e (x ∷ xs) → In e (cond b (x ∷ filter p xs) (filter p xs))
    go true g rest (inl j) = inl j
    go true g rest (inr j) = inr (rest j)
    go false g rest (inl j) = false_true (sym g ∙ ap p (sym j) ∙ h)
    go false g rest (inr j) = rest j

pub ordered_kept : (back : Bool) (p : Pair → Bool) (xs : List Pair) → InOrder back xs → InOrder back (filter p xs)
ordered_kept back p [] h = tt
ordered_kept back p (x ∷ xs) h = elim (p x) as (λ b. InOrder back (cond b (x ∷ filter p xs) (filter p xs))) [
  | true ↦ ((λ f i. h.0 f (in_kept p f xs i)), ordered_kept back p xs h.1)
  | false ↦ ordered_kept back p xs h.1
]

below_each : (x : Key) (es : List Pair) → below_all key_cmp x es ≡ true → (f : Pair) → In f es → Below x f.0
below_each x [] h f i = absurd i
below_each x (e ∷ es) h f (inl i) = subst (λ (z : Pair). Below x z.0) (sym i) (is_less (key_cmp x e.0) (first_true _ _ h))
below_each x (e ∷ es) h f (inr i) = below_each x es (second_true _ _ h) f i

-- a map that rises is in the order of a scan from its least key up
pub ordered_map : (es : List Pair) → is_sorted key_cmp es ≡ true → InOrder false es
ordered_map [] h = tt
ordered_map (e ∷ es) h = (below_each e.0 es (first_true _ _ h), ordered_map es (second_true _ _ h))

up_to : (k b : Key) → not (is_gt (key_cmp k b)) ≡ true → UpTo k b
up_to k b e = not_true _ e

from_key : (a k : Key) → not (is_lt (key_cmp k a)) ≡ true → UpTo a k
from_key a k e = go (key_cmp k a) (key_total.antisymm a k) (not_true _ e)
  where
    go : (o : Ordering) → key_cmp a k ≡ ordering_reverse o → is_lt o ≡ false → UpTo a k
    go Less h g = cc
    go Equal h g = ap is_gt h
    go Greater h g = ap is_gt h

above_key : (a k : Key) → is_gt (key_cmp k a) ≡ true → Below a k
above_key a k e = go (key_cmp k a) (key_total.antisymm a k) e
  where
    go : (o : Ordering) → key_cmp a k ≡ ordering_reverse o → is_gt o ≡ true → Below a k
    go Less h g = cc
    go Equal h g = cc
    go Greater h g = h

not_below : (a b : Key) → not (is_lt (key_cmp a b)) ≡ true → Below a b → ⊥
not_below a b e h = false_true (sym (not_true _ e) ∙ ap is_lt h)

not_upto : (a b : Key) → is_gt (key_cmp a b) ≡ true → UpTo a b → ⊥
not_upto a b e h = false_true (sym h ∙ e)

-- bounds that give nothing have no key between them
between : (lo hi : Bound Key) (k : Key) → is_reversed lo hi ≡ true → is_from lo k ≡ true → is_up_to hi k ≡ true → ⊥
between (Included a) (Included b) k e p q = not_upto a b e (upto key_total a k b (from_key a k p) (up_to k b q))
between (Included a) (Excluded b) k e p q = not_below a b e (upto_below-trans a k b (from_key a k p) (is_less _ q))
between (Excluded a) (Included b) k e p q = not_below a b e (below_upto-trans a k b (above_key a k p) (up_to k b q))
between (Excluded a) (Excluded b) k e p q = not_below a b e (key_total.trans a k b (above_key a k p) (is_less _ q))
between Unbounded (Excluded b) k e p q = not_below [] b e (upto_below-trans [] k b (least k) (is_less _ q))
between Unbounded (Included b) k e p q = false_true e
between Unbounded Unbounded k e p q = false_true e
between (Included a) Unbounded k e p q = false_true e
between (Excluded a) Unbounded k e p q = false_true e

pub in_range_reversed : (rest : Option Range) (k : Key) → is_read rest ≡ true → is_in_rest rest k ≡ true → ⊥
in_range_reversed None k e h = false_true h
in_range_reversed (Some r) k e h = between r.lo r.hi k e (first_true _ _ h) (second_true _ _ h)
