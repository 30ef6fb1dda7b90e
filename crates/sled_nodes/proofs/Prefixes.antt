-- What keys begin with.
use Rattle.std.proofs.Common.{◌≡◌, ℕ, zero, suc, ◌+◌, ◌<◌, ◌≤◌, Bool, true, false, cond, nat_eq, List, [], ◌∷◌, ◌++◌, length, take, drop, get_or, Option, Some, None, refl, sym, ap, subst, ◌∙◌, arith, append_assoc, append-nil, not, drop-cons, add-one}
use Rattle.std.proofs.lemmas.Bool.{eqb-true, eq-eqb}
use Rattle.std.proofs.lemmas.List.{append_cancel_left, length-take-le, take-append-drop}
use Rattle.std.proofs.Math.Seq.{drop-append_seam}
use Rattle.std.proofs.lemmas.Map.Text.{is_eq-slice_cmp}
use Rattle.std.proofs.lemmas.Slice.Eq.{bytes_eq-Decides}
use Rattle.std.specs.List.{remove}
use Rattle.std.specs.Cmp.Lexicographic.{slice_cmp}
use Rattle.std.specs.Ordering.{nat_cmp, is_eq, is_lt, is_gt, ordering_then}
use Rattle.std.specs.Cmp.{nat_cmp_is}
use Rattle.std.proofs.lemmas.Bool.Decides.{nat_tests}
use Rattle.std.proofs.Math.Seq.{take-append_seam}
use Rattle.std.specs.declared.cmp.Ordering.{Ordering}
use Rattle.std.specs.declared.cmp.Ordering.TheVariants.{Less, Equal, Greater}
use Rattle.std.specs.FinMap.Entries.{put, by_order}
use Rattle.sled_nodes.specs.Order.{Key, key_cmp}
use Rattle.sled_nodes.specs.Prefix.{shared, shared_with, prefix_of, cut, rests_of, behind, IsStripped}
use Rattle.std.proofs.Common.{Bor, MatchBool}
use Rattle.std.specs.declared.ops.Bound.{Bound}
use Rattle.std.specs.declared.ops.Bound.TheVariants.{Unbounded}
use Rattle.sled_nodes.specs.theory.Stripped.{is_up_to_in, is_from_in}

-- a key begins with p
abbrev pub Begins : Key → Key → Type 0
Begins p k = (r : Key) × (k ≡ p ++ r)

begins_trans : (p q k : Key) → Begins p q → Begins q k → Begins p k
begins_trans p q k a b = (a.0 ++ b.0, b.1 ∙ (ap (λ x. x ++ b.0) a.1 ∙ append_assoc p a.0 b.0))

shared_left : (a b : Key) → Begins (shared a b) a
shared_left [] b = ([], refl)
shared_left (x ∷ xs) [] = (x ∷ xs, refl)
shared_left (x ∷ xs) (y ∷ ys) =
    elim (nat_eq x y) as (λ t. Begins (cond t (x ∷ shared xs ys) []) (x ∷ xs)) [
      | true ↦ (let r = shared_left xs ys in (r.0, ap (λ l. x ∷ l) r.1))
      | false ↦ (x ∷ xs, refl)
    ]

shared_right : (a b : Key) → Begins (shared a b) b
shared_right [] b = (b, refl)
shared_right (x ∷ xs) [] = ([], refl)
shared_right (x ∷ xs) (y ∷ ys) =
    elim (nat_eq x y) as (λ t. nat_eq x y ≡ t → Begins (cond t (x ∷ shared xs ys) []) (y ∷ ys)) [
      | true ↦ λ e. (let r = shared_right xs ys in (r.0, ap (λ l. y ∷ l) r.1 ∙ ap (λ z. z ∷ shared xs ys ++ r.0) (sym (eqb-true x y e))))
      | false ↦ λ e. (y ∷ ys, refl)
    ] refl

shared_behind : (p a b : Key) → shared (p ++ a) (p ++ b) ≡ p ++ shared a b
shared_behind [] a b = refl
shared_behind (x ∷ xs) a b = ap (λ t. cond t (x ∷ shared (xs ++ a) (xs ++ b)) []) (eq-eqb x x refl) ∙ ap (λ l. x ∷ l) (shared_behind xs a b)

shared_longest : (q a b : Key) → Begins q a → Begins q b → Begins q (shared a b)
shared_longest q a b s t = (shared s.0 t.0, ap (λ x. shared x b) s.1 ∙ (ap (λ y. shared (q ++ s.0) y) t.1 ∙ shared_behind q s.0 t.0))

begins_none : (q : Key) → Begins q [] → q ≡ []
begins_none [] b = refl
begins_none (z ∷ zs) b = cc

-- what was cut from a key, put before it again
whole : (c k : Key) → Begins c k → c ++ drop (length c) k ≡ k
whole c k b = ap (λ x. c ++ drop (length c) x) b.1 ∙ (ap (λ r. c ++ r) (drop-append_seam c b.0) ∙ sym b.1)

module _ {X : Type 0} where
  -- every key begins with q
  abbrev pub AllBegin : Key → List (Key × X) → Type 0
  AllBegin q [] = Unit {0}
  AllBegin q (e ∷ es) = Begins q e.0 × AllBegin q es

  shared_with_behind : (p k : Key) (es : List (Key × X)) → shared_with (p ++ k) (behind p es) ≡ p ++ shared_with k es
  shared_with_behind p k [] = refl
  shared_with_behind p k (e ∷ es) = ap (λ s. shared_with s (behind p es)) (shared_behind p k e.0) ∙ shared_with_behind p (shared k e.0) es

  prefix_behind : (p : Key) (es : List (Key × X)) → (es ≡ [] → p ≡ []) → prefix_of (behind p es) ≡ p ++ prefix_of es
  prefix_behind p [] n = sym (ap (λ x. x ++ []) (n refl))
  prefix_behind p (e ∷ es) n = shared_with_behind p e.0 es

  -- the prefix that is kept is that of the entries, and what is kept are their rests
  pub prefix_is : (p : Key) (es : List (Key × X)) → IsStripped p es → prefix_of (behind p es) ≡ p
  prefix_is p es h = prefix_behind p es h.none ∙ (ap (λ x. p ++ x) h.apart ∙ append-nil p)

  cut_behind : (p : Key) (es : List (Key × X)) → cut (length p) (behind p es) ≡ es
  cut_behind p [] = refl
  cut_behind p (e ∷ es) = ap (λ k. (k, e.1) ∷ cut (length p) (behind p es)) (drop-append_seam p e.0) ∙ ap (λ l. e ∷ l) (cut_behind p es)

  pub rests_are : (p : Key) (es : List (Key × X)) → IsStripped p es → rests_of (behind p es) ≡ es
  rests_are p es h = ap (λ q. cut (length q) (behind p es)) (prefix_is p es h) ∙ cut_behind p es

  pub behind_nothing : (es : List (Key × X)) → behind [] es ≡ es
  behind_nothing [] = refl
  behind_nothing (e ∷ es) = ap (λ l. e ∷ l) (behind_nothing es)

  behind_twice : (p q : Key) (es : List (Key × X)) → behind p (behind q es) ≡ behind (p ++ q) es
  behind_twice p q [] = refl
  behind_twice p q (e ∷ es) = ap (λ k. (k, e.1) ∷ behind p (behind q es)) (sym (append_assoc p q e.0)) ∙ ap (λ l. ((p ++ q) ++ e.0, e.1) ∷ l) (behind_twice p q es)

  shared_with_begins : (k : Key) (es : List (Key × X)) → Begins (shared_with k es) k
  shared_with_begins k [] = ([], sym (append-nil k))
  shared_with_begins k (e ∷ es) = begins_trans (shared_with (shared k e.0) es) (shared k e.0) k (shared_with_begins (shared k e.0) es) (shared_left k e.0)

  shared_with_all : (k : Key) (es : List (Key × X)) → AllBegin (shared_with k es) es
  shared_with_all k [] = tt
  shared_with_all k (e ∷ es) = (begins_trans (shared_with (shared k e.0) es) (shared k e.0) e.0 (shared_with_begins (shared k e.0) es) (shared_right k e.0), shared_with_all (shared k e.0) es)

  prefix_all : (es : List (Key × X)) → AllBegin (prefix_of es) es
  prefix_all [] = tt
  prefix_all (e ∷ es) = (shared_with_begins e.0 es, shared_with_all e.0 es)

  behind_cut : (c : Key) (es : List (Key × X)) → AllBegin c es → behind c (cut (length c) es) ≡ es
  behind_cut c [] a = refl
  behind_cut c (e ∷ es) a = ap (λ k. (k, e.1) ∷ behind c (cut (length c) es)) (whole c e.0 a.0) ∙ ap (λ l. e ∷ l) (behind_cut c es a.1)

  -- the same entries with their prefix taken off, behind what was taken off before
  pub cut_more : (p c : Key) (n : ℕ) (es : List (Key × X)) → c ≡ prefix_of es → n ≡ length c → behind (p ++ c) (cut n es) ≡ behind p es
  cut_more p c n es e l =
      sym (behind_twice p c (cut n es)) ∙ ap (behind p) (ap (λ m. behind c (cut m es)) l ∙ behind_cut c es (subst (λ (x : Key). AllBegin x es) (sym e) (prefix_all es)))

  cut_apart : (c : Key) (e : Key × X) (es : List (Key × X)) → c ≡ prefix_of (e ∷ es) → prefix_of (cut (length c) (e ∷ es)) ≡ []
  cut_apart c e es h =
      let all : behind c (cut (length c) (e ∷ es)) ≡ e ∷ es = behind_cut c (e ∷ es) (subst (λ (x : Key). AllBegin x (e ∷ es)) (sym h) (prefix_all (e ∷ es))) in
      append_cancel_left c (prefix_of (cut (length c) (e ∷ es))) [] (sym (prefix_behind c (cut (length c) (e ∷ es)) (λ k. cc)) ∙ (ap prefix_of all ∙ (sym h ∙ sym (append-nil c))))

  pub cut_stripped : (p c : Key) (n : ℕ) (es : List (Key × X)) → (es ≡ [] → ⊥) → c ≡ prefix_of es → n ≡ length c → IsStripped (p ++ c) (cut n es)
  cut_stripped p c n [] k h l = absurd (k refl)
  cut_stripped p c n (e ∷ es) k h l = record { none = λ j. cc; apart = ap (λ m. prefix_of (cut m (e ∷ es))) l ∙ cut_apart c e es h }

  -- what begins all keys begins their prefix
  longest : (q k : Key) (es : List (Key × X)) → Begins q k → AllBegin q es → Begins q (shared_with k es)
  longest q k [] b a = b
  longest q k (e ∷ es) b a = longest q (shared k e.0) es (shared_longest q k e.0 b a.0) a.1

  prefix_longest : (q : Key) (es : List (Key × X)) → (es ≡ [] → ⊥) → AllBegin q es → Begins q (prefix_of es)
  prefix_longest q [] n a = absurd (n refl)
  prefix_longest q (e ∷ es) n a = longest q e.0 es a.0 a.1

  -- entries that have all keys of others begin with no more
  pub apart_more : (es more : List (Key × X)) → (es ≡ [] → ⊥) → ((q : Key) → AllBegin q more → AllBegin q es) → prefix_of es ≡ [] → prefix_of more ≡ []
  apart_more es more n has e = begins_none (prefix_of more) (subst (λ (x : Key). Begins (prefix_of more) x) e (prefix_longest (prefix_of more) es n (has (prefix_of more) (prefix_all more))))

  begun_at : (q : Key) (es : List (Key × X)) (i : ℕ) (d : Key × X) → i < length es → AllBegin q es → Begins q (get_or es i d).0
  begun_at q [] i d h a = absurd (omega (arith, h))
  begun_at q (e ∷ es) zero d h a = a.0
  begun_at q (e ∷ es) (suc i) d h a = begun_at q es i d (omega (arith, h)) a.1

  -- two keys that share nothing
  pub apart_at : (es : List (Key × X)) (i j : ℕ) (c d : Key × X) → i < length es → j < length es → shared (get_or es i c).0 (get_or es j d).0 ≡ [] → prefix_of es ≡ []
  apart_at es i j c d h k e =
      begins_none (prefix_of es) (subst (λ (x : Key). Begins (prefix_of es) x) e (shared_longest (prefix_of es) (get_or es i c).0 (get_or es j d).0 (begun_at (prefix_of es) es i c h (prefix_all es)) (begun_at (prefix_of es) es j d k (prefix_all es))))

-- places where two byte strings stop being the same
pub shared_whole : (a b : Key) (n : ℕ) → n ≤ length a → n ≤ length b → (n < length a → n < length b → ⊥) → shared a b ≡ take n a ++ shared (drop n a) (drop n b) → n ≡ length (shared a b)
shared_whole a b n h k end e =
    sym (length-take-le n a h) ∙ (ap length (sym (append-nil (take n a))) ∙ (ap (λ x. length (take n a ++ x)) (sym (nothing a b n h k end)) ∙ ap length (sym e)))
  where
    nothing : (a b : Key) (n : ℕ) → n ≤ length a → n ≤ length b → (n < length a → n < length b → ⊥) → shared (drop n a) (drop n b) ≡ []
    nothing [] b zero h k end = refl
    nothing (x ∷ xs) [] zero h k end = refl
    nothing (x ∷ xs) (y ∷ ys) zero h k end = absurd (end (omega arith) (omega arith))
    nothing [] b (suc n) h k end = absurd (omega (arith, h))
    nothing (x ∷ xs) [] (suc n) h k end = absurd (omega (arith, k))
    nothing (x ∷ xs) (y ∷ ys) (suc n) h k end = nothing xs ys n (omega (arith, h)) (omega (arith, k)) (λ l m. end (omega (arith, l)) (omega (arith, m)))

-- the shared bytes are the first bytes of the whole
pub take_shared : (f k : Key) (n m : ℕ) → m ≡ length (shared (take n f) k) → take m f ≡ shared (take n f) k
take_shared f k n m e =
    let s = shared_left (take n f) k in
    let whole_f : f ≡ shared (take n f) k ++ (s.0 ++ drop n f) = sym (take-append-drop n f) ∙ (ap (λ x. x ++ drop n f) s.1 ∙ append_assoc (shared (take n f) k) s.0 (drop n f)) in
    ap (take m) whole_f ∙ (ap (λ j. take j (shared (take n f) k ++ (s.0 ++ drop n f))) e ∙ take-append_seam (shared (take n f) k) (s.0 ++ drop n f))

pub prefix_more : {X : Type 0} (es : List (Key × X)) (i : ℕ) (d : Key × X) (f : Key) (n m : ℕ) → i < length es → m ≡ length (shared (take n f) (get_or es i d).0) → prefix_of es ≡ shared_with (take n f) (drop i es) → prefix_of es ≡ shared_with (take m f) (drop (i + 1) es)
prefix_more es i d f n m h e p =
    p ∙ (ap (shared_with (take n f)) (drop-cons es i d h)
    ∙ (ap (λ s. shared_with s (drop (suc i) es)) (sym (take_shared f (get_or es i d).0 n m e)) ∙ ap (λ j. shared_with (take m f) (drop j es)) (sym (add-one i))))

-- the order of keys is that of their rests
pub cmp_behind : (p a b : Key) → slice_cmp nat_cmp (p ++ a) (p ++ b) ≡ slice_cmp nat_cmp a b
cmp_behind [] a b = refl
cmp_behind (x ∷ xs) a b = ap (λ o. ordering_then o (slice_cmp nat_cmp (xs ++ a) (xs ++ b))) (sym (nat_cmp_is x x Equal refl)) ∙ cmp_behind xs a b

pub cmp_rest : (p r k rest : Key) → k ≡ p ++ rest → key_cmp (p ++ r) k ≡ key_cmp r rest
unfolding key_cmp
cmp_rest p r k rest e = ap (slice_cmp nat_cmp (p ++ r)) e ∙ cmp_behind p r rest

-- a key that does not begin with p is compared as with p
cmp_other : (p r k : Key) → ((rest : Key) → k ≡ p ++ rest → ⊥) → slice_cmp nat_cmp (p ++ r) k ≡ slice_cmp nat_cmp p k
cmp_other [] r k n = absurd (n k refl)
cmp_other (x ∷ xs) r [] n = refl
cmp_other (x ∷ xs) r (y ∷ ys) n =
    elim (nat_cmp x y) as (λ o. nat_cmp x y ≡ o → ordering_then o (slice_cmp nat_cmp (xs ++ r) ys) ≡ ordering_then o (slice_cmp nat_cmp xs ys)) [
      | Less ↦ λ e. refl
      | Equal ↦ λ e. cmp_other xs r ys (λ rest f. n rest (ap (λ l. y ∷ l) f ∙ ap (λ z. z ∷ xs ++ rest) (sym (same_number x y e))))
      | Greater ↦ λ e. refl
    ] refl
  where
    same_number : (x y : ℕ) → nat_cmp x y ≡ Equal → x ≡ y
    same_number x y e = grind (arith, nat_tests, e)

not_equal : (p k : Key) → ((rest : Key) → k ≡ p ++ rest → ⊥) → slice_cmp nat_cmp p k ≡ Equal → ⊥
not_equal p k n e = n [] (sym ((bytes_eq-Decides p k).0 (sym (is_eq-slice_cmp p k) ∙ ap is_eq e)) ∙ sym (append-nil p))

pub cmp_apart : (p r k : Key) → ((rest : Key) → k ≡ p ++ rest → ⊥) → key_cmp (p ++ r) k ≡ slice_cmp nat_cmp p k
unfolding key_cmp
cmp_apart p r k n = cmp_other p r k n

-- all or none of the keys behind p
module _ (p r k : Key) (n : (rest : Key) → k ≡ p ++ rest → ⊥) where
  by_lower : (o : Ordering) → (o ≡ Equal → ⊥) → not (is_gt o) ≡ is_lt o
  by_lower Less q = refl
  by_lower Equal q = absurd (q refl)
  by_lower Greater q = refl

  by_greater : (o : Ordering) → (o ≡ Equal → ⊥) → not (is_lt o) ≡ is_gt o
  by_greater Less q = refl
  by_greater Equal q = absurd (q refl)
  by_greater Greater q = refl

  pub up_to_apart : not (is_gt (key_cmp (p ++ r) k)) ≡ is_lt (slice_cmp nat_cmp p k)
  up_to_apart = ap (λ o. not (is_gt o)) (cmp_apart p r k n) ∙ by_lower (slice_cmp nat_cmp p k) (not_equal p k n)

  pub below_apart : is_lt (key_cmp (p ++ r) k) ≡ is_lt (slice_cmp nat_cmp p k)
  below_apart = ap is_lt (cmp_apart p r k n)

  pub from_apart : not (is_lt (key_cmp (p ++ r) k)) ≡ is_gt (slice_cmp nat_cmp p k)
  from_apart = ap (λ o. not (is_lt o)) (cmp_apart p r k n) ∙ by_greater (slice_cmp nat_cmp p k) (not_equal p k n)

  pub above_apart : is_gt (key_cmp (p ++ r) k) ≡ is_gt (slice_cmp nat_cmp p k)
  above_apart = ap is_gt (cmp_apart p r k n)

-- a bound of rests that is none or no bound
pub told_up_to : (all : Bool) (r : Option (Bound (Bor Key))) (k : Key) → MatchBool all (r ≡ Some Unbounded) (r ≡ None) → is_up_to_in r k ≡ all
told_up_to true r k h = ap (λ b. is_up_to_in b k) h
told_up_to false r k h = ap (λ b. is_up_to_in b k) h

pub told_from : (all : Bool) (r : Option (Bound (Bor Key))) (k : Key) → MatchBool all (r ≡ Some Unbounded) (r ≡ None) → is_from_in r k ≡ all
told_from true r k h = ap (λ b. is_from_in b k) h
told_from false r k h = ap (λ b. is_from_in b k) h

-- the first key begins with the prefix
pub prefix_first : {X : Type 0} (es : List (Key × X)) (d : Key × X) → (es ≡ [] → ⊥) → take (length (prefix_of es)) (get_or es 0 d).0 ≡ prefix_of es
prefix_first [] d n = absurd (n refl)
prefix_first (e ∷ es) d n =
    let b = shared_with_begins e.0 es in
    ap (take (length (shared_with e.0 es))) b.1 ∙ take-append_seam (shared_with e.0 es) b.0

pub empty_stripped : {X : Type 0} (p : Key) (es : List (Key × X)) → p ≡ [] → es ≡ [] → IsStripped p es
empty_stripped p es e f = record { none = λ _. e; apart = ap prefix_of f }

pub none_shared : {X : Type 0} (p : Key) (es : List (Key × X)) (n : ℕ) → (es ≡ [] → ⊥) → n ≡ length (prefix_of es) → n ≡ 0 → IsStripped p es
none_shared p es n k e z = record { none = λ f. absurd (k f); apart = empty (prefix_of es) (sym e ∙ z) }
  where
    empty : (x : Key) → length x ≡ 0 → x ≡ []
    empty [] h = refl
    empty (y ∷ ys) h = absurd (omega (arith, h))

-- rests with their prefix taken off too
pub stripped_by : {X : Type 0} (front p : Key) (es rests : List (Key × X)) (n : ℕ) (d : Key × X) → (es ≡ [] → ⊥) → n ≡ length (prefix_of es) → p ≡ front ++ take n (get_or es 0 d).0 → rests ≡ cut n es → IsStripped p rests × (behind p rests ≡ behind front es)
stripped_by front p es rests n d k l e c =
    let first : take n (get_or es 0 d).0 ≡ prefix_of es = ap (λ m. take m (get_or es 0 d).0) l ∙ prefix_first es d k in
    let whole_p : p ≡ front ++ prefix_of es = e ∙ ap (λ x. front ++ x) first in
    rw (c, whole_p) (cut_stripped front (prefix_of es) n es k refl l, cut_more front (prefix_of es) n es refl l)

pub prefix_fits : {X : Type 0} (es : List (Key × X)) (n : ℕ) (d : Key × X) → (es ≡ [] → ⊥) → n ≡ length (prefix_of es) → n ≡ length (take n (get_or es 0 d).0)
prefix_fits es n d k l = l ∙ (ap length (sym (prefix_first es d k)) ∙ ap (λ m. length (take m (get_or es 0 d).0)) (sym l))

-- keys that begin with something are some
pub some_begin : {X : Type 0} (es : List (Key × X)) (n : ℕ) → n ≡ length (prefix_of es) → 0 < n → 0 < length es
some_begin [] n l some = subst (λ m. 0 < m) l some
some_begin (e ∷ es) n l some = omega arith

-- entries that come and go while the prefix stays
module _ {X : Type 0} where
  put_begin : (q k : Key) (v : X) (es : List (Key × X)) → AllBegin q (put (slice_cmp nat_cmp) k v es) → AllBegin q es
  put_begin q k v [] a = tt
  put_begin q k v (e ∷ es) a = by (put_begin q k v es) (slice_cmp nat_cmp k e.0) a
    where
      by : (AllBegin q (put (slice_cmp nat_cmp) k v es) → AllBegin q es) → (o : Ordering) → AllBegin q (by_order o ((k, v) ∷ e ∷ es) ((e.0, v) ∷ es) (e ∷ put (slice_cmp nat_cmp) k v es)) → AllBegin q (e ∷ es)
      by more Less a = a.1
      by more Equal a = a
      by more Greater a = (a.0, more a.1)

  -- entries that are more, with the same keys before
  more_stripped : (p : Key) (es more : List (Key × X)) → (es ≡ [] → ⊥) → ((q : Key) → AllBegin q more → AllBegin q es) → IsStripped p es → IsStripped p more
  more_stripped p es more n has h = record { none = λ e. absurd (n (nothing es (has (0 ∷ []) (subst (λ (l : List (Key × X)). AllBegin (0 ∷ []) l) (sym e) tt)) (has (1 ∷ []) (subst (λ (l : List (Key × X)). AllBegin (1 ∷ []) l) (sym e) tt)))); apart = apart_more es more n has h.apart }
    where
      nothing : (es : List (Key × X)) → AllBegin (0 ∷ []) es → AllBegin (1 ∷ []) es → es ≡ []
      nothing [] a b = refl
      nothing (x ∷ xs) a b = absurd (apart (sym a.0.1 ∙ b.0.1))
        where
          apart : 0 ∷ a.0.0 ≡ 1 ∷ b.0.0 → ⊥
          apart e = cc

  pub put_stripped : (p k : Key) (v : X) (es new : List (Key × X)) → (es ≡ [] → ⊥) → new ≡ put (slice_cmp nat_cmp) k v es → IsStripped p es → IsStripped p new
  put_stripped p k v es new n e h = rw e (more_stripped p es (put (slice_cmp nat_cmp) k v es) n (λ q a. put_begin q k v es a) h)

  -- what begins all others but one
  begun_without : (q : Key) (es : List (Key × X)) (i j : ℕ) (d : Key × X) → j < length es → (j ≡ i → ⊥) → AllBegin q (remove es i) → Begins q (get_or es j d).0
  begun_without q [] i j d h n a = absurd (omega (arith, h))
  begun_without q (e ∷ es) zero zero d h n a = absurd (n refl)
  begun_without q (e ∷ es) zero (suc j) d h n a = begun_at q es j d (omega (arith, h)) a
  begun_without q (e ∷ es) (suc i) zero d h n a = a.0
  begun_without q (e ∷ es) (suc i) (suc j) d h n a = begun_without q es i j d (omega (arith, h)) (λ k. n (ap suc k)) a.1

  one_left : (es : List (Key × X)) (i : ℕ) → 2 ≤ length es → remove es i ≡ [] → ⊥
  one_left [] i h e = omega (arith, h)
  one_left (x ∷ []) i h e = omega (arith, h)
  one_left (x ∷ y ∷ es) zero h e = cc
  one_left (x ∷ y ∷ es) (suc i) h e = cc

  pub stripped_without : (p : Key) (es : List (Key × X)) (i a b : ℕ) (c d : Key × X) → 2 ≤ length es → a < length es → b < length es → (a ≡ i → ⊥) → (b ≡ i → ⊥) → shared (get_or es a c).0 (get_or es b d).0 ≡ [] → IsStripped p (remove es i)
  stripped_without p es i a b c d l h k n m e = record {
    none = λ f. absurd (one_left es i l f);
    apart = (
        let q : Key = prefix_of (remove es i) in
        let all : AllBegin q (remove es i) = prefix_all (remove es i) in
        begins_none q (subst (λ (x : Key). Begins q x) e (shared_longest q (get_or es a c).0 (get_or es b d).0 (begun_without q es i a c h n all) (begun_without q es i b d k m all)))
        );
  }

pub no_bytes : (k : Key) (n : ℕ) → n ≡ length k → n ≡ 0 → k ≡ []
no_bytes [] n e z = refl
no_bytes (x ∷ xs) n e z = absurd (omega (arith, e, z))
