-- The lists at the beginnings of a key.
use Rattle.std.proofs.Common.{◌≡◌, ◌≢◌, ℕ, zero, suc, ◌+◌, ◌-◌, ◌<◌, ◌≤◌, ◌⊎◌, inl, inr, Bool, true, false, cond, nat_eq, ◌||◌, ◌&&◌, List, [], ◌∷◌, ◌++◌, append_assoc, take, length, Option, Some, None, IsSome, Less, Equal, Greater, sym, refl, ap, ◌∙◌, subst, add-one, rules, arith}
use mathlib.Core.Bool.{true≢false}
use Rattle.std.specs.List.{starts_with}
use Rattle.std.specs.Str.{bytes_eq}
use Rattle.std.specs.Ordering.{nat_cmp, is_lt}
use Rattle.std.specs.Map.{lookup}
use Rattle.std.specs.BTreeMap.{BTreeMap, get, is_at, IsUpperBound}
use Rattle.std.proofs.lemmas.Bool.{eqb-true, lt-ltb}
use Rattle.std.proofs.lemmas.Slice.Eq.{bytes_eq-Decides}
use Rattle.std.proofs.lemmas.List.Folds.{list_any-append}
use Rattle.sled_nodes.specs.Order.{Key}
use Rattle.sled_queues.specs.Values.{WaitingValue, Waitings}
use Rattle.sled_queues.specs.Lists.{Prefixes, Lengths, in_prefixes, at_length, in_lengths, lists_of, is_in, Once, watches, AreListed}
use Rattle.sled_queues.specs.theory.Lists.{at_beginnings, waits_in, has_some}
use Rattle.sled_queues.proofs.Single.{both_once}

-- whether the prefix is one of so many beginnings of the key
abbrev is_begun : Key → Key → ℕ → Bool
is_begun prefix key zero = false
is_begun prefix key (suc m) = is_begun prefix key m || bytes_eq prefix (take m key)

in_begun : (f : Key → List ℕ) (n : ℕ) (key prefix : Key) (b : Bool) → ((p : Key) → is_in n (f p) ≡ (b && bytes_eq prefix p)) → (m : ℕ) → is_in n (at_beginnings f key m) ≡ (b && is_begun prefix key m)
in_begun f n key prefix b h zero = sym (none b)
  where
    none : (b : Bool) → (b && false) ≡ false
    none true = refl
    none false = refl
in_begun f n key prefix b h (suc m) =
    list_any-append (nat_eq n) (at_beginnings f key m) (f (take m key))
    ∙ ap (λ z. z || is_in n (f (take m key))) (in_begun f n key prefix b h m)
    ∙ ap (λ z. (b && is_begun prefix key m) || z) (h (take m key))
    ∙ both b (is_begun prefix key m) (bytes_eq prefix (take m key))
  where
    both : (a b c : Bool) → ((a && b) || (a && c)) ≡ (a && (b || c))
    both true b c = refl
    both false b c = refl

length_take : (key : Key) (m : ℕ) → m ≤ length key → length (take m key) ≡ m
length_take key zero l = refl
length_take [] (suc m) l = absurd (omega (arith, l))
length_take (x ∷ key) (suc m) l = let r = length_take key m (omega (arith, l)) in omega (arith, r)

take_all : (key : Key) (m : ℕ) → length key ≤ m → take m key ≡ key
take_all [] zero l = refl
take_all [] (suc m) l = refl
take_all (x ∷ key) zero l = absurd (omega (arith, l))
take_all (x ∷ key) (suc m) l = ap (λ z. x ∷ z) (take_all key m (omega (arith, l)))

-- two of unequal lengths are not equal
pub unequal : (a b : Key) → length a ≢ length b → bytes_eq a b ≡ false
unequal a b h = go (bytes_eq a b) refl
  where
    go : (c : Bool) → bytes_eq a b ≡ c → c ≡ false
    go true e = absurd (h (ap length ((bytes_eq-Decides a b).0 e)))
    go false e = refl

other : (prefix key : Key) (m : ℕ) → m ≤ length key → length prefix ≢ m → bytes_eq prefix (take m key) ≡ false
other prefix key m l h = unequal prefix (take m key) (λ e. h (e ∙ length_take key m l))

or_none : (a b : Bool) → a ≡ false → (a || b) ≡ b
or_none true b e = absurd (true≢false e)
or_none false b e = refl

or_rest : (a b : Bool) → b ≡ false → (a || b) ≡ a
or_rest true b e = refl
or_rest false b e = e

begun_none : (prefix key : Key) (m : ℕ) → m ≤ length key + 1 → m ≤ length prefix → is_begun prefix key m ≡ false
begun_none prefix key zero l h = refl
begun_none prefix key (suc m) l h = or_none (is_begun prefix key m) (bytes_eq prefix (take m key)) (begun_none prefix key m (omega (arith, l)) (omega (arith, h))) ∙ other prefix key m (omega (arith, l)) (λ e. absurd (omega (arith, e, h)))

less_or_equal : (a b : ℕ) → a < suc b → (a ≡ b) ⊎ (a < b)
less_or_equal zero zero h = inl refl
less_or_equal zero (suc b) h = inr (omega arith)
less_or_equal (suc a) zero h = absurd (omega (arith, h))
less_or_equal (suc a) (suc b) h = go (less_or_equal a b (omega (arith, h)))
  where
    go : (a ≡ b) ⊎ (a < b) → (suc a ≡ suc b) ⊎ (suc a < suc b)
    go (inl e) = inl (ap suc e)
    go (inr l) = inr (omega (arith, l))

begun_some : (prefix key : Key) (m : ℕ) → m ≤ length key + 1 → length prefix < m → is_begun prefix key m ≡ starts_with nat_eq key prefix
begun_some prefix key zero l h = absurd (omega (arith, h))
begun_some prefix key (suc m) l h = go (less_or_equal (length prefix) m h) (begun_some prefix key m (omega (arith, l)))
  where
    go : (length prefix ≡ m) ⊎ (length prefix < m) → (length prefix < m → is_begun prefix key m ≡ starts_with nat_eq key prefix) → (is_begun prefix key m || bytes_eq prefix (take m key)) ≡ starts_with nat_eq key prefix
    go (inl e) more = or_none (is_begun prefix key m) (bytes_eq prefix (take m key)) (begun_none prefix key m (omega (arith, l)) (omega (arith, e))) ∙ ap (λ k. bytes_eq prefix (take k key)) (sym e)
    go (inr s) more = or_rest (is_begun prefix key m) (bytes_eq prefix (take m key)) (other prefix key m (omega (arith, l)) (λ e. absurd (omega (arith, e, s)))) ∙ more s

begun_is : (prefix key : Key) → is_begun prefix key (length key + 1) ≡ starts_with nat_eq key prefix
begun_is prefix key = go (less_or_equal_any (length prefix) (length key))
  where
    less_or_equal_any : (a b : ℕ) → (b < a) ⊎ (a ≤ b)
    less_or_equal_any zero b = inr (omega arith)
    less_or_equal_any (suc a) zero = inl (omega arith)
    less_or_equal_any (suc a) (suc b) = more (less_or_equal_any a b)
      where
        more : (b < a) ⊎ (a ≤ b) → (suc b < suc a) ⊎ (suc a ≤ suc b)
        more (inl h) = inl (omega (arith, h))
        more (inr h) = inr (omega (arith, h))

    go : (length key < length prefix) ⊎ (length prefix ≤ length key) → is_begun prefix key (length key + 1) ≡ starts_with nat_eq key prefix
    go (inl h) = begun_none prefix key (length key + 1) (omega arith) (omega (arith, h)) ∙ sym (ap (bytes_eq prefix) (take_all key (length prefix) (omega (arith, h))) ∙ unequal prefix key (λ e. absurd (omega (arith, e, h))))
    go (inr h) = begun_some prefix key (length key + 1) (omega arith) (omega (arith, h))

-- the lists at the beginnings of a key have the subscribers that wait for it
pub found_is : (a : Waitings) (lists : ℕ → Key → List ℕ) → AreListed a lists → (tree : ℕ) (key : Key) (n : ℕ) → is_in n (at_beginnings (lists tree) key (length key + 1)) ≡ waits_in tree key (a n)
found_is a lists l tree key n = go (a n) (λ p. l.listed n tree p)
  where
    go : (o : Option WaitingValue) → ((p : Key) → is_in n (lists tree p) ≡ watches tree p o) → is_in n (at_beginnings (lists tree) key (length key + 1)) ≡ waits_in tree key o
    go None h = in_begun (lists tree) n key [] false h (length key + 1)
    go (Some w) h = in_begun (lists tree) n key w.prefix (nat_eq w.tree tree) h (length key + 1) ∙ ap (λ b. nat_eq w.tree tree && b) (begun_is w.prefix key)

begun_before : (prefix key : Key) (m : ℕ) → m ≤ length key + 1 → is_begun prefix key m ≡ true → length prefix < m
begun_before prefix key zero u e = absurd (true≢false (sym e))
begun_before prefix key (suc m) u e = split (is_begun prefix key m) refl e (begun_before prefix key m (omega (arith, u)))
  where
    split : (b : Bool) → is_begun prefix key m ≡ b → (b || bytes_eq prefix (take m key)) ≡ true → (is_begun prefix key m ≡ true → length prefix < m) → length prefix < suc m
    split true s f more = let r = more s in omega (arith, r)
    split false s f more = let e : length prefix ≡ m = ap length ((bytes_eq-Decides prefix (take m key)).0 f) ∙ length_take key m (omega (arith, u)) in omega (arith, e)

-- .. each once
pub found_once : (a : Waitings) (lists : ℕ → Key → List ℕ) → AreListed a lists → (tree : ℕ) (key : Key) (m : ℕ) → m ≤ length key + 1 → Once (at_beginnings (lists tree) key m)
found_once a lists l tree key zero h = tt
found_once a lists l tree key (suc m) h = both_once (at_beginnings (lists tree) key m) (lists tree (take m key)) (found_once a lists l tree key m (omega (arith, h))) (l.once tree (take m key)) (λ n i. go n (a n) (λ p. l.listed n tree p) i)
  where
    right : (a b : Bool) → (a && b) ≡ true → b ≡ true
    right true b e = e
    right false b e = absurd (true≢false (sym e))

    none : (b c : Bool) → c ≡ false → (b && c) ≡ false
    none true c e = e
    none false c e = refl

    go : (n : ℕ) (o : Option WaitingValue) → ((p : Key) → is_in n (lists tree p) ≡ watches tree p o) → is_in n (at_beginnings (lists tree) key m) ≡ true → is_in n (lists tree (take m key)) ≡ false
    go n None s i = s (take m key)
    go n (Some w) s i =
        let begun : is_begun w.prefix key m ≡ true = right (nat_eq w.tree tree) (is_begun w.prefix key m) (sym (in_begun (lists tree) n key w.prefix (nat_eq w.tree tree) s m) ∙ i) in
        let short : length w.prefix < m = begun_before w.prefix key m (omega (arith, h)) begun in
        s (take m key) ∙ none (nat_eq w.tree tree) (bytes_eq w.prefix (take m key)) (other w.prefix key m (omega (arith, h)) (λ e. absurd (omega (arith, e, short))))

append_nil : (xs ys : List ℕ) → ys ≡ [] → xs ++ ys ≡ xs
append_nil [] ys e = e
append_nil (x ∷ xs) ys e = ap (λ z. x ∷ z) (append_nil xs ys e)

-- where no list stands after some of the beginnings
beginnings_end : (f : Key → List ℕ) (key : Key) (m d : ℕ) → ((i : ℕ) → m ≤ i → i < m + d → f (take i key) ≡ []) → at_beginnings f key (m + d) ≡ at_beginnings f key m
beginnings_end f key m zero h = ap (at_beginnings f key) (no_more m)
  where
    no_more : (m : ℕ) → m + zero ≡ m
    no_more m = omega arith
beginnings_end f key m (suc d) h =
    ap (at_beginnings f key) (one_more m d)
    ∙ append_nil (at_beginnings f key (m + d)) (f (take (m + d) key)) (h (m + d) (omega arith) (omega arith))
    ∙ beginnings_end f key m d (λ i low high. h i low (omega (arith, high)))
  where
    one_more : (m d : ℕ) → m + suc d ≡ suc (m + d)
    one_more m d = omega arith

pub beginnings_all : (lengths : Lengths) (key : Key) (longest : ℕ) → IsUpperBound nat_cmp lengths longest → longest < length key → at_beginnings (at_length lengths) key (longest + 1) ≡ at_beginnings (at_length lengths) key (length key + 1)
beginnings_all lengths key longest bound less =
    sym (ap (at_beginnings (at_length lengths) key) (rest longest (length key) less) ∙ beginnings_end (at_length lengths) key (longest + 1) (length key - longest) none)
  where
    rest : (a b : ℕ) → a < b → b + 1 ≡ (a + 1) + (b - a)
    rest a b h = omega (arith, h)

    none : (i : ℕ) → longest + 1 ≤ i → i < (longest + 1) + (length key - longest) → at_length lengths (take i key) ≡ []
    none i low high = go (get nat_cmp lengths (length (take i key))) refl
      where
        within : i ≤ length key
        within = omega (arith, high, less)

        above : longest < i
        above = omega (arith, low)

        go : (o : Option Prefixes) → get nat_cmp lengths (length (take i key)) ≡ o → in_prefixes o (take i key) ≡ []
        go None e = refl
        go (Some prefixes) e =
            let at : get nat_cmp lengths i ≡ Some prefixes = ap (get nat_cmp lengths) (sym (length_take key i within)) ∙ e in
            absurd (true≢false (sym (ap (λ b. is_lt (cond b Less (cond (nat_eq longest i) Equal Greater))) (lt-ltb longest i above)) ∙ bound i (subst IsSome (sym at) (search rules))))

pub nothing_listed : (lengths : Lengths) (key : Key) (m : ℕ) → lengths.entries ≡ [] → at_beginnings (at_length lengths) key m ≡ []
nothing_listed lengths key zero e = refl
nothing_listed lengths key (suc m) e = append_nil (at_beginnings (at_length lengths) key m) (at_length lengths (take m key)) (ap (λ (es : List (ℕ × Prefixes)). in_prefixes (lookup (is_at (nat_cmp (length (take m key)))) es) (take m key)) e) ∙ nothing_listed lengths key m e

pub nothing_watched : (trees : BTreeMap ℕ Lengths) (tree : ℕ) (key : Key) (m : ℕ) → None ≡ get nat_cmp trees tree → at_beginnings (lists_of trees tree) key m ≡ []
nothing_watched trees tree key zero e = refl
nothing_watched trees tree key (suc m) e = append_nil (at_beginnings (lists_of trees tree) key m) (lists_of trees tree (take m key)) (ap (λ o. in_lengths o (take m key)) (sym e)) ∙ nothing_watched trees tree key m e

-- what a loop over the beginnings knows
is_none : (ns : List ℕ) → nat_eq (length ns) 0 ≡ true → ns ≡ []
is_none [] e = refl
is_none (n ∷ ns) e = let none : length (n ∷ ns) ≡ 0 = eqb-true (length (n ∷ ns)) 0 e in absurd (omega (arith, none))

pub none_more : (f : Key → List ℕ) (key p : Key) (len : ℕ) (ns : List ℕ) → at_beginnings f key len ≡ [] → p ≡ take len key → ns ≡ f p → nat_eq (length ns) 0 ≡ true → at_beginnings f key (len + 1) ≡ []
none_more f key p len ns before is there none = ap (at_beginnings f key) (add-one len) ∙ append_nil (at_beginnings f key len) (f (take len key)) (ap f (sym is) ∙ sym there ∙ is_none ns none) ∙ before

pub found_more : (f : Key → List ℕ) (key : Key) (len : ℕ) (first ns was now : List ℕ) (added : Bool) → was ≡ first ++ at_beginnings f key len → ns ≡ f (take len key) → added ≡ true → now ≡ cond added (was ++ ns) was → now ≡ first ++ at_beginnings f key (len + 1)
found_more f key len first ns was now added before there done more =
    more ∙ ap (λ b. cond b (was ++ ns) was) done ∙ ap (λ z. z ++ ns) before ∙ append_assoc first (at_beginnings f key len) ns
    ∙ ap (λ z. first ++ z) (ap (λ z. at_beginnings f key len ++ z) there ∙ sym (ap (at_beginnings f key) (add-one len)))

has_more : (xs ys : List ℕ) → has_some xs ≡ true → has_some (xs ++ ys) ≡ true
has_more [] ys e = absurd (true≢false (sym e))
has_more (x ∷ xs) ys e = refl

some_after : (f : Key → List ℕ) (key : Key) (m d : ℕ) → has_some (at_beginnings f key m) ≡ true → has_some (at_beginnings f key (m + d)) ≡ true
some_after f key m zero h = ap (λ k. has_some (at_beginnings f key k)) (no_more m) ∙ h
  where
    no_more : (m : ℕ) → m + zero ≡ m
    no_more m = omega arith
some_after f key m (suc d) h = ap (λ k. has_some (at_beginnings f key k)) (one_more m d) ∙ has_more (at_beginnings f key (m + d)) (f (take (m + d) key)) (some_after f key m d h)
  where
    one_more : (m d : ℕ) → m + suc d ≡ suc (m + d)
    one_more m d = omega arith

pub some_found : (f : Key → List ℕ) (key p : Key) (len m : ℕ) (ns : List ℕ) → at_beginnings f key len ≡ [] → p ≡ take len key → ns ≡ f p → nat_eq (length ns) 0 ≡ false → len < m → has_some (at_beginnings f key m) ≡ true
some_found f key p len m ns before is there some low =
    ap (λ k. has_some (at_beginnings f key k)) (after len m low)
    ∙ some_after f key (suc len) (m - suc len) (ap (λ z. has_some (z ++ f (take len key))) before ∙ ap has_some (ap f (sym is) ∙ sym there) ∙ is_some ns some)
  where
    after : (a b : ℕ) → a < b → b ≡ suc a + (b - suc a)
    after a b h = omega (arith, h)

    is_some : (ns : List ℕ) → nat_eq (length ns) 0 ≡ false → has_some ns ≡ true
    is_some [] e = absurd (true≢false e)
    is_some (n ∷ ns) e = refl
