-- The keys of a map, read from their end.
use Rattle.std.proofs.Common.{◌≡◌, ◌-◌, nat_eq, ◌&&◌, Bool, true, false, cond, not, reverse, filter, take, drop, length, [], ◌∷◌, ◌++◌, Option, Some, None, is_eq, Less, Equal, Greater, T, sym, refl, ap, ◌∙◌, subst, append_assoc, append-nil}
use Rattle.std.proofs.lemmas.Bool.Decides.{Decides-eqb}
use Rattle.std.proofs.lemmas.Cmp.{tied_itself}
use Rattle.std.proofs.lemmas.List.{reverse-reverse, reverse-append}
use Rattle.std.proofs.lemmas.Slice.Eq.{starts_is, ends_is}
use Rattle.std.specs.BTreeMap.{is_at}
use Rattle.std.specs.BTreeMap.Range.{entries_between}
use Rattle.std.specs.Cmp.{nat_cmp_total}
use Rattle.std.specs.Cmp.Lexicographic.{slice_cmp}
use Rattle.std.specs.FinMap.{nat_cmp-IsAntisymmetric}
use Rattle.std.specs.FinMap.Entries.{find, find-put, find-where_key, below_all, is_sorted, is_sorted-where_key}
use Rattle.std.specs.List.{starts_with, ends_with, AllByRecursion}
use Rattle.std.specs.List.Sorted.{IsStrictlySortedBy}
use Rattle.std.specs.Map.{lookup, keys_of}
use Rattle.std.specs.Ordering.{eq_by_cmp, nat_cmp, is_le, is_lt, ordering_then, ordering_reverse}
use Rattle.std.specs.declared.cmp.Ordering.{Ordering}
use Rattle.std.specs.declared.ops.Bound.TheVariants.{Included, Unbounded}
use Rattle.sled_nodes.proofs.Basics.{true_false, not_cond, true_of, both_of, key_total, key_same, tied}
use Rattle.sled_nodes.specs.Order.{Key, key_cmp}
use Rattle.sled_model.specs.Maps.{Map}
use Rattle.sled_model.specs.declared.event.Event.TheVariants.{Insert, Remove}
use Rattle.sled_queues.specs.Copies.{IsCopy, after_event}
use Rattle.example_databases.specs.Endings.{turned, entries_ending, while_beginning, HasSame, FindsEnding}

-- ---- keys, and keys read from their end

itself : (a b : Key) → a ≡ b → eq_by_cmp key_cmp a b ≡ true
itself a b e = ap (eq_by_cmp key_cmp a) (sym e) ∙ ap is_eq (tied_itself key_total a)

both_ways : (a b : Bool) → (a ≡ true → b ≡ true) → (b ≡ true → a ≡ true) → a ≡ b
both_ways true b f g = sym (f refl)
both_ways false true f g = true_false (sym (g refl))
both_ways false false f g = refl

turn_back : (a b : Key) → reverse a ≡ b → a ≡ reverse b
turn_back a b e = sym (reverse-reverse a) ∙ ap reverse e

shut : (a b : Key) → is_eq (slice_cmp nat_cmp a b) ≡ eq_by_cmp key_cmp a b
unfolding key_cmp
shut a b = refl

-- a key is the turned one of another where this is the turned one of it
same_turned : (q k : Key) → eq_by_cmp key_cmp q (reverse k) ≡ is_eq (slice_cmp nat_cmp (reverse q) k)
same_turned q k = both_ways (eq_by_cmp key_cmp q (reverse k)) (eq_by_cmp key_cmp (reverse q) k)
    (λ e. itself (reverse q) k (ap reverse (tied q (reverse k) e) ∙ reverse-reverse k))
    (λ e. itself q (reverse k) (turn_back q k (tied (reverse q) k e)))
    ∙ sym (shut (reverse q) k)

same_flipped : (q k : Key) → is_eq (slice_cmp nat_cmp (reverse k) (reverse q)) ≡ eq_by_cmp key_cmp q k
same_flipped q k = shut (reverse k) (reverse q) ∙ both_ways (eq_by_cmp key_cmp (reverse k) (reverse q)) (eq_by_cmp key_cmp q k)
    (λ e. itself q k (turn_back q (reverse k) (sym (tied (reverse k) (reverse q) e)) ∙ reverse-reverse k))
    (λ e. itself (reverse k) (reverse q) (ap reverse (sym (tied q k e))))

abbrev at : Key → Map → Option Key
at q es = lookup (is_at (slice_cmp nat_cmp q)) es

-- what the turned entries have at a key is what the entries have at the turned key
found_turned : (q : Key) (es : Map) → find key_cmp q (turned es) ≡ at (reverse q) es
found_turned q [] = refl
found_turned q (e ∷ es) = ap (λ b. cond b (Some e.1) (find key_cmp q (turned es))) (same_turned q e.0) ∙ ap (cond (is_eq (slice_cmp nat_cmp (reverse q) e.0)) (Some e.1)) (found_turned q es)

-- a value was put at a turned key, or taken out there
abbrev pub Puts : Map → Key → Option Key → Map → Type 0
Puts es k v fs = (q : Key) → at q fs ≡ cond (is_eq (slice_cmp nat_cmp k q)) v (at q es)

puts_turned : (es fs : Map) (k : Key) (v : Option Key) → Puts es (reverse k) v fs → (q : Key) → find key_cmp q (turned fs) ≡ cond (eq_by_cmp key_cmp q k) v (find key_cmp q (turned es))
puts_turned es fs k v p q =
    found_turned q fs
    ∙ p (reverse q)
    ∙ ap (λ b. cond b v (at (reverse q) es)) (same_flipped q k)
    ∙ ap (cond (eq_by_cmp key_cmp q k) v) (sym (found_turned q es))

pub put_turned : (es fs : Map) (k v key : Key) → key ≡ reverse k → Puts es key (Some v) fs → HasSame (turned fs) (after_event (Insert k v) (turned es))
put_turned es fs k v key e p = record { has = λ q. puts_turned es fs k (Some v) (subst (λ key. Puts es key (Some v) fs) e p) q ∙ sym (find-put key_cmp key_total q k v (turned es)) }

pub taken_turned : (es fs : Map) (k key : Key) → key ≡ reverse k → Puts es key None fs → HasSame (turned fs) (after_event (Remove k) (turned es))
taken_turned es fs k key e p = record {
  has = λ q.
      puts_turned es fs k None (subst (λ key. Puts es key None fs) e p) q
      ∙ ap (λ b. cond b None (find key_cmp q (turned es))) (both_ways (eq_by_cmp key_cmp q k) (eq_by_cmp key_cmp k q) (λ e. itself k q (sym (tied q k e))) (λ e. itself q k (sym (tied k q e))))
      ∙ sym (find-where_key key_cmp (λ x. not (eq_by_cmp key_cmp k x)) q (λ x e. ap (λ y. not (eq_by_cmp key_cmp k y)) (sym (key_same q x e))) (turned es)
      ∙ not_cond (eq_by_cmp key_cmp k q) (find key_cmp q (turned es)) None);
}

-- ---- what is found

-- a key begins so where it goes on from there
begins_is : (key p rest : Key) → key ≡ p ++ rest → starts_with nat_eq key p ≡ true
begins_is key p rest e = (starts_is Decides-eqb key p (starts_with nat_eq key p) refl).1 rest e

goes_on : (key p : Key) → starts_with nat_eq key p ≡ true → key ≡ p ++ drop (length p) key
goes_on key p e = (starts_is Decides-eqb key p (starts_with nat_eq key p) refl).0 e

-- it ends so where, read from its end, it begins so
pub ends_turned : (key ending : Key) → starts_with nat_eq key (reverse ending) ≡ ends_with nat_eq (reverse key) ending
ends_turned key ending = both_ways (starts_with nat_eq key (reverse ending)) (ends_with nat_eq (reverse key) ending)
    (λ e. (ends_is Decides-eqb (reverse key) ending (ends_with nat_eq (reverse key) ending) refl).1 (reverse (drop (length (reverse ending)) key))
    (ap reverse (goes_on key (reverse ending) e) ∙ reverse-append (reverse ending) (drop (length (reverse ending)) key) ∙ ap (λ l. reverse (drop (length (reverse ending)) key) ++ l) (reverse-reverse ending)))
    (λ e. begins_is key (reverse ending) (reverse (take (length (reverse key) - length ending) (reverse key)))
    (turn_back key _ ((ends_is Decides-eqb (reverse key) ending (ends_with nat_eq (reverse key) ending) refl).0 e) ∙ reverse-append (take (length (reverse key) - length ending) (reverse key)) ending))

pub turned_where : (ending : Key) (es : Map) → turned (filter (λ e. starts_with nat_eq e.0 (reverse ending)) es) ≡ entries_ending ending (turned es)
turned_where ending [] = refl
turned_where ending (e ∷ es) = pushed (turned_where ending es) (starts_with nat_eq e.0 (reverse ending)) ∙ ap (λ b. cond b ((reverse e.0, e.1) ∷ entries_ending ending (turned es)) (entries_ending ending (turned es))) (ends_turned e.0 ending)
  where
    rest : Map
    rest = filter (λ e. starts_with nat_eq e.0 (reverse ending)) es

    pushed : turned rest ≡ entries_ending ending (turned es) → (b : Bool) → turned (cond b (e ∷ rest) rest) ≡ cond b ((reverse e.0, e.1) ∷ entries_ending ending (turned es)) (entries_ending ending (turned es))
    pushed more true = ap (λ l. (reverse e.0, e.1) ∷ l) more
    pushed more false = more

-- ---- the keys that begin so stand together, from the first that is not below on

-- what begins so is not below
not_below : (p rest : Key) → is_le (slice_cmp nat_cmp p (p ++ rest)) ≡ true
not_below [] [] = refl
not_below [] (x ∷ rest) = refl
not_below (b ∷ p) rest = ap (λ o. is_le (ordering_then o (slice_cmp nat_cmp p (p ++ rest)))) (tied_itself nat_cmp_total b) ∙ not_below p rest

-- what stands between, begins so too
between : (p x y rest : Key) → is_le (slice_cmp nat_cmp p x) ≡ true → slice_cmp nat_cmp x y ≡ Less → y ≡ p ++ rest → starts_with nat_eq x p ≡ true
between [] x y rest le lt e = begins_is x [] x refl
between (b ∷ p) [] y rest le lt e = true_false (sym le)
between (b ∷ p) (a ∷ x) y rest le lt e = go (λ l m. between p x (p ++ rest) rest l m refl) (nat_cmp b a) refl le (subst (λ z. slice_cmp nat_cmp (a ∷ x) z ≡ Less) e lt)
  where
    go : (is_le (slice_cmp nat_cmp p x) ≡ true → slice_cmp nat_cmp x (p ++ rest) ≡ Less → starts_with nat_eq x p ≡ true) → (o : Ordering) → nat_cmp b a ≡ o → is_le (ordering_then o (slice_cmp nat_cmp p x)) ≡ true → ordering_then (nat_cmp a b) (slice_cmp nat_cmp x (p ++ rest)) ≡ Less → starts_with nat_eq (a ∷ x) (b ∷ p) ≡ true
    go more Less c l m = absurd (greater (subst (λ o. ordering_then o (slice_cmp nat_cmp x (p ++ rest)) ≡ Less) (nat_cmp_total.antisymm a b ∙ ap ordering_reverse c) m))
      where
        greater : Greater ≡ Less → ⊥
        greater e = cc
    go more Equal c l m =
        let same : b ≡ a = nat_cmp-IsAntisymmetric b a c in
        let lt : slice_cmp nat_cmp x (p ++ rest) ≡ Less = subst (λ o. ordering_then o (slice_cmp nat_cmp x (p ++ rest)) ≡ Less) (nat_cmp_total.antisymm a b ∙ ap ordering_reverse c) m in
        begins_is (a ∷ x) (b ∷ p) (drop (length p) x) (ap (λ z. z ∷ x) (sym same) ∙ ap (λ l. b ∷ l) (goes_on x p (more l lt)))
    go more Greater c l m = true_false (sym l)

-- the entries that begin so, of entries that rise
abbrev pub rises : Map → Type 0
rises es = IsStrictlySortedBy (slice_cmp nat_cmp) (keys_of es)

none_after : (p : Key) (x : Key × Key) (es : Map) → is_le (slice_cmp nat_cmp p x.0) ≡ true → starts_with nat_eq x.0 p ≡ false → AllByRecursion (λ y. slice_cmp nat_cmp x.0 y ≡ Less) (keys_of es) → filter (λ e. starts_with nat_eq e.0 p) es ≡ []
none_after p x [] le off all = refl
none_after p x (e ∷ es) le off all = ap (λ b. cond b (e ∷ filter (λ e. starts_with nat_eq e.0 p) es) (filter (λ e. starts_with nat_eq e.0 p) es)) (no (starts_with nat_eq e.0 p) refl) ∙ none_after p x es le off all.1
  where
    no : (b : Bool) → starts_with nat_eq e.0 p ≡ b → b ≡ false
    no true e1 = true_false (sym (between p x.0 e.0 (drop (length p) e.0) le all.0 (goes_on e.0 p e1)) ∙ off)
    no false e1 = refl

abbrev pub from : Key → Map → Map
from p es = entries_between (slice_cmp nat_cmp) (Included p) Unbounded es

all_beginning : (p : Key) (es : Map) → rises es → while_beginning p (from p es) ≡ filter (λ e. starts_with nat_eq e.0 p) es
unfolding IsStrictlySortedBy
all_beginning p [] r = refl
all_beginning p (e ∷ es) r = go (all_beginning p es r.1) (is_le (slice_cmp nat_cmp p e.0)) refl (starts_with nat_eq e.0 p) refl
  where
    kept : Map
    kept = filter (λ e. starts_with nat_eq e.0 p) es

    go : while_beginning p (from p es) ≡ kept → (b : Bool) → is_le (slice_cmp nat_cmp p e.0) ≡ b → (c : Bool) → starts_with nat_eq e.0 p ≡ c → while_beginning p (cond (b && true) (e ∷ from p es) (from p es)) ≡ cond c (e ∷ kept) kept
    go more false below true on = true_false (sym (ap (λ k. is_le (slice_cmp nat_cmp p k)) (goes_on e.0 p on) ∙ not_below p (drop (length p) e.0)) ∙ below)
    go more false below false off = more
    go more true le true on = ap (λ b. cond b (e ∷ while_beginning p (from p es)) []) on ∙ ap (λ l. e ∷ l) more
    go more true le false off = ap (λ b. cond b (e ∷ while_beginning p (from p es)) []) off ∙ sym (none_after p e es le off r.0)

pub finds : (ending : Key) (es : Map) → rises es → turned (while_beginning (reverse ending) (from (reverse ending) es)) ≡ entries_ending ending (turned es)
finds ending es r = ap turned (all_beginning (reverse ending) es r) ∙ turned_where ending es

-- what is found in the entries from the turned ending on
module _ (ending beginning start : Key) (es range all found : Map) (same : turned es ≡ all) (r : rises es) where
  pub finds_at : beginning ≡ reverse ending → start ≡ reverse ending → range ≡ from start es → found ≡ turned (while_beginning beginning range) → found ≡ entries_ending ending all
  finds_at e f is are =
      are
      ∙ ap (λ b. turned (while_beginning b range)) e
      ∙ ap (λ l. turned (while_beginning (reverse ending) l)) (is ∙ ap (λ b. from b es) f)
      ∙ finds ending es r
      ∙ ap (entries_ending ending) same

-- the loop over these entries: what was found, and what is still to be found, are all
abbrev pub SoFar : Key → Map → Map → Map → Type 0
SoFar beginning all found left = turned (while_beginning beginning all) ≡ found ++ turned (while_beginning beginning left)

module _ (beginning : Key) (all found left : Map) (s : SoFar beginning all found left) where
  pub so_on : (more now : Map) (k v : Key) → left ≡ (k, v) ∷ more → starts_with nat_eq k beginning ≡ true → now ≡ found ++ (reverse k, v) ∷ [] → SoFar beginning all now more
  so_on more now k v e on is =
      s
      ∙ ap (λ l. found ++ turned (while_beginning beginning l)) e
      ∙ ap (λ b. found ++ turned (cond b ((k, v) ∷ while_beginning beginning more) [])) on
      ∙ sym (append_assoc found ((reverse k, v) ∷ []) (turned (while_beginning beginning more)))
      ∙ ap (λ l. l ++ turned (while_beginning beginning more)) (sym is)

  pub so_ends : left ≡ [] → found ≡ turned (while_beginning beginning all)
  so_ends e = sym (s ∙ ap (λ l. found ++ turned (while_beginning beginning l)) e ∙ append-nil found)

  pub so_stops : (more : Map) (k v : Key) → left ≡ (k, v) ∷ more → starts_with nat_eq k beginning ≡ false → found ≡ turned (while_beginning beginning all)
  so_stops more k v e off = sym (s ∙ ap (λ l. found ++ turned (while_beginning beginning l)) e ∙ ap (λ b. found ++ turned (cond b ((k, v) ∷ while_beginning beginning more) [])) off ∙ append-nil found)

-- the entries that are found rise by their turned keys
turned_twice : (es : Map) → turned (turned es) ≡ es
turned_twice [] = refl
turned_twice (e ∷ es) = ap (λ k. (k, e.1) ∷ turned (turned es)) (reverse-reverse e.0) ∙ ap (λ l. (e.0, e.1) ∷ l) (turned_twice es)

below_sorted : (k : Key) (es : Map) → AllByRecursion (λ y. slice_cmp nat_cmp k y ≡ Less) (keys_of es) → T (below_all key_cmp k es)
unfolding key_cmp
below_sorted k [] all = tt
below_sorted k (e ∷ es) all = subst (λ o. T (is_lt o && below_all (slice_cmp nat_cmp) k es)) (sym all.0) (below_sorted k es all.1)

sorted_rises : (es : Map) → rises es → T (is_sorted key_cmp es)
unfolding IsStrictlySortedBy
sorted_rises [] r = tt
sorted_rises (e ∷ es) r = both_of (below_all key_cmp e.0 es) (is_sorted key_cmp es) (below_sorted e.0 es r.0) (sorted_rises es r.1)

within_both : {X : Type 0} (a b : Bool) (o : Option X) → cond b (cond a o None) None ≡ cond (a && b) o None
within_both true b o = refl
within_both false true o = refl
within_both false false o = refl

pub finds_ending : (prefix ending : Key) (es m : Map) → rises es → IsCopy prefix (turned es) m → FindsEnding prefix ending m (entries_ending ending (turned es))
finds_ending prefix ending es m r c = record {
  are = λ key.
      find-where_key key_cmp (λ k. ends_with nat_eq k ending) key (λ x e. ap (λ k. ends_with nat_eq k ending) (sym (key_same key x e))) (turned es)
      ∙ ap (λ o. cond (ends_with nat_eq key ending) o None) (c.has key)
      ∙ within_both (starts_with nat_eq key prefix) (ends_with nat_eq key ending) (find key_cmp key m);
  rise =
      ap (λ l. is_sorted key_cmp (turned l)) (sym (turned_where ending es))
      ∙ ap (is_sorted key_cmp) (turned_twice (filter (λ e. starts_with nat_eq e.0 (reverse ending)) es))
      ∙ true_of (is_sorted key_cmp (filter (λ e. starts_with nat_eq e.0 (reverse ending)) es)) (is_sorted-where_key key_cmp (λ k. starts_with nat_eq k (reverse ending)) es (sorted_rises es r));
}

pub finds_all : (ending : Key) (es all found : Map) → turned es ≡ all → rises es → found ≡ entries_ending ending all → (prefix : Key) (m : Map) → IsCopy prefix all m → FindsEnding prefix ending m found
finds_all ending es all found same r are prefix m c = subst (λ l. FindsEnding prefix ending m l) (ap (entries_ending ending) same ∙ sym are) (finds_ending prefix ending es m r (subst (λ l. IsCopy prefix l m) (sym same) c))

-- ---- entries that are put one by one

-- entries are put from the last one on: those that were put, and those that are left in front
abbrev pub Filled : Map → Map → Map → Type 0
Filled all before es = (rest : Map) × (all ≡ before ++ rest) × HasSame (turned es) rest

pub fills_first : (all es : Map) → es ≡ [] → Filled all all es
fills_first all es e = ([], sym (append-nil all), record { has = λ q. ap (λ l. find key_cmp q (turned l)) e })

pub fills_on : (all before more es fs : Map) (k v : Key) → Filled all before es → before ≡ more ++ (k, v) ∷ [] → HasSame (turned fs) (after_event (Insert k v) (turned es)) → Filled all more fs
fills_on all before more es fs k v f is h = (
  (k, v) ∷ f.0,
  f.1 ∙ ap (λ l. l ++ f.0) is ∙ append_assoc more ((k, v) ∷ []) f.0,
  record { has = λ q. h.has q ∙ find-put key_cmp key_total q k v (turned es) ∙ ap (cond (eq_by_cmp key_cmp q k) (Some v)) (f.2.has q) },
)

pub fills_all : (all before es : Map) → Filled all before es → before ≡ [] → HasSame (turned es) all
fills_all all before es f e = record { has = λ q. f.2.has q ∙ ap (find key_cmp q) (sym (f.1 ∙ ap (λ l. l ++ f.0) e)) }

-- the pairs under a prefix are a copy
pub copies_prefix : (prefix : Key) (es m : Map) → HasSame es (filter (λ e. starts_with nat_eq e.0 prefix) m) → IsCopy prefix es m
copies_prefix prefix es m h = record { has = λ q. h.has q ∙ find-where_key key_cmp (λ k. starts_with nat_eq k prefix) q (λ x e. ap (λ k. starts_with nat_eq k prefix) (sym (key_same q x e))) m }
