-- The first and the last pair of a range.
use Rattle.std.proofs.Common.{◌≡◌, ℕ, Bool, true, false, T, not, cond, ◌&&◌, filter, List, [], ◌∷◌, ◌++◌, append-nil, Option, Some, None, option_map, sym, refl, ap, ◌∙◌, subst, inl, inr}
use Rattle.std.specs.List.{list_any, AllByRecursion}
use Rattle.std.specs.FinMap.Entries.{is_sorted, below_all}
use Rattle.std.specs.Ordering.{is_lt, is_gt}
use Rattle.std.specs.declared.cmp.Ordering.{Ordering}
use Rattle.std.specs.declared.cmp.Ordering.TheVariants.{Less, Equal, Greater}
use Rattle.std.specs.declared.ops.Bound.{Bound}
use Rattle.std.specs.declared.ops.Bound.TheVariants.{Included, Excluded, Unbounded}
use Rattle.sled_nodes.proofs.Basics.{some_is, false_true, not_true, left_of, right_of, is_less, is_greater, less_of, second_off}
use Rattle.sled_nodes.specs.Order.{Key, key_cmp, Below}
use Rattle.sled_store.specs.In.{In}
use Rattle.sled_nodes.specs.Among.{is_up_to, is_from, IsFirst, IsLast, IsSuccessor, IsPredecessor}
use Rattle.sled_nodes.specs.Ranges.{is_reversed}
use Rattle.sled_store.specs.State.{nodes_of}
use Rattle.sled_store.specs.Store.{Store, now, AreGiven}
use Rattle.sled_store.specs.declared.page.View.{View}
use Rattle.tree_laws.specs.Forest.{contents}
use Rattle.tree_laws.specs.Contents.{pairs_under}
use Rattle.tree_laws.proofs.Order.{below_irrefl, below_upto-trans, upto_below-trans, upto-trans}
use Rattle.tree_laws.proofs.Fuel.{contents_law}
use Rattle.tree_laws.proofs.Reading.{sorted_law}
use Rattle.tree_laws.proofs.Runs.{In_cases}
use Rattle.tree_laws.proofs.Pairs.{not_below_empty, above}
use Rattle.tree_reads.specs.Leaves.{OfContents, SeeksAt, SeeksBackAt}
use Rattle.tree_reads.specs.Ranges.{pairs_within, IsRoot}
use Rattle.tree_reads.specs.theory.Ranges.{Advances, Retreats}
use Rattle.tree_reads.proofs.Turning.{lower}
use Rattle.tree_reads.proofs.Seeking.{none_at, all_at, higher, under, seeks_on}
use Rattle.tree_reads.proofs.Backing.{not_below, back_on}

pub each_above : (k : Key) (es : List (Key × Key)) → T (below_all key_cmp k es) → AllByRecursion (λ e. Below k e.0) es
each_above k [] p = tt
each_above k (e ∷ es) p = (less_of _ (left_of _ _ p), each_above k es (right_of _ _ p))

at_seam : (k : Key) (zs : List (Key × Key)) (y : Key × Key) (ys : List (Key × Key)) → AllByRecursion (λ e. Below k e.0) (zs ++ y ∷ ys) → Below k y.0
at_seam k [] y ys a = a.0
at_seam k (z ∷ zs) y ys a = at_seam k zs y ys a.1

-- what stands before an entry of a sorted list is below it, and what stands behind it above
pub around : (xs : List (Key × Key)) (y : Key × Key) (ys : List (Key × Key)) → T (is_sorted key_cmp (xs ++ y ∷ ys)) → AllByRecursion (λ e. Below e.0 y.0) xs × AllByRecursion (λ e. Below y.0 e.0) ys
around [] y ys p = (tt, each_above y.0 ys (left_of _ _ p))
around (x ∷ xs) y ys p = let r = around xs y ys (right_of _ _ p) in ((at_seam x.0 xs y ys (each_above x.0 (xs ++ y ∷ ys) (left_of _ _ p)), r.0), r.1)

-- filters
pub filter_none : {X : Type 0} (test : X → Bool) (xs : List X) → ((x : X) → In x xs → test x ≡ false) → filter test xs ≡ []
filter_none test [] k = refl
filter_none test (x ∷ xs) k = ap (λ b. cond b (x ∷ filter test xs) (filter test xs)) (k x (inl refl)) ∙ filter_none test xs (λ y i. k y (inr i))

filter_same : {X : Type 0} (a b : X → Bool) (xs : List X) → ((x : X) → In x xs → a x ≡ b x) → filter a xs ≡ filter b xs
filter_same a b [] k = refl
filter_same a b (x ∷ xs) k = ap (λ z. cond z (x ∷ filter a xs) (filter a xs)) (k x (inl refl)) ∙ ap (λ z. cond (b x) (x ∷ z) z) (filter_same a b xs (λ y i. k y (inr i)))

filter_join : {X : Type 0} (test : X → Bool) (xs ys : List X) → filter test (xs ++ ys) ≡ filter test xs ++ filter test ys
filter_join test [] ys = refl
filter_join test (x ∷ xs) ys = ap (λ z. cond (test x) (x ∷ z) z) (filter_join test xs ys) ∙ go (test x)
  where
    go : (b : Bool) → cond b (x ∷ (filter test xs ++ filter test ys)) (filter test xs ++ filter test ys) ≡ cond b (x ∷ filter test xs) (filter test xs) ++ filter test ys
    go true = refl
    go false = refl

-- what a test of a key against the upper bound says
pub tested : (r a : Bool) (b hi : Bound Key) (k key : Key) → r ≡ is_up_to b k → b ≡ hi → k ≡ key → r ≡ a → is_up_to hi key ≡ a
tested r a b hi k key e f g n = sym (ap (is_up_to hi) g) ∙ sym (ap (λ z. is_up_to z k) f) ∙ sym e ∙ n

module _ (lo hi : Bound Key) (all : List (Key × Key)) where
  abbrev test : Key × Key → Bool
  test e = is_from lo e.0 && is_up_to hi e.0

  off : (e : Key × Key) → is_from lo e.0 ≡ false → test e ≡ false
  off e k = ap (λ b. b && is_up_to hi e.0) k

  -- none is within the lower bound
  none_within : list_any (λ e. is_from lo e.0) all ≡ false → pairs_within lo hi all ≡ []
  none_within k = filter_none test all (λ e i. off e (none_at (λ e. is_from lo e.0) all e i k))

  module _ (x : Key × Key) (f : IsFirst (λ e. is_from lo e.0) all x) (sorted : T (is_sorted key_cmp all)) where
    parts : AllByRecursion (λ e. Below e.0 x.0) f.before × AllByRecursion (λ e. Below x.0 e.0) f.after
    parts = around f.before x f.after (subst (λ l. T (is_sorted key_cmp l)) f.is sorted)

    before_off : (e : Key × Key) → In e f.before → is_from lo e.0 ≡ false
    before_off e i = none_at (λ e. is_from lo e.0) f.before e i f.none

    after_on : (e : Key × Key) → In e f.after → is_from lo e.0 ≡ true
    after_on e i = higher lo x.0 e.0 (all_at (λ e. Below x.0 e.0) f.after e i parts.1) f.passed

    abbrev rest : Key × Key → Bool
    rest e = is_from (Excluded x.0) e.0 && is_up_to hi e.0

    not_itself : is_gt (key_cmp x.0 x.0) ≡ false
    not_itself = go (key_cmp x.0 x.0) refl
      where
        go : (o : Ordering) → key_cmp x.0 x.0 ≡ o → is_gt (key_cmp x.0 x.0) ≡ false
        go Less e = absurd (below_irrefl x.0 e)
        go Equal e = ap is_gt e
        go Greater e = absurd (below_irrefl x.0 (under x.0 x.0 e))

    -- the first is within the upper bound: it is taken
    one_within : is_up_to hi x.0 ≡ true → pairs_within lo hi all ≡ x ∷ pairs_within (Excluded x.0) hi all
    one_within up =
        ap (filter test) f.is
        ∙ filter_join test f.before (x ∷ f.after)
        ∙ ap (λ z. z ++ filter test (x ∷ f.after)) (filter_none test f.before (λ e i. off e (before_off e i)))
        ∙ ap (λ b. cond b (x ∷ filter test f.after) (filter test f.after)) (ap (λ b. b && is_up_to hi x.0) f.passed ∙ up)
        ∙ ap (λ z. x ∷ z) (filter_same test rest f.after (λ e i. ap (λ b. b && is_up_to hi e.0) (after_on e i ∙ sym (ap is_gt (above x.0 e.0 (all_at (λ e. Below x.0 e.0) f.after e i parts.1)))))
        ∙ sym (ap (filter rest) f.is
        ∙ filter_join rest f.before (x ∷ f.after)
        ∙ ap (λ z. z ++ filter rest (x ∷ f.after)) (filter_none rest f.before (λ e i. ap (λ b. b && is_up_to hi e.0) (ap is_gt (all_at (λ e. Below e.0 x.0) f.before e i parts.0))))
        ∙ ap (λ b. cond b (x ∷ filter rest f.after) (filter rest f.after)) (ap (λ b. b && is_up_to hi x.0) not_itself)))

    -- it is beyond: nothing is left
    beyond : is_up_to hi x.0 ≡ false → pairs_within lo hi all ≡ []
    beyond up = filter_none test all (λ e i. elim (In_cases f.before (x ∷ f.after) e (subst (λ l. In e l) f.is i)) [
      | inl j ↦ off e (before_off e j)
      | inr j ↦ elim j [
        | inl s ↦ far e (ap (λ (z : Key × Key). is_up_to hi z.0) s ∙ up)
        | inr k ↦ far e (go e k (is_up_to hi e.0) refl)
      ]
    ])
      where
        far : (e : Key × Key) → is_up_to hi e.0 ≡ false → test e ≡ false
        far e k = second_off (is_from lo e.0) (is_up_to hi e.0) k

        go : (e : Key × Key) → In e f.after → (b : Bool) → is_up_to hi e.0 ≡ b → is_up_to hi e.0 ≡ false
        go e k true u = false_true (sym up ∙ lower hi x.0 e.0 (all_at (λ e. Below x.0 e.0) f.after e k parts.1) u)
        go e k false u = u

module _ (lo hi : Bound Key) (all : List (Key × Key)) where
  abbrev within : Key × Key → Bool
  within e = is_from lo e.0 && is_up_to hi e.0

  past : (e : Key × Key) → is_up_to hi e.0 ≡ false → within e ≡ false
  past e k = second_off (is_from lo e.0) (is_up_to hi e.0) k

  short : (e : Key × Key) → is_from lo e.0 ≡ false → within e ≡ false
  short e k = ap (λ b. b && is_up_to hi e.0) k

  -- none is within the upper bound
  none_back : list_any (λ e. is_up_to hi e.0) all ≡ false → pairs_within lo hi all ≡ []
  none_back k = filter_none within all (λ e i. past e (none_at (λ e. is_up_to hi e.0) all e i k))

  module _ (x : Key × Key) (f : IsLast (λ e. is_up_to hi e.0) all x) (sorted : T (is_sorted key_cmp all)) where
    sides : AllByRecursion (λ e. Below e.0 x.0) f.before × AllByRecursion (λ e. Below x.0 e.0) f.after
    sides = around f.before x f.after (subst (λ l. T (is_sorted key_cmp l)) f.is sorted)

    below : (e : Key × Key) → In e f.before → Below e.0 x.0
    below e i = all_at (λ e. Below e.0 x.0) f.before e i sides.0

    beside : (e : Key × Key) → In e f.after → Below x.0 e.0
    beside e i = all_at (λ e. Below x.0 e.0) f.after e i sides.1

    abbrev others : Key × Key → Bool
    others e = is_from lo e.0 && is_up_to (Excluded x.0) e.0

    others_off : (e : Key × Key) → is_lt (key_cmp e.0 x.0) ≡ false → others e ≡ false
    others_off e k = second_off (is_from lo e.0) (is_lt (key_cmp e.0 x.0)) k

    itself : is_lt (key_cmp x.0 x.0) ≡ false
    itself = go (key_cmp x.0 x.0) refl
      where
        go : (o : Ordering) → key_cmp x.0 x.0 ≡ o → is_lt (key_cmp x.0 x.0) ≡ false
        go Less e = absurd (below_irrefl x.0 e)
        go Equal e = ap is_lt e
        go Greater e = ap is_lt e

    -- the last is within the lower bound: it is taken
    one_back : is_from lo x.0 ≡ true → pairs_within lo hi all ≡ pairs_within lo (Excluded x.0) all ++ x ∷ []
    one_back up =
        ap (filter within) f.is
        ∙ filter_join within f.before (x ∷ f.after)
        ∙ ap (λ z. filter within f.before ++ z) (ap (λ b. cond b (x ∷ filter within f.after) (filter within f.after)) (ap (λ b. b && is_up_to hi x.0) up ∙ f.passed) ∙ ap (λ z. x ∷ z) (filter_none within f.after (λ e i. past e (none_at (λ e. is_up_to hi e.0) f.after e i f.none))))
        ∙ ap (λ z. z ++ x ∷ []) (filter_same within others f.before (λ e i. ap (λ b. is_from lo e.0 && b) (lower hi e.0 x.0 (below e i) f.passed ∙ sym (ap is_lt (below e i)))))
        ∙ sym (ap (λ z. z ++ x ∷ []) (ap (filter others) f.is
        ∙ filter_join others f.before (x ∷ f.after)
        ∙ ap (λ z. filter others f.before ++ z) (ap (λ b. cond b (x ∷ filter others f.after) (filter others f.after)) (others_off x itself) ∙ filter_none others f.after (λ e i. others_off e (ap is_lt (above x.0 e.0 (beside e i)))))
        ∙ append-nil (filter others f.before)))

    -- it is before the lower bound: nothing is left
    before_all : is_from lo x.0 ≡ false → pairs_within lo hi all ≡ []
    before_all off = filter_none within all (λ e i. elim (In_cases f.before (x ∷ f.after) e (subst (λ l. In e l) f.is i)) [
      | inl j ↦ short e (go e j (is_from lo e.0) refl)
      | inr j ↦ elim j [
        | inl s ↦ short e (ap (λ (z : Key × Key). is_from lo z.0) s ∙ off)
        | inr k ↦ past e (none_at (λ e. is_up_to hi e.0) f.after e k f.none)
      ]
    ])
      where
        go : (e : Key × Key) → In e f.before → (b : Bool) → is_from lo e.0 ≡ b → is_from lo e.0 ≡ false
        go e k true u = false_true (sym off ∙ higher lo e.0 x.0 (below e k) u)
        go e k false u = u

-- a range whose start stands above its end has no pair
none_from : (lo hi : Bound Key) → is_reversed lo hi ≡ true → (k : Key) → is_up_to hi k ≡ true → is_from lo k ≡ false
none_from (Included a) (Included b) r k u = ap (λ o. not (is_lt o)) (upto_below-trans k b a (not_true _ u) (under a b (is_greater _ r)))
none_from (Included a) (Excluded b) r k u = ap (λ o. not (is_lt o)) (below_upto-trans k b a (is_less _ u) (not_below a b (not_true _ r)))
none_from (Excluded a) (Included b) r k u = upto-trans k b a (not_true _ u) (not_below a b (not_true _ r))
none_from (Excluded a) (Excluded b) r k u = ap is_gt (below_upto-trans k b a (is_less _ u) (not_below a b (not_true _ r)))
none_from Unbounded (Excluded b) r k u = absurd (not_below_empty k (below_upto-trans k b [] (is_less _ u) (not_below [] b (not_true _ r))))
none_from Unbounded (Included b) r k u = false_true r
none_from Unbounded Unbounded r k u = false_true r
none_from (Included a) Unbounded r k u = false_true r
none_from (Excluded a) Unbounded r k u = false_true r

pub reversed_none : (lo hi : Bound Key) (all : List (Key × Key)) → is_reversed lo hi ≡ true → pairs_within lo hi all ≡ []
reversed_none lo hi all r = filter_none (λ e. is_from lo e.0 && is_up_to hi e.0) all (λ e i. go e (is_up_to hi e.0) refl)
  where
    go : (e : Key × Key) (b : Bool) → is_up_to hi e.0 ≡ b → (is_from lo e.0 && is_up_to hi e.0) ≡ false
    go e true u = ap (λ z. z && is_up_to hi e.0) (none_from lo hi r e.0 u)
    go e false u = second_off (is_from lo e.0) (is_up_to hi e.0) u

-- what a test of a key against a lower bound says
pub tested_from : (r a : Bool) (b lo : Bound Key) (k key : Key) → r ≡ is_from b k → b ≡ lo → k ≡ key → r ≡ a → is_from lo key ≡ a
tested_from r a b lo k key e f g n = sym (ap (is_from lo) g) ∙ sym (ap (λ z. is_from z k) f) ∙ sym e ∙ n

-- the pairs of the tree with a root
module _ (s : Store) (root : ℕ) (given : AreGiven s) (is : IsRoot (now s) root) where
  abbrev pub pairs : List (Key × Key)
  pairs = pairs_under (nodes_of (now s)) root

  pairs_are : pairs ≡ contents (nodes_of (now s)) is.forest is.tree
  pairs_are = some_is (ap (option_map (pairs_under (nodes_of (now s)))) (sym is.is) ∙ contents_law (now s) is.forest is.formed given.numbered is.tree ∙ ap (option_map (λ _. contents (nodes_of (now s)) is.forest is.tree)) is.is)

  sorted_pairs : T (is_sorted key_cmp pairs)
  sorted_pairs = subst (λ l. T (is_sorted key_cmp l)) (sym pairs_are) (sorted_law (nodes_of (now s)) (now s).roots is.forest is.formed is.tree)

  -- what is so of the contents at every forest is so of them
  pub of_pairs : (so : List (Key × Key) → Type 0) → OfContents (now s) root so → so pairs
  of_pairs so near = subst so (sym pairs_are) (near.is is.forest is.formed is.tree is.is)

  module _ (lo hi from : Bound Key) (same : from ≡ lo) (found : Option (Key × Key)) (near : OfContents (now s) root (λ all. IsSuccessor from all found)) where
    nearest : IsSuccessor lo pairs found
    nearest = subst (λ b. IsSuccessor b pairs found) same (of_pairs (λ all. IsSuccessor from all found) near)

    pub advance_none : found ≡ None → Advances pairs lo hi None lo
    advance_none none = record { is = (none_within lo hi pairs (subst (IsSuccessor lo pairs) none nearest), refl) }

    module _ (x : Key × Key) (some : found ≡ Some x) where
      first : IsFirst (λ e. is_from lo e.0) pairs x
      first = subst (IsSuccessor lo pairs) some nearest

      pub advance_beyond : is_up_to hi x.0 ≡ false → Advances pairs lo hi None lo
      advance_beyond up = record { is = (beyond lo hi pairs x first sorted_pairs up, refl) }

      pub advance_one : is_up_to hi x.0 ≡ true → (new : Bound Key) → new ≡ Excluded x.0 → Advances pairs lo hi (Some x) new
      advance_one up new copy = record { is = one_within lo hi pairs x first sorted_pairs up ∙ ap (λ b. x ∷ pairs_within b hi pairs) (sym copy) }

      pub advance_kept : (hand : Option View) → SeeksAt (now s) root from hand → (new : Bound Key) → new ≡ Excluded x.0 → SeeksAt (now s) root new hand
      advance_kept None k new copy = tt
      advance_kept (Some v) k new copy = subst (λ b. SeeksAt (now s) root b (Some v)) (sym copy) (seeks_on (now s) root lo v 0 (subst (λ b. SeeksAt (now s) root b (Some v)) same k) x.0 first.passed)

  module _ (lo hi from : Bound Key) (same : from ≡ hi) (found : Option (Key × Key)) (near : OfContents (now s) root (λ all. IsPredecessor from all found)) where
    nearest_back : IsPredecessor hi pairs found
    nearest_back = subst (λ b. IsPredecessor b pairs found) same (of_pairs (λ all. IsPredecessor from all found) near)

    pub retreat_none : found ≡ None → Retreats pairs lo hi None hi
    retreat_none none = record { is = (none_back lo hi pairs (subst (IsPredecessor hi pairs) none nearest_back), refl) }

    module _ (x : Key × Key) (some : found ≡ Some x) where
      last : IsLast (λ e. is_up_to hi e.0) pairs x
      last = subst (IsPredecessor hi pairs) some nearest_back

      pub retreat_before : is_from lo x.0 ≡ false → Retreats pairs lo hi None hi
      retreat_before off = record { is = (before_all lo hi pairs x last sorted_pairs off, refl) }

      pub retreat_one : is_from lo x.0 ≡ true → (new : Bound Key) → new ≡ Excluded x.0 → Retreats pairs lo hi (Some x) new
      retreat_one up new copy = record { is = one_back lo hi pairs x last sorted_pairs up ∙ ap (λ b. pairs_within lo b pairs ++ x ∷ []) (sym copy) }

      pub retreat_kept : (hand : Option View) → SeeksBackAt (now s) root from hand → (new : Bound Key) → new ≡ Excluded x.0 → SeeksBackAt (now s) root new hand
      retreat_kept None k new copy = tt
      retreat_kept (Some v) k new copy = subst (λ b. SeeksBackAt (now s) root b (Some v)) (sym copy) (back_on (now s) root hi v 0 (subst (λ b. SeeksBackAt (now s) root b (Some v)) same k) x.0 last.passed)
