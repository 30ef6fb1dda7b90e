-- From leaf to leaf, to the right.
use Rattle.std.proofs.Common.{◌≡◌, ◌≢◌, ℕ, suc, ◌+◌, ◌≤◌, Bool, true, false, not, List, [], ◌∷◌, ◌++◌, length, Option, Some, None, option_map, sym, refl, ap, ◌∙◌, subst, inl, inr, append_assoc, arith}
use Rattle.std.specs.List.{list_any, AllByRecursion}
use Rattle.std.specs.Ordering.{is_lt, is_gt, ordering_reverse}
use Rattle.std.specs.declared.cmp.Ordering.{Ordering}
use Rattle.std.specs.declared.cmp.Ordering.TheVariants.{Less, Equal, Greater}
use Rattle.std.specs.declared.ops.Bound.{Bound}
use Rattle.std.specs.declared.ops.Bound.TheVariants.{Included, Excluded, Unbounded}
use Rattle.sled_nodes.specs.Order.{Key, key_cmp, Below, UpTo}
use Rattle.sled_store.specs.In.{In}
use Rattle.sled_nodes.specs.Among.{is_up_to, is_from, IsFirst, IsSuccessor}
use Rattle.std.specs.FinMap.Entries.{find}
use Rattle.sled_nodes.proofs.Basics.{none_some, false_true, not_true, first_false, second_false, or_false, is_greater, key_total, true_false}
use Rattle.sled_nodes.specs.Node.{pairs, value_at, Covers}
use Rattle.sled_nodes.specs.declared.node.Data.{Data}
use Rattle.sled_nodes.specs.declared.node.Data.TheVariants.{Leaf, Index}
use Rattle.sled_store.specs.State.{State, nodes_of}
use Rattle.sled_store.specs.Store.{Store, now, AreGiven, IsReadRefused, view_of}
use Rattle.sled_nodes.specs.declared.error.Error.{Error}
use Rattle.sled_nodes.specs.declared.node.Node.{Node}
use Rattle.sled_store.specs.declared.page.Page.{Page}
use Rattle.sled_store.specs.declared.page.View.{View}
use Rattle.tree_laws.specs.Forest.{Tree, Forest, place, contents}
use Rattle.tree_laws.specs.Paths.{IsAhead, tree_pages}
use Rattle.tree_laws.proofs.Order.{upto-refl, below_upto-trans, below_not_upto, below-trans}
use Rattle.tree_laws.proofs.Runs.{In-right, In_cases, In-left}
use Rattle.tree_laws.proofs.Looking.{next_in, next_some, ahead_next}
use Rattle.tree_laws.proofs.Reading.{range_law, find_law}
use Rattle.tree_laws.proofs.Pairs.{not_below_empty, above}
use Rattle.tree_laws.proofs.Viewed.{viewed, gone}
use Rattle.tree_reads.specs.Walk.{IsUnder, IsLeafFor, HasTooMany, RefusesWalk, once}
use Rattle.tree_reads.specs.Leaves.{OfContents, Seeks}
use Rattle.tree_reads.specs.theory.Leaves.{StartsAt}
use Rattle.tree_reads.specs.declared.TheConstants.{MOST_PAGES}
use Rattle.tree_reads.proofs.Walking.{one_less, page_refused}

pub under : (a c : Key) → key_cmp a c ≡ Greater → Below c a
under a c e = key_total.antisymm c a ∙ ap ordering_reverse e

-- what is above a key within a lower bound is within it
pub higher : (lo : Bound Key) (a b : Key) → Below a b → is_from lo a ≡ true → is_from lo b ≡ true
higher (Included c) a b l u = go (key_cmp b c) refl
  where
    go : (o : Ordering) → key_cmp b c ≡ o → not (is_lt (key_cmp b c)) ≡ true
    go Less e = false_true (sym (ap (λ o. not (is_lt o)) (below-trans a b c l e)) ∙ u)
    go Equal e = ap (λ o. not (is_lt o)) e
    go Greater e = ap (λ o. not (is_lt o)) e
higher (Excluded c) a b l u = ap is_gt (above c b (below-trans c a b (under a c (is_greater (key_cmp a c) u)) l))
higher Unbounded a b l u = refl

-- where walks begin
same_start : (b k m : Key) → is_up_to (Included b) m ≡ true → Below k m → Below k b
same_start b k m u l = below_upto-trans k m b l (not_true (is_gt (key_cmp m b)) u)

pub empty_least : (b : Key) → is_up_to (Included b) [] ≡ true
unfolding key_cmp
empty_least [] = ap not (upto-refl [])
empty_least (x ∷ xs) = refl

pub starts_included : (b : Key) → StartsAt (Included b) (Included b)
starts_included b = record { all = empty_least b; below = λ k m u l. ap (λ o. not (is_lt o)) (same_start b k m u l) }

pub starts_excluded : (b : Key) → StartsAt (Excluded b) (Included b)
starts_excluded b = record { all = empty_least b; below = λ k m u l. ap is_gt (same_start b k m u l) }

pub starts_unbounded : StartsAt Unbounded (Included [])
starts_unbounded = record { all = empty_least []; below = λ k m u l. absurd (not_below_empty k (same_start [] k m u l)) }

-- tests of lists, and of joined ones
pub none_of : {X : Type 0} (test : X → Bool) (xs : List X) → ((x : X) → In x xs → test x ≡ false) → list_any test xs ≡ false
none_of test [] k = refl
none_of test (x ∷ xs) k = or_false (test x) (list_any test xs) (k x (inl refl)) (none_of test xs (λ y i. k y (inr i)))

pub none_at : {X : Type 0} (test : X → Bool) (xs : List X) (x : X) → In x xs → list_any test xs ≡ false → test x ≡ false
none_at test [] x i e = absurd i
none_at test (y ∷ ys) x (inl e) f = ap test e ∙ first_false (test y) (list_any test ys) f
none_at test (y ∷ ys) x (inr i) f = none_at test ys x i (second_false (test y) (list_any test ys) f)

pub none_join : {X : Type 0} (test : X → Bool) (xs ys : List X) → list_any test xs ≡ false → list_any test ys ≡ false → list_any test (xs ++ ys) ≡ false
none_join test [] ys e f = f
none_join test (x ∷ xs) ys e f = or_false (test x) (list_any test (xs ++ ys)) (first_false (test x) (list_any test xs) e) (none_join test xs ys (second_false (test x) (list_any test xs) e) f)

pub all_at : {X : Type 0} (Q : X → Type 0) (xs : List X) (x : X) → In x xs → AllByRecursion Q xs → Q x
all_at Q [] x i a = absurd i
all_at Q (y ∷ ys) x (inl e) a = subst Q (sym e) a.0
all_at Q (y ∷ ys) x (inr i) a = all_at Q ys x i a.1

pub node_at : (s : State) (v : View) → s.pages v.pid ≡ Some (record { version = v.version; node = v.node }) → nodes_of s v.pid ≡ Some v.node
node_at s v live = ap (option_map (λ (g : Page). g.node)) live

weaker : (a l m : ℕ) → a + l ≤ m → a + 0 ≤ m
weaker a l m h = omega arith

-- the count may begin anew
pub seeks_anew : (s : State) (root : ℕ) (lo : Bound Key) (v : View) (looked : ℕ) → Seeks s root lo v looked → Seeks s root lo v 0
seeks_anew s root lo v looked k = record {
  read = k.read;
  is = λ w f t is. let a = k.is w f t is in (a.0, a.1, weaker a.0 looked (tree_pages s t + 1) a.2, a.3);
}

without_from : (a l m : ℕ) → a + l ≤ m + 0 + 1 → a + l ≤ m + 1
without_from a l m h = omega arith

pub seeks_first : (s : Store) (root : ℕ) (lo target : Bound Key) (v : View) (looked : ℕ) → AreGiven s → StartsAt lo target → IsLeafFor (now s) root target 0 v looked → Seeks (now s) root lo v looked
seeks_first s root lo target v looked given starts leaf = record {
  read = record { live = leaf.live; below = given.numbered };
  is = λ w f t is.
      let k = leaf.is w f t is in
      (k.1, k.2, without_from k.1 looked (tree_pages (now s) t) k.3, λ e i b. starts.below e.0 v.node.lo k.0.begins b);
}

pub in_chain : {w : Forest} {t : Tree} {h p n : ℕ} → (a : IsAhead w t h p n) → In p (w.chain (place t h))
in_chain {p = p} a = subst (λ l. In p l) (sym a.is) (In-right a.before (p ∷ a.behind) p (inl refl))

-- from a page that is the first within its bound
pub further : (lo : Bound Key) (k e : Key) → is_from lo k ≡ true → is_from lo e ≡ false → is_from (Excluded k) e ≡ false
further lo k e p q = go (key_cmp e k) refl
  where
    go : (o : Ordering) → key_cmp e k ≡ o → is_gt (key_cmp e k) ≡ false
    go Less b = ap is_gt b
    go Equal b = ap is_gt b
    go Greater b = true_false (sym (higher lo k e (key_total.antisymm k e ∙ ap ordering_reverse b) p) ∙ q)

-- the leaf stays good for the bound that is the key of the first pair, excluded
pub seeks_on : (s : State) (root : ℕ) (lo : Bound Key) (v : View) (looked : ℕ) → Seeks s root lo v looked → (x : Key) → is_from lo x ≡ true → Seeks s root (Excluded x) v looked
seeks_on s root lo v looked k x p = record {
  read = k.read;
  is = λ w f t is. let a = k.is w f t is in (a.0, a.1, a.2, λ e i b. further lo x e.0 p (a.3 e i b));
}

module _ (s : State) (root : ℕ) (lo : Bound Key) (v : View) (looked : ℕ) (k : Seeks s root lo v looked) where
  -- found
  pub seeks_found : (x : Key × Key) → IsFirst (λ e. is_from lo e.0) (pairs v.node.content) x → OfContents s root (λ all. IsSuccessor lo all (Some x))
  seeks_found x first = record {
    is = λ w f t is.
        let a = k.is w f t is in
        let r = range_law (nodes_of s) s.roots w f t v.pid v.node (in_chain a.1) (node_at s v k.read.live) in record {
          before = r.0 ++ first.before;
          after = first.after ++ r.1;
          is = r.2 ∙ ap (λ z. r.0 ++ (z ++ r.1)) first.is ∙ ap (λ z. r.0 ++ z) (append_assoc first.before (x ∷ first.after) r.1) ∙ sym (append_assoc r.0 first.before (x ∷ (first.after ++ r.1)));
          passed = first.passed;
          none = none_join (λ e. is_from lo e.0) r.0 first.before (none_of (λ e. is_from lo e.0) r.0 (λ e i. a.3 e (subst (λ l. In e l) (sym r.2) (In-left r.0 (pairs v.node.content ++ r.1) e i)) (all_at (λ e. Below e.0 v.node.lo) r.0 e i r.3))) first.none;
        };
  }

  -- none is found here, and the leaf is the last
  pub seeks_none : list_any (λ e. is_from lo e.0) (pairs v.node.content) ≡ false → v.node.next ≡ None → OfContents s root (λ all. IsSuccessor lo all None)
  seeks_none none last = record {
    is = λ w f t is.
        let a = k.is w f t is in
        let r = range_law (nodes_of s) s.roots w f t v.pid v.node (in_chain a.1) (node_at s v k.read.live) in
        none_of (λ e. is_from lo e.0) (contents (nodes_of s) w t) (λ e i. elim (In_cases r.0 (pairs v.node.content ++ r.1) e (subst (λ l. In e l) r.2 i)) [
          | inl j ↦ a.3 e i (all_at (λ e. Below e.0 v.node.lo) r.0 e j r.3)
          | inr j ↦ elim (In_cases (pairs v.node.content) r.1 e j) [
            | inl u ↦ none_at (λ e. is_from lo e.0) (pairs v.node.content) e u none
            | inr u ↦ none_some (sym last ∙ (next_some f (place t 0) v.pid v.node (in_chain a.1) (node_at s v k.read.live) (all_at (λ e. (v.node.hi ≢ []) × UpTo v.node.hi e.0) r.1 e u r.5).0).1)
          ]
        ]);
  }

  -- none is found here: on to the next leaf
  pub seeks_more : (q : ℕ) (u : View) → list_any (λ e. is_from lo e.0) (pairs v.node.content) ≡ false → v.node.next ≡ Some q → Some u ≡ view_of q (s.pages q) → Seeks s root lo u (looked + 1)
  seeks_more q u none next read =
      let x = viewed q (s.pages q) u read in record {
        read = record { live = ap s.pages x.0 ∙ x.1; below = k.read.below };
        is = λ w f t is.
            let a = k.is w f t is in
            let r = range_law (nodes_of s) s.roots w f t v.pid v.node (in_chain a.1) (node_at s v k.read.live) in
            let d = next_in f (place t 0) v.pid q v.node (in_chain a.1) (node_at s v k.read.live) next in
            let b = ahead_next f t 0 v.pid q a.0 v.node a.1 (node_at s v k.read.live) next in
            let same : u.node.lo ≡ v.node.hi = ap (λ (z : Node). z.lo) (node_is d.0 u.node d.2 (ap (option_map (λ (g : Page). g.node)) x.1)) ∙ d.3 in (
              b.0,
              subst (λ p. IsAhead w t 0 p b.0) (sym x.0) b.2,
              one_less b.0 a.0 looked (tree_pages s t + 1) b.1 a.2,
              λ e i l. elim (In_cases r.0 (pairs v.node.content ++ r.1) e (subst (λ z. In e z) r.2 i)) [
                | inl j ↦ a.3 e i (all_at (λ e. Below e.0 v.node.lo) r.0 e j r.3)
                | inr j ↦ elim (In_cases (pairs v.node.content) r.1 e j) [
                  | inl c ↦ none_at (λ e. is_from lo e.0) (pairs v.node.content) e c none
                  | inr c ↦ absurd (below_not_upto e.0 v.node.hi (subst (λ z. Below e.0 z) same l) (all_at (λ e. (v.node.hi ≢ []) × UpTo v.node.hi e.0) r.1 e c r.5).1)
                ]
              ],
            );
      }
    where
      node_is : (d n : Node) → nodes_of s q ≡ Some d → nodes_of s q ≡ Some n → n ≡ d
      node_is d n a b = one (sym b ∙ a)
        where
          one : Some n ≡ Some d → n ≡ d
          one e = cc

  -- the next page is gone, or too many were looked at
  pub seeks_gone : (q : ℕ) → v.node.next ≡ Some q → None ≡ view_of q (s.pages q) → HasTooMany once s root
  seeks_gone q next read w f t is =
      let a = k.is w f t is in
      let d = next_in f (place t 0) v.pid q v.node (in_chain a.1) (node_at s v k.read.live) next in
      none_some (sym (ap (option_map (λ (g : Page). g.node)) (gone q (s.pages q) read)) ∙ d.2)

  pub seeks_full : MOST_PAGES ≤ looked → HasTooMany once s root
  seeks_full full w f t is = let a = k.is w f t is in enough a.0 (length a.1.behind) looked (tree_pages s t) a.1.count a.2 full
    where
      enough : (a b l m : ℕ) → a ≡ suc b + 0 → a + l ≤ m + 1 → MOST_PAGES ≤ l → MOST_PAGES ≤ m
      enough a b l m c h g = omega arith

  -- the same, of the node as it is read there
  module _ (n : Node) (same : n ≡ v.node) (found : Option (Key × Key)) (nearest : IsSuccessor lo (pairs n.content) found) where
    pub found_here : (x : Key × Key) → found ≡ Some x → OfContents s root (λ all. IsSuccessor lo all (Some x))
    found_here x is = seeks_found x (subst (λ (z : Node). IsSuccessor lo (pairs z.content) (Some x)) same (subst (IsSuccessor lo (pairs n.content)) is nearest))

    none_here : found ≡ None → list_any (λ e. is_from lo e.0) (pairs v.node.content) ≡ false
    none_here is = subst (λ (z : Node). IsSuccessor lo (pairs z.content) None) same (subst (IsSuccessor lo (pairs n.content)) is nearest)

    pub ends_here : found ≡ None → (m : Node) → m ≡ v.node → m.next ≡ None → OfContents s root (λ all. IsSuccessor lo all None)
    ends_here is m at last = seeks_none (none_here is) (ap (λ (z : Node). z.next) (sym at) ∙ last)

    pub goes_on : found ≡ None → (m : Node) → m ≡ v.node → (q : ℕ) (u : View) → m.next ≡ Some q → Some u ≡ view_of q (s.pages q) → Seeks s root lo u (looked + 1)
    goes_on is m at q u next read = seeks_more q u (none_here is) (ap (λ (z : Node). z.next) (sym at) ∙ next) read

  pub gone_here : (m : Node) → m ≡ v.node → (q : ℕ) → m.next ≡ Some q → None ≡ view_of q (s.pages q) → HasTooMany once s root
  gone_here m at q next read = seeks_gone q (ap (λ (z : Node). z.next) (sym at) ∙ next) read

value_is : (d : Data) (k : Key) → value_at d k ≡ find key_cmp k (pairs d)
value_is (Leaf es) k = refl
value_is (Index es) k = refl

covered : (key : Key) (n : Node) → IsUnder (Included key) n → Covers n key
covered key n u = (not_true _ u.begins, elim u.ends [ inl e ↦ inl e | inr o ↦ inr (go (key_cmp n.hi key) refl o) ])
  where
    go : (o : Ordering) → key_cmp n.hi key ≡ o → not (is_gt (key_cmp n.hi key)) ≡ false → Below key n.hi
    go Less e off = true_false (sym (ap (λ o. not (is_gt o)) e) ∙ off)
    go Equal e off = true_false (sym (ap (λ o. not (is_gt o)) e) ∙ off)
    go Greater e off = under n.hi key e

-- the value in the leaf under a key is the contents'
pub value_found : (s : State) (root : ℕ) (key : Key) (from : ℕ) (v : View) (looked : ℕ) → IsLeafFor s root (Included key) from v looked → (n : Node) → n ≡ v.node → (value : Option Key) → value ≡ value_at n.content key → OfContents s root (λ all. value ≡ find key_cmp key all)
value_found s root key from v looked leaf n same value is = record {
  is = λ w f t there.
      let k = leaf.is w f t there in
      is ∙ ap (λ (z : Node). value_at z.content key) same ∙ value_is v.node.content key ∙ sym (find_law (nodes_of s) s.roots w f t v.pid v.node key (in_chain k.2) (node_at s v leaf.live) (covered key v.node k.0));
}

-- the leaf after one of the tree is not read
pub next_refused : (s : Store) (root : ℕ) (lo : Bound Key) (v : View) (looked : ℕ) → Seeks (now s) root lo v looked → (m : Node) → m ≡ v.node → (q : ℕ) → m.next ≡ Some q → (e : Error) → IsReadRefused q s e → RefusesWalk once s root e
next_refused s root lo v looked k m at q next = page_refused once s root q
    (λ t is w f. (0, (next_in f (place t 0) v.pid q v.node (in_chain (k.is w f t is).1) (node_at (now s) v k.read.live) (ap (λ (z : Node). z.next) (sym at) ∙ next)).1))
