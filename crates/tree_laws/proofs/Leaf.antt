-- Each action that replaces a page of a chain.
use Rattle.std.proofs.Common.{◌≡◌, ◌≢◌, ℕ, suc, ◌≤◌, true, false, cond, not, Less, Equal, Greater, le_trans, List, [], ◌∷◌, ◌++◌, length, Option, Some, None, sym, refl, ap, ◌∙◌, subst, inl, inr, ◌⊎◌, arith, append-nil}
use Rattle.std.specs.List.{AllByRecursion}
use Rattle.std.specs.Ordering.{eq_by_cmp}
use Rattle.std.specs.FinMap.Entries.{put, by_order, is_sorted-put, is_sorted-where_key}
use Rattle.sled_nodes.proofs.Basics.{some_is, key_total}
use Rattle.sled_store.specs.In.{In}
use Rattle.sled_nodes.specs.Node.{Covers, with_pair, without_key, Within, pairs, pointers, count, without}
use Rattle.sled_nodes.specs.Order.{Key, key_cmp, Below}
use Rattle.sled_store.specs.State.{Nodes}
use Rattle.sled_store.specs.theory.Facts.{put_here, put_elsewhere}
use Rattle.sled_nodes.specs.declared.node.Data.{Data}
use Rattle.sled_nodes.specs.declared.node.Data.TheVariants.{Leaf, Index}
use Rattle.sled_nodes.specs.declared.node.Node.{Node}
use Rattle.tree_laws.specs.theory.Action.{put_node}
use Rattle.tree_laws.specs.Forest.{IsSized, first_child, later, Holds, IsNodeAt, Forest, Place, place, IsPointer, WellFormed, contents, node_pairs, Tree}
use Rattle.tree_laws.specs.theory.Snapshot.{GrowsByReceiving, KeepsNodes}
use Rattle.tree_laws.specs.theory.PageLaws.{Unseen}
use Rattle.tree_laws.specs.theory.Laws.{IsAt, Changed, SetLaw, DelLaw}
use Rattle.tree_laws.proofs.Order.{below_upto-trans}
use Rattle.tree_laws.proofs.Pairs.{each_weaker, put-middle, without-middle}
use Rattle.tree_laws.proofs.Runs.{In_split}
use Rattle.tree_laws.proofs.Sizes.{replaced_sized, replaced_grows}
use Rattle.tree_laws.proofs.Cover.{holds_at}
use Rattle.tree_laws.proofs.Replace.{Replaces, replaced_kept, replaced_keeps, pairs_kept, pairs_of, pairs_else, pairs_old, pairs_new, pairs_low, pairs_high}

abbrev pub with_content : Node → Data → Node
with_content n c = record n { content = c }

-- a page keeps its place, and only its entries change
module _ (nodes : Nodes) (roots : Tree → Option ℕ) (w : Forest) (f : WellFormed nodes roots w) (x : Place) (p : ℕ) (n : Node) (c : Data) (i : In p (w.chain x)) (live : nodes p ≡ Some n) (not_merging : n.merging ≡ false) (sound : IsNodeAt x.height (with_content n c)) (first : first_child (pointers c) ≡ first_child (pointers n.content))
    (child : (d : ℕ) → n.merging_child ≡ Some d → (k : Key) × In (k, d) (later (pointers c)))
    (pointer : (t : Tree) (h : ℕ) → x ≡ place t (suc h) → (k : Key) (d : ℕ) → In (k, d) (pointers c) → IsPointer nodes w (with_content n c) t h k d) where
  pub in_place : let s = In_split (w.chain x) p i in Replaces nodes (put_node nodes p (with_content n c)) w w x p n (with_content n c) s.0 [] [] s.1
  in_place =
      let s = In_split (w.chain x) p i in
      record {
        before = s.2;
        after = s.2;
        elsewhere = λ y e. refl;
        was = live;
        now = put_here nodes p (Some (with_content n c));
        others = λ q. put_elsewhere nodes p q (Some (with_content n c));
        stays = λ q y h. h;
        comes = λ q y h. inl h;
        adds = λ q h. absurd h;
        goes = λ q h. absurd h;
        run = λ to hi r. let is : r.0 ≡ n = some_is (sym r.1.live ∙ live) in (
          with_content n c,
          record { live = put_here nodes p (Some (with_content n c)); here = refl; lo_is = refl; rises = subst (λ (z : Node). (z.next ≡ None) ⊎ Below z.lo z.hi) is r.1.rises },
          (ap (λ (z : Node). z.next) (sym is) ∙ r.2.0, ap (λ (z : Node). z.hi) (sym is) ∙ r.2.1),
        );
        lo = refl;
        merging_was = not_merging;
        merging = not_merging;
        merging_child = refl;
        sound = sound;
        first = first;
        child = child;
        pointer = pointer;
      }

  pub in_place_kept : WellFormed (put_node nodes p (with_content n c)) roots w
  in_place_kept = replaced_kept in_place f

  pub in_place_keeps : KeepsNodes [] None nodes (put_node nodes p (with_content n c)) w w
  in_place_keeps = replaced_keeps in_place f [] (λ z h. h)

  pub in_place_sized : count c ≤ 17 → IsSized nodes w → IsSized (put_node nodes p (with_content n c)) w
  in_place_sized fits = replaced_sized in_place f (record { fits = omega arith; added_few = λ q d i. absurd i; child = λ q d i live is. fits })

  pub in_place_grows : count c ≤ 17 → GrowsByReceiving nodes (put_node nodes p (with_content n c)) w
  in_place_grows fits = replaced_grows in_place f (inr (inl fits))

  pub in_place_unseen : pairs c ≡ pairs n.content → Unseen [] nodes (put_node nodes p (with_content n c)) roots w (count c ≤ 17)
  in_place_unseen same = record {
    after = w;
    kept = in_place_kept;
    same = pairs_kept in_place f (ap (λ z. node_pairs z ++ []) (put_here nodes p (Some (with_content n c))) ∙ ap (λ l. l ++ []) same ∙ sym (ap (λ z. node_pairs z ++ []) live));
    keeps = in_place_keeps;
    sized = in_place_sized;
    grows = in_place_grows;
  }

  -- a page that only loses entries
  pub in_place_shrinks : count c ≤ count n.content → IsSized nodes w → IsSized (put_node nodes p (with_content n c)) w
  in_place_shrinks less z = replaced_sized in_place f (record {
    fits = le_trans less (z.fits x p n (f.homed x p i) live);
    added_few = λ q d i. absurd i;
    child = λ q d j there is. le_trans less (z.child _ q p d n j there is live);
  }) z

  pub in_place_grows_not : count c ≤ count n.content → GrowsByReceiving nodes (put_node nodes p (with_content n c)) w
  in_place_grows_not less = replaced_grows in_place f (inl less)

module _ (nodes : Nodes) (roots : Tree → Option ℕ) (w : Forest) (f : WellFormed nodes roots w) (t : Tree) (p : ℕ) (n : Node) (es new : List (Key × Key)) (i : In p (w.chain (place t 0))) (live : nodes p ≡ Some n) (leaf : n.content ≡ Leaf es) (not_merging : n.merging ≡ false) (holds : Holds 0 n.lo n.hi (Leaf new)) where
  sound : IsNodeAt 0 (with_content n (Leaf new))
  sound = record { holds = holds }

  first : None ≡ first_child (pointers n.content)
  first = ap (λ c. first_child (pointers c)) (sym leaf)

  child : (d : ℕ) → n.merging_child ≡ Some d → (k : Key) × ⊥
  child d e = let h = f.child (place t 0) p n i live d e in (h.0, subst (λ c. In (h.0, d) (later (pointers c))) leaf h.1)

  parts : let s = In_split (w.chain (place t 0)) p i in Replaces nodes (put_node nodes p (with_content n (Leaf new))) w w (place t 0) p n (with_content n (Leaf new)) s.0 [] [] s.1
  parts = in_place nodes roots w f (place t 0) p n (Leaf new) i live not_merging sound first child (λ u h e k d j. absurd j)

  pub leaf_kept : WellFormed (put_node nodes p (with_content n (Leaf new))) roots w
  leaf_kept = in_place_kept nodes roots w f (place t 0) p n (Leaf new) i live not_merging sound first child (λ u h e k d j. absurd j)

  pub leaf_sized : length new ≤ 17 → IsSized nodes w → IsSized (put_node nodes p (with_content n (Leaf new))) w
  leaf_sized = in_place_sized nodes roots w f (place t 0) p n (Leaf new) i live not_merging sound first child (λ u h e k d j. absurd j)

  pub leaf_grows : length new ≤ 17 → GrowsByReceiving nodes (put_node nodes p (with_content n (Leaf new))) w
  leaf_grows = in_place_grows nodes roots w f (place t 0) p n (Leaf new) i live not_merging sound first child (λ u h e k d j. absurd j)

  pub leaf_shrinks : length new ≤ count n.content → IsSized nodes w → IsSized (put_node nodes p (with_content n (Leaf new))) w
  leaf_shrinks = in_place_shrinks nodes roots w f (place t 0) p n (Leaf new) i live not_merging sound first child (λ u h e k d j. absurd j)

  pub leaf_grows_not : length new ≤ count n.content → GrowsByReceiving nodes (put_node nodes p (with_content n (Leaf new))) w
  leaf_grows_not = in_place_grows_not nodes roots w f (place t 0) p n (Leaf new) i live not_merging sound first child (λ u h e k d j. absurd j)

  pub leaf_keeps : KeepsNodes [] None nodes (put_node nodes p (with_content n (Leaf new))) w w
  leaf_keeps = replaced_keeps parts f [] (λ z h. h)

  pub leaf_else : (u : Tree) → u ≢ t → contents (put_node nodes p (with_content n (Leaf new))) w u ≡ contents nodes w u
  leaf_else u off = pairs_else parts f u (λ e. off (ap (λ (z : Place). z.tree) e))

  -- a change of a list that reads, in the middle of others, as one of the middle
  pub leaf_contents : (change : List (Key × Key) → List (Key × Key)) (k : Key) → Within n.lo n.hi k → change es ≡ new
      → ((xs ms ys : List (Key × Key)) → AllByRecursion (λ e. Below e.0 k) xs → AllByRecursion (λ e. Below k e.0) ys → change (xs ++ (ms ++ ys)) ≡ xs ++ (change ms ++ ys))
      → contents (put_node nodes p (with_content n (Leaf new))) w t ≡ change (contents nodes w t)
  leaf_contents change k within is middle =
      let s = In_split (w.chain (place t 0)) p i in
      let low = each_weaker (λ e. Below e.0 n.lo) (λ e. Below e.0 k) (λ e h. below_upto-trans e.0 n.lo k h within.0) _ (pairs_low parts f t refl) in
      let here : pairs_of (put_node nodes p (with_content n (Leaf new))) (p ∷ []) ≡ new = ap (λ z. node_pairs z ++ []) (put_here nodes p (Some (with_content n (Leaf new)))) ∙ append-nil new in
      let was : pairs_of nodes (p ∷ []) ≡ es = ap (λ z. node_pairs z ++ []) live ∙ append-nil (pairs n.content) ∙ ap pairs leaf in
      pairs_new parts f t refl ∙ ap (λ z. pairs_of nodes s.0 ++ (z ++ pairs_of nodes s.1)) (here ∙ sym is ∙ ap change (sym was))
      ∙ sym (middle (pairs_of nodes s.0) (pairs_of nodes (p ∷ [])) (pairs_of nodes s.1) low (pairs_high parts f t refl k within)) ∙ ap change (sym (pairs_old parts f t refl))

pub each_put : {A : Type 0} (P : Key → Type 0) (k : Key) (v : A) (es : List (Key × A)) → P k → AllByRecursion (λ e. P e.0) es → AllByRecursion (λ e. P e.0) (put key_cmp k v es)
each_put P k v [] h a = (h, tt)
each_put P k v (e ∷ es) h a =
    elim (key_cmp k e.0) as (λ o. AllByRecursion (λ e. P e.0) (by_order o ((k, v) ∷ e ∷ es) ((e.0, v) ∷ es) (e ∷ put key_cmp k v es))) [
      | Less ↦ (h, a)
      | Equal ↦ a
      | Greater ↦ (a.0, each_put P k v es h a.1)
    ]

each_without : (P : Key → Type 0) (k : Key) (es : List (Key × Key)) → AllByRecursion (λ e. P e.0) es → AllByRecursion (λ e. P e.0) (without k es)
each_without P k [] a = tt
each_without P k (e ∷ es) a =
    elim (not (eq_by_cmp key_cmp k e.0)) as (λ b. AllByRecursion (λ e. P e.0) (cond b (e ∷ without k es) (without k es))) [
      | true ↦ (a.0, each_without P k es a.1)
      | false ↦ each_without P k es a.1
    ]

length_without_le : (k : Key) (es : List (Key × Key)) → length (without k es) ≤ length es
length_without_le k [] = omega arith
length_without_le k (e ∷ es) =
    let h = length_without_le k es in
    elim (not (eq_by_cmp key_cmp k e.0)) as (λ b. length (cond b (e ∷ without k es) (without k es)) ≤ length (e ∷ es)) [ true ↦ omega arith | false ↦ omega arith ]

-- what a leaf's content is
leaf_is : (lo hi : Key) (c : Data) → Holds 0 lo hi c → (es : List (Key × Key)) × (c ≡ Leaf es) × Holds 0 lo hi (Leaf es)
leaf_is lo hi (Leaf es) h = (es, refl, h)
leaf_is lo hi (Index es) h = absurd h

pub leaf_at : {nodes : Nodes} {roots : Tree → Option ℕ} {w : Forest} (f : WellFormed nodes roots w) (t : Tree) (p : ℕ) (n : Node) → In p (w.chain (place t 0)) → nodes p ≡ Some n → (es : List (Key × Key)) × (n.content ≡ Leaf es) × Holds 0 n.lo n.hi (Leaf es)
leaf_at f t p n i live = leaf_is n.lo n.hi n.content (holds_at f (place t 0) p n i live)

-- the law for any change of a list that reads, in the middle of others, as one of the middle
module _ (nodes : Nodes) (roots : Tree → Option ℕ) (w : Forest) (f : WellFormed nodes roots w) (t : Tree) (p : ℕ) (n : Node) (a : IsAt nodes w (place t 0) p n) (es new : List (Key × Key)) (leaf : n.content ≡ Leaf es) (holds : Holds 0 n.lo n.hi (Leaf new))
    (change : List (Key × Key) → List (Key × Key)) (k : Key) (within : Covers n k) (is : change es ≡ new)
    (middle : (xs ms ys : List (Key × Key)) → AllByRecursion (λ e. Below e.0 k) xs → AllByRecursion (λ e. Below k e.0) ys → change (xs ++ (ms ++ ys)) ≡ xs ++ (change ms ++ ys)) where
  leaf_law : (fits : Type 0) → (fits → (length new ≤ 17) ⊎ (length new ≤ count n.content)) → Changed nodes (put_node nodes p (with_content n (Leaf new))) roots w t change fits
  leaf_law fits small = record {
    kept = leaf_kept nodes roots w f t p n es new a.chained a.live leaf a.not_merging holds;
    here = leaf_contents nodes roots w f t p n es new a.chained a.live leaf a.not_merging holds change k within is middle;
    others = leaf_else nodes roots w f t p n es new a.chained a.live leaf a.not_merging holds;
    keeps = leaf_keeps nodes roots w f t p n es new a.chained a.live leaf a.not_merging holds;
    sized = λ e z. elim (small e) [
      | inl l ↦ leaf_sized nodes roots w f t p n es new a.chained a.live leaf a.not_merging holds l z
      | inr l ↦ leaf_shrinks nodes roots w f t p n es new a.chained a.live leaf a.not_merging holds l z
    ];
    grows = λ e. elim (small e) [
      | inl l ↦ leaf_grows nodes roots w f t p n es new a.chained a.live leaf a.not_merging holds l
      | inr l ↦ leaf_grows_not nodes roots w f t p n es new a.chained a.live leaf a.not_merging holds l
    ];
  }

pub set_law : SetLaw
set_law nodes roots w f t p n k v a within =
    let b = leaf_at f t p n a.chained a.live in
    let holds : Holds 0 n.lo n.hi (Leaf (put key_cmp k v b.0)) = (is_sorted-put key_cmp key_total k v b.0 b.2.0, each_put (Within n.lo n.hi) k v b.0 within b.2.1) in
    subst (λ c. Changed nodes (put_node nodes p (with_content n (with_pair k v c))) roots w t (put key_cmp k v) (count (with_pair k v c) ≤ 17)) (sym b.1)
    (leaf_law nodes roots w f t p n a b.0 _ b.1 holds (put key_cmp k v) k within refl (put-middle k v) _ (λ e. inl e))

pub del_law : DelLaw
del_law nodes roots w f t p n k a within =
    let b = leaf_at f t p n a.chained a.live in
    let holds : Holds 0 n.lo n.hi (Leaf (without k b.0)) = (is_sorted-where_key key_cmp _ b.0 b.2.0, each_without (Within n.lo n.hi) k b.0 b.2.1) in
    subst (λ c. Changed nodes (put_node nodes p (with_content n (without_key k c))) roots w t (without k) (Unit {0})) (sym b.1)
    (leaf_law nodes roots w f t p n a b.0 _ b.1 holds (without k) k within refl (without-middle k) _ (λ e. inr (subst (λ c. length (without k b.0) ≤ count c) (sym b.1) (length_without_le k b.0))))
