-- What stands under an index as it is now: pages that do not merge, keys without a pointer, and the last pointer within a bound.
use Rattle.std.proofs.Common.{◌≡◌, ◌≢◌, ℕ, suc, Bool, true, false, cond, T, is_none, List, [], ◌∷◌, ◌++◌, Option, Some, None, sym, refl, ap, ◌∙◌, subst, inl, inr}
use Rattle.std.proofs.lemmas.Bool.{or_parts}
use Rattle.std.specs.FinMap.{is_sorted}
use Rattle.std.specs.FinMap.Entries.{find, below_all}
use Rattle.std.specs.Ordering.{is_eq}
use Rattle.std.specs.List.{list_any}
use Rattle.std.specs.declared.cmp.Ordering.{Ordering}
use Rattle.std.specs.declared.cmp.Ordering.TheVariants.{Less, Equal, Greater}
use Rattle.std.specs.declared.ops.Bound.{Bound}
use Rattle.sled_nodes.proofs.Basics.{none_some, some_is, true_false, left_of, right_of, less_of, key_same}
use Rattle.sled_nodes.specs.Among.{is_up_to, IsPointer, IsBefore}
use Rattle.sled_nodes.specs.Node.{pointers, Within, after_link}
use Rattle.sled_nodes.specs.Order.{Key, key_cmp, Below, UpTo}
use Rattle.sled_nodes.specs.Posting.{takes_pointer}
use Rattle.sled_nodes.specs.declared.link.Link.TheVariants.{ParentMergeIntention}
use Rattle.sled_nodes.specs.declared.node.Data.{Data}
use Rattle.sled_nodes.specs.declared.node.Data.TheVariants.{Index}
use Rattle.sled_nodes.specs.declared.node.Node.{Node}
use Rattle.sled_store.specs.In.{In}
use Rattle.sled_store.specs.State.{Nodes}
use Rattle.sled_store.specs.theory.Facts.{put_here}
use Rattle.tree_laws.specs.Forest.{Tree, Forest, place, WellFormed, later}
use Rattle.tree_laws.specs.Snapshot.{IsOpen}
use Rattle.tree_laws.specs.theory.Action.{put_node}
use Rattle.tree_laws.proofs.Before.{before_child_law}
use Rattle.tree_laws.proofs.Cover.{holds_at, later_in, one_cover, pointer_within}
use Rattle.tree_laws.proofs.Flags.{index_at, intention_law}
use Rattle.tree_laws.proofs.Inside.{covers_itself}
use Rattle.tree_laws.proofs.Looking.{pointer_in}
use Rattle.tree_laws.proofs.Order.{below_irrefl, upto-below, upto-refl}
use Rattle.tree_laws.proofs.Replace.{not_both}
use Rattle.tree_laws.proofs.Runs.{In_cases}

-- what is found at a key is an entry
found_in : (k : Key) (c : ℕ) (es : List (Key × ℕ)) → find key_cmp k es ≡ Some c → In (k, c) es
found_in k c [] e = none_some e
found_in k c (x ∷ es) e = go (key_cmp k x.0) refl (found_in k c es)
  where
    go : (o : Ordering) → key_cmp k x.0 ≡ o → (find key_cmp k es ≡ Some c → In (k, c) es) → In (k, c) (x ∷ es)
    go Less g more = inr (more (sym (ap (λ z. cond (is_eq z) (Some x.1) (find key_cmp k es)) g) ∙ e))
    go Equal g more =
        let key : k ≡ x.0 = key_same k x.0 g in
        let page : x.1 ≡ c = some_is (sym (ap (λ z. cond (is_eq z) (Some x.1) (find key_cmp k es)) g) ∙ e) in
        inl (λ i. (key i, sym page i))
    go Greater g more = inr (more (sym (ap (λ z. cond (is_eq z) (Some x.1) (find key_cmp k es)) g) ∙ e))

-- an index without a pointer at a key takes one
takes : (k : Key) (d : Data) (es : List (Key × ℕ)) → d ≡ Index es → ((c : ℕ) → In (k, c) (pointers d) → ⊥) → takes_pointer k d ≡ true
takes k d es e none = subst (λ z. takes_pointer k z ≡ true) (sym e) (go (find key_cmp k es) refl)
  where
    go : (o : Option ℕ) → find key_cmp k es ≡ o → is_none (find key_cmp k es) ≡ true
    go None g = ap is_none g
    go (Some c) g = absurd (none c (subst (λ z. In (k, c) (pointers z)) (sym e) (found_in k c es g)))

-- what stands before an entry of a sorted list is below it
sorted_before : (xs : List (Key × ℕ)) (y : Key × ℕ) (ys : List (Key × ℕ)) (k : Key) (c : ℕ) → T (is_sorted key_cmp (xs ++ y ∷ ys)) → In (k, c) xs → Below k y.0
sorted_before [] y ys k c s i = absurd i
sorted_before (x ∷ xs) y ys k c s (inl e) = subst (λ (z : Key × ℕ). Below z.0 y.0) (sym e) (seam xs (left_of _ _ s))
  where
    seam : (zs : List (Key × ℕ)) → T (below_all key_cmp x.0 (zs ++ y ∷ ys)) → Below x.0 y.0
    seam [] p = less_of _ (left_of _ _ p)
    seam (z ∷ zs) p = seam zs (right_of _ _ p)
sorted_before (x ∷ xs) y ys k c s (inr j) = sorted_before xs y ys k c (right_of _ _ s) j

-- no entry that is in passes, where none does
none_passes : (passes : Key × ℕ → Bool) (es : List (Key × ℕ)) (x : Key × ℕ) → list_any passes es ≡ false → In x es → passes x ≡ true → ⊥
none_passes passes [] x e i p = i
none_passes passes (y ∷ es) x e (inl g) p = true_false (sym p ∙ ap passes g ∙ (or_parts (passes y) (list_any passes es) e).0)
none_passes passes (y ∷ es) x e (inr j) p = none_passes passes es x (or_parts (passes y) (list_any passes es) e).1 j p

-- the pointers within a bound are at or below the last of them
pub up_to_last : (bound : Bound Key) (es : List (Key × ℕ)) (c : ℕ) (b : Bool) → T (is_sorted key_cmp es) → (k : IsPointer bound es c b) → (key : Key) (d : ℕ) → In (key, d) es → is_up_to bound key ≡ true → UpTo key k.key
up_to_last bound es c b s k key d i up = elim (In_cases k.last.before ((k.key, c) ∷ k.last.after) (key, d) (subst (λ z. In (key, d) z) k.last.is i)) [
  | inl a ↦ upto-below key k.key (sorted_before k.last.before (k.key, c) k.last.after key d (subst (λ z. T (is_sorted key_cmp z)) k.last.is s) a)
  | inr r ↦ elim r [
    | inl e ↦ subst (λ (z : Key × ℕ). UpTo key z.0) e (upto-refl key)
    | inr a ↦ absurd (none_passes (λ e. is_up_to bound e.0) k.last.after (key, d) k.last.none a up)
  ]
]

module _ {nodes : Nodes} {roots : Tree → Option ℕ} {w : Forest} (f : WellFormed nodes roots w) where
  -- a merging page of a level is the merging child of the index that covers its beginning
  pub its_parent : (t : Tree) (h p q : ℕ) (n d : Node) → In p (w.chain (place t (suc h))) → nodes p ≡ Some n → In q (w.chain (place t h)) → nodes q ≡ Some d → d.merging ≡ true → Within n.lo n.hi d.lo → n.merging_child ≡ Some q
  its_parent t h p q n d i live j there merging within =
      let b = f.page (place t h) q (f.homed (place t h) q j) in
      let up = b.1.parent (subst (λ (z : Node). z.merging ≡ true) (some_is (sym there ∙ b.1.live)) merging) in
      let k = f.child (place t (suc h)) up.0 up.1 up.2 up.3 q up.4 in
      let a = f.pointer t h up.0 up.1 up.2 up.3 k.0 q (later_in up.1.content k.0 q k.1) in
      let key : k.0 ≡ d.lo = sym a.key ∙ ap (λ (z : Node). z.lo) (some_is (sym a.live ∙ there)) in
      let same : p ≡ up.0 = one_cover f (place t (suc h)) p up.0 n up.1 d.lo i up.2 live up.3 within
      (subst (λ z. Within up.1.lo up.1.hi z) key (pointer_within h up.1.lo up.1.hi up.1.content (holds_at f (place t (suc h)) up.0 up.1 up.2 up.3) k.0 q (later_in up.1.content k.0 q k.1))) in
      one up.0 up.1 same up.3 up.4
    where
      one : (r : ℕ) (m : Node) → p ≡ r → nodes r ≡ Some m → m.merging_child ≡ Some q → n.merging_child ≡ Some q
      one r m e is child = subst (λ (z : Node). z.merging_child ≡ Some q) (some_is (sym is ∙ ap nodes (sym e) ∙ live)) child

  -- so under an open one none merges
  pub awake_under : (t : Tree) (h p q : ℕ) (n d : Node) → In p (w.chain (place t (suc h))) → nodes p ≡ Some n → n.merging_child ≢ Some q → In q (w.chain (place t h)) → nodes q ≡ Some d → Within n.lo n.hi d.lo → d.merging ≡ false
  awake_under t h p q n d i live off j there within = go d.merging refl
    where
      go : (b : Bool) → d.merging ≡ b → d.merging ≡ false
      go false e = e
      go true e = absurd (off (its_parent t h p q n d i live j there e within))

  -- an open index takes a pointer at a key at which it has none,
  pub takes_at : (t : Tree) (h p : ℕ) (n : Node) (k : Key) → In p (w.chain (place t (suc h))) → nodes p ≡ Some n → ((c : ℕ) → In (k, c) (pointers n.content) → ⊥) → takes_pointer k n.content ≡ true
  takes_at t h p n k i live none = let es = index_at f t h p n i live in takes k n.content es.0 es.1 none

  -- as at one where a page of the level below goes on
  pub takes_within : (t : Tree) (h p q : ℕ) (n d : Node) (k : Key) → In p (w.chain (place t (suc h))) → nodes p ≡ Some n → n.merging_child ≡ None → In q (w.chain (place t h)) → nodes q ≡ Some d → Below d.lo k → Within d.lo d.hi k → takes_pointer k n.content ≡ true
  takes_within t h p q n d k i live free j there above within = takes_at t h p n k i live (λ c l.
      let a = pointer_in f t h p n k c i live l (λ e. none_some (sym free ∙ e)) in
      let same : q ≡ c = one_cover f (place t h) q c d a.0 k j a.1 there a.2 within (subst (λ z. Within a.0.lo a.0.hi z) a.3 (covers_itself f (place t h) c a.0 a.1 a.2)) in
      below_irrefl k (subst (λ z. Below z k) (ap (λ (z : Node). z.lo) (some_is (sym there ∙ ap nodes same ∙ a.2)) ∙ a.3) above))

  -- a later pointer of an open index has one before it
  pub has_before : (t : Tree) (h p : ℕ) (n : Node) (k : Key) (c : ℕ) → In p (w.chain (place t (suc h))) → nodes p ≡ Some n → IsOpen n → In (k, c) (later (pointers n.content)) → (b : ℕ) × IsBefore c (pointers n.content) b
  has_before t h p n k c i live calm j =
      let es = index_at f t h p n i live in
      let u = intention_law nodes roots w f t h p c n k (record { chained = i; live = live; is_open = calm }) j in
      let m : Node = after_link (ParentMergeIntention c) n in
      let now : put_node nodes p m p ≡ Some m = put_here nodes p (Some m) in
      let there = u.keeps.stood (place t (suc h)) p n (λ e. none_some e) i live in
      let same : there.0 ≡ m = some_is (sym there.1 ∙ now) in
      let chained : In p (u.after.chain (place t (suc h))) = elim there.3 [ inl a ↦ a | inr b ↦ not_both n.merging calm.not_merging (subst (λ (z : Node). z.merging ≡ true) same b) ] in
      let child : m.merging_child ≡ Some c = subst (λ d. (after_link (ParentMergeIntention c) (record n { content = d })).merging_child ≡ Some c) (sym es.1) refl in
      (before_child_law (put_node nodes p m) roots u.after u.kept t h p m c chained now child).0
