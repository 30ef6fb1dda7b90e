-- The flags of a merge: intention, cap, confirm.
use Rattle.std.proofs.Common.{◌≡◌, ◌≢◌, ℕ, suc, ◌≤◌, true, false, cond, not, nat_eq, T, List, [], ◌∷◌, length, Option, Some, None, sym, refl, ap, ◌∙◌, subst, inl, inr, arith, le_refl}
use Rattle.std.proofs.lemmas.Bool.Decides.{nat_tests}
use Rattle.std.specs.List.{AllByRecursion}
use Rattle.std.specs.FinMap.{is_sorted}
use Rattle.std.specs.FinMap.Entries.{below_all}
use Rattle.sled_nodes.proofs.Basics.{none_some, some_is, left_of, right_of, both_of, same_or_not}
use Rattle.sled_store.specs.In.{In}
use Rattle.sled_nodes.specs.Node.{Within, pairs, pointers, count, unpointed, after_link, after_intention, after_confirm}
use Rattle.sled_nodes.specs.Order.{Key, key_cmp, Below}
use Rattle.sled_store.specs.State.{Nodes}
use Rattle.sled_store.specs.Update.{put_at}
use Rattle.sled_store.specs.theory.Facts.{put_here, put_elsewhere}
use Rattle.sled_nodes.specs.declared.node.Data.TheVariants.{Leaf, Index}
use Rattle.sled_nodes.specs.declared.node.Data.{Data}
use Rattle.sled_nodes.specs.declared.link.Link.TheVariants.{ParentMergeConfirm}
use Rattle.sled_nodes.specs.declared.node.Node.{Node}
use Rattle.tree_laws.specs.theory.Action.{put_node}
use Rattle.tree_laws.specs.Forest.{first_key, first_child, later, Holds, Forest, Place, place, IsPointer, WellFormed, Tree}
use Rattle.tree_laws.specs.Snapshot.{IsOrphan}
use Rattle.tree_laws.specs.theory.PageLaws.{Unseen, CapLaw, IntentionLaw, ConfirmLaw}
use Rattle.tree_laws.proofs.Order.{below_irrefl}
use Rattle.tree_laws.proofs.Replace.{not_both, place_below}
use Rattle.tree_laws.proofs.Split.{pointer_like}
use Rattle.tree_laws.proofs.Cover.{holds_at, later_in, later_above}
use Rattle.tree_laws.proofs.Reflag.{Reflags, reflagged}

pub cap_law : CapLaw
cap_law nodes roots w f x p n o q d j up is =
    let free = o.is_open.free in
    let r : Reflags nodes w w.home x p n true n.merging_child n.content = record {
      chained = o.chained;
      was = o.live;
      holds = holds_at f x p n o.chained o.live;
      smaller = le_refl _;
      not_merging = o.is_open.not_merging;
      calm = λ t. free;
      parent = λ t. (q, d, j, up, is);
      comes = λ z y e. e;
      stays = λ z y e. inl e;
      keeps_child = λ c y h e. e;
      first = refl;
      child = λ c e. none_some (sym free ∙ e);
      pointer = λ t h at k c m. let i = f.pointer t h p n (subst (λ z. In p (w.chain z)) at o.chained) o.live k c m in (pointer_like nodes w n _ t h k c refl i, i.homed);
    } in
    reflagged r f refl (λ u c d e. none_some (sym free ∙ e))

intended_some : (t : Tree) (h : ℕ) (lo hi : Key) (c : Data) (d : ℕ) (before : Option ℕ) → Holds (suc h) lo hi c → after_intention c d before ≡ Some d
intended_some t h lo hi (Leaf es) d before s = absurd s
intended_some t h lo hi (Index es) d before s = refl

pub intention_law : IntentionLaw
intention_law nodes roots w f t h p c n k o j =
    let not_merging = o.is_open.not_merging in
    let free = o.is_open.free in
    let holds = holds_at f (place t (suc h)) p n o.chained o.live in
    let child_now = after_intention n.content c n.merging_child in
    let child_is : child_now ≡ Some c = intended_some t h n.lo n.hi n.content c n.merging_child holds in
    let r : Reflags nodes w w.home (place t (suc h)) p n n.merging child_now n.content = record {
      chained = o.chained;
      was = o.live;
      holds = holds;
      smaller = le_refl _;
      not_merging = not_merging;
      calm = λ u. not_both n.merging not_merging u;
      parent = λ u. not_both n.merging not_merging u;
      comes = λ z y e. e;
      stays = λ z y e. inl e;
      keeps_child = λ d y g e. none_some (sym free ∙ e);
      first = refl;
      child = λ d e. (k, subst (λ z. In (k, z) (later (pointers n.content))) (some_is (sym child_is ∙ e)) j);
      pointer = λ u g at l d b.
          let i = f.pointer u g p n (subst (λ z. In p (w.chain z)) at o.chained) o.live l d b in
          (record { node = i.node; live = i.live; homed = i.homed; key = i.key; merged = λ v. none_some (sym free ∙ i.merged v) }, i.homed);
    } in
    reflagged r f refl (λ small d b e at. small b (ap nodes (some_is (sym child_is ∙ e)) ∙ at))

-- what a filter of pointers keeps
sub_in : (c : ℕ) (es : List (Key × ℕ)) (k : Key) (d : ℕ) → In (k, d) (unpointed c es) → In (k, d) es × (d ≢ c)
sub_in c [] k d i = absurd i
sub_in c (e ∷ es) k d i =
    (elim (nat_eq e.1 c) as (λ b. nat_eq e.1 c ≡ b → In (k, d) (cond (not b) (e ∷ unpointed c es) (unpointed c es)) → In (k, d) (e ∷ es) × (d ≢ c)) [
      | true ↦ λ g j. let o = sub_in c es k d j in (inr o.0, o.1)
      | false ↦ λ g j. elim j [
        | inl a ↦ (inl a, λ s. other (ap (λ z. nat_eq z c) (sym (ap (λ (z : Key × ℕ). z.1) a) ∙ s) ∙ refl) g)
        | inr a ↦ let o = sub_in c es k d a in (inr o.0, o.1)
      ]
    ]) refl i
  where
    other : nat_eq e.1 c ≡ nat_eq c c → nat_eq e.1 c ≡ false → ⊥
    other a b = grind (arith, nat_tests)

keeps_in : (c : ℕ) (es : List (Key × ℕ)) (k : Key) (d : ℕ) → In (k, d) es → d ≢ c → In (k, d) (unpointed c es)
keeps_in c [] k d i off = absurd i
keeps_in c (e ∷ es) k d i off =
    (elim (nat_eq e.1 c) as (λ b. nat_eq e.1 c ≡ b → In (k, d) (cond (not b) (e ∷ unpointed c es) (unpointed c es))) [
      | true ↦ λ g. elim i [ inl a ↦ absurd (same (ap (λ (z : Key × ℕ). z.1) a) g) | inr a ↦ keeps_in c es k d a off ]
      | false ↦ λ g. elim i [ inl a ↦ inl a | inr a ↦ inr (keeps_in c es k d a off) ]
    ]) refl
  where
    same : d ≡ e.1 → nat_eq e.1 c ≡ true → ⊥
    same a b = grind (arith, nat_tests)

length_unpointed : (c : ℕ) (es : List (Key × ℕ)) → length (unpointed c es) ≤ length es
length_unpointed c [] = le_refl _
length_unpointed c (e ∷ es) =
    let h = length_unpointed c es in
    elim (not (nat_eq e.1 c)) as (λ b. length (cond b (e ∷ unpointed c es) (unpointed c es)) ≤ length (e ∷ es)) [ true ↦ omega arith | false ↦ omega arith ]

each_unpointed : (P : Key → Type 0) (c : ℕ) (es : List (Key × ℕ)) → AllByRecursion (λ e. P e.0) es → AllByRecursion (λ e. P e.0) (unpointed c es)
each_unpointed P c [] a = tt
each_unpointed P c (e ∷ es) a = elim (not (nat_eq e.1 c)) as (λ b. AllByRecursion (λ e. P e.0) (cond b (e ∷ unpointed c es) (unpointed c es))) [ true ↦ (a.0, each_unpointed P c es a.1) | false ↦ each_unpointed P c es a.1 ]

below_unpointed : (k : Key) (c : ℕ) (es : List (Key × ℕ)) → T (below_all key_cmp k es) → T (below_all key_cmp k (unpointed c es))
below_unpointed k c [] h = tt
below_unpointed k c (e ∷ es) h =
    let rest = below_unpointed k c es (right_of _ _ h) in
    elim (not (nat_eq e.1 c)) as (λ b. T (below_all key_cmp k (cond b (e ∷ unpointed c es) (unpointed c es)))) [ true ↦ both_of _ _ (left_of _ _ h) rest | false ↦ rest ]

sorted_unpointed : (c : ℕ) (es : List (Key × ℕ)) → T (is_sorted key_cmp es) → T (is_sorted key_cmp (unpointed c es))
sorted_unpointed c [] h = tt
sorted_unpointed c (e ∷ es) h =
    let rest = sorted_unpointed c es (right_of _ _ h) in
    elim (not (nat_eq e.1 c)) as (λ b. T (is_sorted key_cmp (cond b (e ∷ unpointed c es) (unpointed c es)))) [ true ↦ both_of _ _ (below_unpointed e.0 c es (left_of _ _ h)) rest | false ↦ rest ]

-- the first pointer stays, if it leads elsewhere
first_stays : (c : ℕ) (lo : Key) (es : List (Key × ℕ)) → first_key es ≡ Some lo → ((d : ℕ) → first_child es ≡ Some d → d ≢ c) → (first_key (unpointed c es) ≡ Some lo) × (first_child (unpointed c es) ≡ first_child es)
first_stays c lo [] e off = none_some e
first_stays c lo (a ∷ es) e off =
    (elim (nat_eq a.1 c) as (λ b. nat_eq a.1 c ≡ b → (first_key (cond (not b) (a ∷ unpointed c es) (unpointed c es)) ≡ Some lo) × (first_child (cond (not b) (a ∷ unpointed c es) (unpointed c es)) ≡ Some a.1)) [
      | true ↦ λ g. absurd (off a.1 refl (yes g))
      | false ↦ λ g. (e, refl)
    ]) refl
  where
    yes : nat_eq a.1 c ≡ true → a.1 ≡ c
    yes g = grind (arith, nat_tests)

holds_unpointed : (h : ℕ) (lo hi : Key) (c : ℕ) (es : List (Key × ℕ)) → Holds (suc h) lo hi (Index es) → ((d : ℕ) → first_child es ≡ Some d → d ≢ c) → Holds (suc h) lo hi (Index (unpointed c es))
holds_unpointed h lo hi c es s off = (sorted_unpointed c es s.0, each_unpointed (Within lo hi) c es s.1, (first_stays c lo es s.2 off).0)

module _ (nodes : Nodes) (roots : Tree → Option ℕ) (w : Forest) (f : WellFormed nodes roots w) (t : Tree) (h p c : ℕ) (n : Node) (es : List (Key × ℕ)) (i : In p (w.chain (place t (suc h)))) (live : nodes p ≡ Some n) (not_merging : n.merging ≡ false) (has : n.merging_child ≡ Some c) (index : n.content ≡ Index es) (out : ¬ (In c (w.chain (place t h)))) where
  holds : Holds (suc h) n.lo n.hi (Index es)
  holds = subst (λ z. Holds (suc h) n.lo n.hi z) index (holds_at f (place t (suc h)) p n i live)

  own : (k : Key) (d : ℕ) → In (k, d) es → IsPointer nodes w n t h k d
  own k d j = f.pointer t h p n i live k d (subst (λ z. In (k, d) (pointers z)) (sym index) j)

  -- the later pointer to c
  at_c : (k : Key) × In (k, c) (later es)
  at_c = let g = f.child _ p n i live c has in (g.0, subst (λ z. In (g.0, c) (later (pointers z))) index g.1)

  c_pointer : IsPointer nodes w n t h at_c.0 c
  c_pointer = own at_c.0 c (later_in (Index es) at_c.0 c at_c.1)

  first_off : (d : ℕ) → first_child es ≡ Some d → d ≢ c
  first_off d e is =
      let j : In (n.lo, d) es = first_in es n.lo d holds.2 e in
      let a = own n.lo d j in
      let same : n.lo ≡ at_c.0 = sym a.key ∙ ap (λ (z : Node). z.lo) (some_is (sym a.live ∙ ap nodes is ∙ c_pointer.live)) ∙ c_pointer.key in
      below_irrefl n.lo (subst (λ z. Below n.lo z) (sym same) (later_above h n.lo n.hi (Index es) holds at_c.0 c at_c.1))
    where
      first_in : (es : List (Key × ℕ)) (k : Key) (d : ℕ) → first_key es ≡ Some k → first_child es ≡ Some d → In (k, d) es
      first_in [] k d a b = none_some a
      first_in (e ∷ es) k d a b = inl (pair (some_is a) (some_is b))
        where
          pair : e.0 ≡ k → e.1 ≡ d → (k, d) ≡ e
          pair u v = λ i. (sym u i, sym v i)

  abbrev dropped : Node
  dropped = record n { merging_child = None; content = Index (unpointed c es) }

  home : ℕ → Option Place
  home = put_at w.home c None

  home_c : home c ≡ None
  unfolding home
  home_c = put_here w.home c None

  home_other : (d : ℕ) → d ≢ c → home d ≡ w.home d
  unfolding home
  home_other d off = put_elsewhere w.home c d None off

  parts : Reflags nodes w home (place t (suc h)) p n n.merging None (Index (unpointed c es))
  parts = record {
    chained = i;
    was = live;
    holds = holds_unpointed h n.lo n.hi c es holds first_off;
    smaller = subst (λ z. length (unpointed c es) ≤ count z) (sym index) (length_unpointed c es);
    not_merging = not_merging;
    calm = λ u. refl;
    parent = λ u. not_both n.merging not_merging u;
    comes = λ q y e. elim (same_or_not q c) [ inl a ↦ none_some (sym (ap home a ∙ home_c) ∙ e) | inr a ↦ sym (home_other q a) ∙ e ];
    stays = λ q y e. elim (same_or_not q c) [
      | inl a ↦ inr (has ∙ ap Some (sym a), λ j. out (subst (λ z. In z (w.chain (place t h))) a (subst (λ z. In q (w.chain z)) (some_is (sym e ∙ ap w.home a ∙ c_pointer.homed)) j)))
      | inr a ↦ inl (home_other q a ∙ e)
    ];
    keeps_child = λ d y e g. none_some (sym (ap home (some_is (sym g ∙ has)) ∙ home_c) ∙ e);
    first = (first_stays c n.lo es holds.2 first_off).1 ∙ ap (λ z. first_child (pointers z)) (sym index);
    child = λ d e. none_some e;
    pointer = λ u g at k d j.
        let o = sub_in c es k d j in
        let same : place t h ≡ place u g = place_below t u h g at in
        let a : IsPointer nodes w n u g k d = subst (λ (z : Place). IsPointer nodes w n z.tree z.height k d) same (own k d o.0) in (
          record {
            node = a.node;
            live = a.live;
            homed = a.homed;
            key = a.key;
            merged = λ v. absurd (o.1 (some_is (sym (a.merged v) ∙ has)));
          },
          home_other d o.1 ∙ a.homed,
        );
  }

  pub unlinked : (u : Unseen [] nodes (put_node nodes p dropped) roots w (Unit {0})) × IsOrphan u.after c
  unlinked = (reflagged parts f (sym (ap pairs index)) (λ u d b e. none_some e), λ y e. none_some (sym home_c ∙ e))

-- an index's content
index_is : (h : ℕ) (lo hi : Key) (c : Data) → Holds (suc h) lo hi c → (es : List (Key × ℕ)) × (c ≡ Index es)
index_is h lo hi (Leaf es) s = absurd s
index_is h lo hi (Index es) s = (es, refl)

pub index_at : {nodes : Nodes} {roots : Tree → Option ℕ} {w : Forest} (f : WellFormed nodes roots w) (t : Tree) (h p : ℕ) (n : Node) → In p (w.chain (place t (suc h))) → nodes p ≡ Some n → (es : List (Key × ℕ)) × (n.content ≡ Index es)
index_at f t h p n i live = index_is h n.lo n.hi n.content (holds_at f (place t (suc h)) p n i live)

pub confirm_law : ConfirmLaw
confirm_law nodes roots w f t h p c n i live not_merging has out =
    let b = index_at f t h p n i live in
    let same : record n { merging_child = None; content = Index (unpointed c b.0) } ≡ after_link ParentMergeConfirm n =
    ap (λ (z : Data × Option ℕ). record n { content = z.0; merging_child = z.1 }) (sym (ap (λ z. after_confirm z n.merging_child) b.1 ∙ ap (after_confirm (Index b.0)) has)) in
    subst (λ (m : Node). (u : Unseen [] nodes (put_node nodes p m) roots w (Unit {0})) × IsOrphan u.after c) same (unlinked nodes roots w f t h p c n b.0 i live not_merging has b.1 out)
