-- The merge of a capped page into its left sibling.
use Rattle.std.proofs.Common.{◌+◌, arith, ◌≡◌, ℕ, suc, ◌≤◌, true, List, [], ◌∷◌, ◌++◌, Option, Some, None, sym, refl, ap, ◌∙◌, subst, inl, inr, ◌⊎◌, append_assoc}
use Rattle.sled_nodes.proofs.Basics.{none_some, some_is}
use Rattle.sled_store.specs.In.{In}
use Rattle.sled_nodes.specs.Node.{pairs, pointers, count}
use Rattle.sled_nodes.specs.Order.{Key, Below}
use Rattle.sled_store.specs.State.{Nodes}
use Rattle.sled_store.specs.theory.Facts.{put_here, put_elsewhere}
use Rattle.sled_nodes.specs.declared.node.Node.{Node}
use Rattle.tree_laws.specs.theory.Action.{put_node, IsReceived}
use Rattle.tree_laws.specs.Forest.{IsSized, Forest, Place, place, Run, IsPointer, WellFormed, node_pairs, head, Tree}
use Rattle.tree_laws.specs.theory.PageLaws.{IsOpenAt, Unseen, ReceiveLaw}
use Rattle.tree_laws.proofs.Order.{below-trans, below_irrefl}
use Rattle.tree_laws.proofs.Runs.{In_split, In-right, In_cases, run_parts, run_to, rises_on}
use Rattle.tree_laws.proofs.Update.{put_chain, chain_here, chain_there}
use Rattle.tree_laws.proofs.Sizes.{replaced_sized, replaced_grows}
use Rattle.tree_laws.proofs.Replace.{same_place, Replaces, replaced_kept, replaced_keeps, pairs_of, pairs_kept, behind_first}
use Rattle.tree_laws.proofs.Split.{halves_count, halves_pairs, halves_pointers, halves_first, pointer_like}
use Rattle.tree_laws.proofs.Cover.{chain_run, parted, not_both_children, holds_at}

module _ {nodes : Nodes} {roots : Tree → Option ℕ} {w : Forest} (f : WellFormed nodes roots w) where
  -- the pages around a page of a chain and its successor
  pub followed : (x : Place) (p c : ℕ) (n : Node) → In p (w.chain x) → nodes p ≡ Some n → n.next ≡ Some c → (xs : List ℕ) × (ys : List ℕ) × (w.chain x ≡ xs ++ (p ∷ (c ∷ ys)))
  followed x p c n i live is =
      let s = In_split (w.chain x) p i in
      go s.0 s.1 s.2 (parted f x p n s.0 s.1 s.2 live).2
    where
      go : (xs zs : List ℕ) → w.chain x ≡ xs ++ (p ∷ zs) → Run nodes zs n.next n.hi None [] → (xs : List ℕ) × (ys : List ℕ) × (w.chain x ≡ xs ++ (p ∷ (c ∷ ys)))
      go xs [] e r = none_some (sym r.0 ∙ is)
      go xs (z ∷ zs) e r = (xs, zs, e ∙ ap (λ k. xs ++ (p ∷ (k ∷ zs))) (some_is (sym r.1.here ∙ is)))

module _ (nodes : Nodes) (roots : Tree → Option ℕ) (w : Forest) (f : WellFormed nodes roots w) (x : Place) (p c : ℕ) (n d both : Node) (o : IsOpenAt nodes w x p n) (next : n.next ≡ Some c) (there : nodes c ≡ Some d) (capped : d.merging ≡ true) (s : IsReceived x.height n d both) where
  around : (xs : List ℕ) × (ys : List ℕ) × (w.chain x ≡ xs ++ (p ∷ (c ∷ ys)))
  around = followed f x p c n o.chained o.live next

  after : Forest
  after = record { chain = put_chain w.chain x (around.0 ++ (p ∷ around.1)); home = w.home }

  c_in : In c (w.chain x)
  c_in = subst (λ z. In c z) (sym around.2) (In-right around.0 _ c (inr (inl refl)))

  c_home : w.home c ≡ Some x
  c_home = f.homed x c c_in

  d_calm : d.merging_child ≡ None
  d_calm = let h = f.page x c c_home in subst (λ (z : Node). z.merging_child ≡ None) (some_is (sym h.1.live ∙ there)) (h.1.calm (subst (λ (z : Node). z.merging ≡ true) (some_is (sym there ∙ h.1.live)) capped))

  run : (to : Option ℕ) (hi : Key) → Run nodes (p ∷ (c ∷ [])) (Some p) n.lo to hi → Run (put_node nodes p both) (p ∷ []) (Some p) n.lo to hi
  run to hi r =
      let np : r.0 ≡ n = some_is (sym r.1.live ∙ o.live) in
      let dc : r.2.0 ≡ d = some_is (sym r.2.1.live ∙ there) in
      let up : Below n.lo d.lo = subst (λ (z : Node). Below n.lo z.lo) dc (subst (λ k. Below n.lo k) r.2.1.lo_is (subst (λ (z : Node). Below z.lo r.0.hi) np (rises_on nodes (c ∷ []) r.0 to hi c (inl refl) r.1.rises r.2))) in
      let late : (d.next ≡ None) ⊎ Below d.lo d.hi = subst (λ (z : Node). (z.next ≡ None) ⊎ Below z.lo z.hi) dc r.2.1.rises in (
        both,
        record {
          live = put_here nodes p (Some both);
          here = refl;
          lo_is = sym s.lo;
          rises = elim late [ inl e ↦ inl (s.next ∙ e) | inr b ↦ inr (subst (λ k. Below k both.hi) (sym s.lo) (subst (λ k. Below n.lo k) (sym s.hi) (below-trans n.lo d.lo d.hi up b))) ];
        },
        (s.next ∙ ap (λ (z : Node). z.next) (sym dc) ∙ r.2.2.0, s.hi ∙ ap (λ (z : Node). z.hi) (sym dc) ∙ r.2.2.1),
      )

  pointer : (t : Tree) (h : ℕ) → x ≡ place t (suc h) → (k : Key) (e : ℕ) → In (k, e) (pointers both.content) → IsPointer nodes w both t h k e
  pointer t h is k e j = elim (In_cases (pointers n.content) (pointers d.content) (k, e) (subst (λ l. In (k, e) l) (halves_pointers _ _ _ s.halves) j)) [
    | inl a ↦ pointer_like nodes w n both t h k e s.merging_child (f.pointer t h p n (subst (λ z. In p (w.chain z)) is o.chained) o.live k e a)
    | inr b ↦ pointer_like nodes w d both t h k e (s.merging_child ∙ o.is_open.free ∙ sym d_calm) (f.pointer t h c d (subst (λ z. In c (w.chain z)) is c_in) there k e b)
  ]

  parts : Replaces nodes (put_node nodes p both) w after x p n both around.0 (c ∷ []) [] around.1
  unfolding after
  parts = record {
    before = around.2;
    after = chain_here w.chain x _;
    elsewhere = chain_there w.chain x _;
    was = o.live;
    now = put_here nodes p (Some both);
    others = λ q. put_elsewhere nodes p q (Some both);
    stays = λ q y h. h;
    comes = λ q y h. inl h;
    adds = λ q h. absurd h;
    goes = λ q h. elim h [ inl e ↦ (d, ap nodes e ∙ there, capped) | inr e ↦ absurd e ];
    run = run;
    lo = s.lo;
    merging_was = o.is_open.not_merging;
    merging = s.merging ∙ o.is_open.not_merging;
    merging_child = s.merging_child;
    sound = s.sound;
    first = sym (halves_first x.height n.lo n.hi _ _ _ s.halves (holds_at f x p n o.chained o.live));
    child = λ e h. none_some (sym (s.merging_child ∙ o.is_open.free) ∙ h);
    pointer = pointer;
  }

  same_pairs : pairs_of (put_node nodes p both) (p ∷ []) ≡ pairs_of nodes (p ∷ (c ∷ []))
  same_pairs =
      ap (λ z. node_pairs z ++ []) (put_here nodes p (Some both)) ∙ ap (λ l. l ++ []) (halves_pairs _ _ _ s.halves) ∙ append_assoc (pairs n.content) (pairs d.content) []
      ∙ sym (ap (λ z. node_pairs z ++ (pairs_of nodes (c ∷ []))) o.live ∙ ap (λ z. pairs n.content ++ (node_pairs z ++ [])) there)

  -- c is no longer in the chain
  c_out : ¬ (In c (after.chain x))
  unfolding after
  c_out j =
      let whole : Run nodes (around.0 ++ (p ∷ (c ∷ around.1))) (head (w.chain x)) [] None [] = subst (λ z. Run nodes z (head (w.chain x)) [] None []) around.2 (chain_run f x p o.chained) in
      let r = run_parts nodes around.0 _ _ _ _ _ whole in
      let np : r.3.0 ≡ n = some_is (sym r.3.1.live ∙ o.live) in
      let behind : (q : ℕ) (e : Node) → In q (c ∷ around.1) → nodes q ≡ Some e → Below r.1 e.lo = behind_first nodes p (c ∷ around.1) _ _ _ _ r.3 in
      let early : Run nodes around.0 (head (w.chain x)) [] (Some p) r.1 = subst (λ g. Run nodes around.0 (head (w.chain x)) [] g r.1) r.3.1.here r.2 in
      let low : Below r.1 d.lo = behind c d (inl refl) there in
      elim (In_cases around.0 (p ∷ around.1) c (subst (λ l. In c l) (chain_here w.chain x _) j)) [
        | inl a ↦ below_irrefl d.lo (below-trans d.lo r.1 d.lo (run_to nodes around.0 _ p _ _ early c d a there) low)
        | inr b ↦ elim b [
          | inl e ↦ below_irrefl d.lo (subst (λ k. Below k d.lo) (r.3.1.lo_is ∙ ap (λ (z : Node). z.lo) (some_is (sym r.3.1.live ∙ ap nodes (sym e) ∙ there))) low)
          | inr g ↦ below_irrefl d.lo (subst (λ k. Below k d.lo) (r.3.2.1.lo_is ∙ ap (λ (z : Node). z.lo) (some_is (sym r.3.2.1.live ∙ there))) (behind_first nodes c around.1 _ _ _ _ r.3.2 c d g there))
        ]
      ]

  -- the page that receives is no merging child itself
  no_child : (q : ℕ) (a : Node) → In q (w.chain (place x.tree (suc x.height))) → nodes q ≡ Some a → a.merging_child ≡ Some p → ⊥
  no_child q a j qa e =
      let h = f.page x c c_home in
      let u = h.1.parent (subst (λ (z : Node). z.merging ≡ true) (some_is (sym there ∙ h.1.live)) capped) in
      not_both_children f x.tree x.height around.0 around.1 p c n d around.2 o.live there o.is_open.not_merging capped q u.0 a u.1 j u.2 qa u.3 e u.4

  -- c was a merging child, so it has at most 17 entries
  joined_few : count n.content ≤ 16 → IsSized nodes w → count both.content ≤ 33
  joined_few fits z =
      let h = f.page x c c_home in
      let u = h.1.parent (subst (λ (z : Node). z.merging ≡ true) (some_is (sym there ∙ h.1.live)) capped) in
      sum (count n.content) (count d.content) (count both.content) fits (z.child (place x.tree (suc x.height)) u.0 c u.1 d u.2 u.3 u.4 there) (halves_count both.content n.content d.content s.halves)
    where
      sum : (a b c : ℕ) → a ≤ 16 → b ≤ 17 → c ≡ a + b → c ≤ 33
      sum a b c p q r = omega arith

  pub received : (u : Unseen [] nodes (put_node nodes p both) roots w (count n.content ≤ 16)) × ((y : Place) → ¬ (In c (u.after.chain y)))
  unfolding after
  received = (
    record {
      after = after;
      kept = replaced_kept parts f;
      same = pairs_kept parts f same_pairs;
      keeps = replaced_keeps parts f [] (λ z h. h);
      sized = λ fits z. replaced_sized parts f (record { fits = joined_few fits z; added_few = λ q a h. absurd h; child = λ q a j qa e. absurd (no_child q a j qa e) }) z;
      grows = λ fits. replaced_grows parts f (inr (inr (c, next, inl refl)));
    },
    λ y j. elim (same_place y x) [
      | inl e ↦ c_out (subst (λ z. In c (after.chain z)) e j)
      | inr off ↦ off (some_is (sym (f.homed y c (subst (λ l. In c l) (chain_there w.chain x _ y off) j)) ∙ c_home))
    ],
  )

pub receive_law : ReceiveLaw
receive_law = received
