-- One page of a chain changes its flags or its pointers, and keeps its bounds and its successor. A page may lose its place.
use Rattle.std.proofs.Common.{Bool, ◌≡◌, ◌≢◌, ℕ, suc, ◌≤◌, true, false, List, [], ◌∷◌, Option, Some, None, sym, refl, ap, ◌∙◌, subst, inl, inr, ◌⊎◌, arith, le_trans, le_of_eq}
use Rattle.sled_nodes.proofs.Basics.{some_is, same_or_not}
use Rattle.sled_store.specs.In.{In}
use Rattle.sled_nodes.specs.Node.{pairs, pointers, count}
use Rattle.sled_nodes.specs.Order.{Key, Below}
use Rattle.sled_store.specs.State.{Nodes}
use Rattle.sled_store.specs.theory.Facts.{put_here, put_elsewhere}
use Rattle.sled_nodes.specs.declared.node.Data.{Data}
use Rattle.sled_nodes.specs.declared.node.Node.{Node}
use Rattle.tree_laws.specs.theory.Action.{put_node}
use Rattle.tree_laws.specs.theory.PageLaws.{Unseen}
use Rattle.tree_laws.specs.Forest.{first_child, later, Holds, IsNodeAt, Forest, Place, place, Run, IsHomed, IsPointer, WellFormed, IsSized, contents, node_pairs, head, Tree}
use Rattle.tree_laws.specs.theory.Snapshot.{KeepsNodes, GrowsByReceiving}
use Rattle.tree_laws.proofs.Replace.{not_both, pairs_of}
use Rattle.tree_laws.proofs.Cover.{later_in, one_parent, child_below}

pub record Reflags (nodes : Nodes) (w : Forest) (home : ℕ → Option Place) (x : Place) (p : ℕ) (n : Node) (merging : Bool) (merging_child : Option ℕ) (content : Data) : Type 0 where
  pub chained : In p (w.chain x)
  pub was : nodes p ≡ Some n
  pub holds : Holds x.height n.lo n.hi content
  pub smaller : count content ≤ count n.content
  pub not_merging : n.merging ≡ false
  pub calm : merging ≡ true → merging_child ≡ None
  pub parent : merging ≡ true → (q : ℕ) × (d : Node) × In q (w.chain (place x.tree (suc x.height))) × (nodes q ≡ Some d) × (d.merging_child ≡ Some p)
  pub comes : (q : ℕ) (y : Place) → home q ≡ Some y → w.home q ≡ Some y
  -- a page that loses its place was the merging child, and in no chain
  pub stays : (q : ℕ) (y : Place) → w.home q ≡ Some y → (home q ≡ Some y) ⊎ ((n.merging_child ≡ Some q) × (In q (w.chain y) → ⊥))
  pub keeps_child : (c : ℕ) (y : Place) → home c ≡ Some y → n.merging_child ≡ Some c → merging_child ≡ Some c
  pub first : first_child (pointers content) ≡ first_child (pointers n.content)
  pub child : (c : ℕ) → merging_child ≡ Some c → (k : Key) × In (k, c) (later (pointers content))
  pub pointer : (t : Tree) (h : ℕ) → x ≡ place t (suc h) → (k : Key) (c : ℕ) → In (k, c) (pointers content) → IsPointer nodes w (record n { merging = merging; merging_child = merging_child; content = content }) t h k c × (home c ≡ Some (place t h))

module _ {nodes : Nodes} {roots : Tree → Option ℕ} {w : Forest} {home : ℕ → Option Place} {x : Place} {p : ℕ} {n : Node} {merging : Bool} {merging_child : Option ℕ} {content : Data} (r : Reflags nodes w home x p n merging merging_child content) (f : WellFormed nodes roots w) where
  abbrev pub m : Node
  m = record n { merging = merging; merging_child = merging_child; content = content }

  abbrev pub new : Nodes
  new = put_node nodes p m

  now : new p ≡ Some m
  now = put_here nodes p (Some m)

  others : (q : ℕ) → q ≢ p → new q ≡ nodes q
  others q = put_elsewhere nodes p q (Some m)

  abbrev pub after : Forest
  after = record { chain = w.chain; home = home }

  p_home : w.home p ≡ Some x
  p_home = f.homed x p r.chained

  stays_chained : (y : Place) (q : ℕ) → In q (w.chain y) → home q ≡ Some y
  stays_chained y q i = elim (r.stays q y (f.homed y q i)) [ inl a ↦ a | inr b ↦ absurd (b.1 i) ]

  is_n : (q : ℕ) (d : Node) → q ≡ p → nodes q ≡ Some d → d ≡ n
  is_n q d e live = some_is (sym live ∙ ap nodes e ∙ r.was)

  is_m : (q : ℕ) (d : Node) → q ≡ p → new q ≡ Some d → d ≡ m
  is_m q d e live = some_is (sym live ∙ ap new e ∙ now)

  parent_on : (q c : ℕ) (d : Node) (y : Place) → home c ≡ Some y → nodes q ≡ Some d → d.merging_child ≡ Some c → (e : Node) × (new q ≡ Some e) × (e.merging_child ≡ Some c)
  parent_on q c d y h live is = elim (same_or_not q p) [
    | inl e ↦ (m, ap new e ∙ now, r.keeps_child c y h (subst (λ (z : Node). z.merging_child ≡ Some c) (is_n q d e live) is))
    | inr e ↦ (d, others q e ∙ live, is)
  ]

  page_on : (y : Place) (q : ℕ) → home q ≡ Some y → (d : Node) × IsHomed new after q y d
  page_on y q h = elim (same_or_not q p) [
    | inl e ↦
        let is : x ≡ y = some_is (sym p_home ∙ ap w.home (sym e) ∙ r.comes q y h) in (
          m,
          record {
            live = ap new e ∙ now;
            sound = subst (λ (z : Place). IsNodeAt z.height m) is (record { holds = r.holds });
            stands = inl (subst (λ z. In q (w.chain z)) is (subst (λ z. In z (w.chain x)) (sym e) r.chained));
            calm = r.calm;
            parent = λ t. let u = r.parent t in let o = parent_on u.0 q u.1 y h u.3 (u.4 ∙ ap Some (sym e)) in
                (u.0, o.0, subst (λ (z : Place). In u.0 (w.chain (place z.tree (suc z.height)))) is u.2, o.1, o.2);
          },
        )
    | inr e ↦
        let i = f.page y q (r.comes q y h) in (
          i.0,
          record {
            live = others q e ∙ i.1.live;
            sound = i.1.sound;
            stands = i.1.stands;
            calm = i.1.calm;
            parent = λ t. let u = i.1.parent t in let o = parent_on u.0 q u.1 y h u.3 u.4 in (u.0, o.0, u.2, o.1, o.2);
          },
        )
  ]

  run_same : (ps : List ℕ) (from to : Option ℕ) (lo hi : Key) → Run nodes ps from lo to hi → Run new ps from lo to hi
  run_same [] from to lo hi a = a
  run_same (q ∷ ps) from to lo hi a = elim (same_or_not q p) [
    | inl e ↦
        let is = is_n q a.0 e a.1.live in (
          m,
          record {
            live = ap new e ∙ now;
            here = a.1.here;
            lo_is = a.1.lo_is ∙ ap (λ (z : Node). z.lo) is;
            rises = subst (λ (z : Node). (z.next ≡ None) ⊎ Below z.lo z.hi) is a.1.rises;
          },
          subst (λ (z : Node). Run new ps z.next z.hi to hi) is (run_same ps _ to _ hi a.2),
        )
    | inr e ↦ (a.0, record { live = others q e ∙ a.1.live; here = a.1.here; lo_is = a.1.lo_is; rises = a.1.rises }, run_same ps _ to _ hi a.2)
  ]

  -- whoever points to p has it for its merging child, if p is merging now
  told : (t : Tree) (h q k' : ℕ) (d : Node) (k : Key) → In q (w.chain (place t (suc h))) → nodes q ≡ Some d → In (k, p) (pointers d.content) → x ≡ place t h → m.merging ≡ true → d.merging_child ≡ Some p
  told t h q k' d k i live j is u =
      let o = r.parent u in
      let up : In o.0 (w.chain (place t (suc h))) = subst (λ (z : Place). In o.0 (w.chain (place z.tree (suc z.height)))) is o.2 in
      let b = f.child _ o.0 o.1 up o.3 p o.4 in
      let e : q ≡ o.0 = one_parent f t h q o.0 p d o.1 k b.0 i up live o.3 j (later_in o.1.content b.0 p b.1) in
      subst (λ (z : Node). z.merging_child ≡ Some p) (some_is (sym o.3 ∙ ap nodes (sym e) ∙ live)) o.4

  pointed : (t : Tree) (h q : ℕ) (d : Node) (k : Key) (c : ℕ) → In q (w.chain (place t (suc h))) → nodes q ≡ Some d → In (k, c) (pointers d.content) → IsPointer nodes w d t h k c → home c ≡ Some (place t h) → IsPointer new after d t h k c
  pointed t h q d k c i live j a there = elim (same_or_not c p) [
    | inl e ↦
        let is = is_n c a.node e a.live in
        let at : x ≡ place t h = some_is (sym p_home ∙ ap w.home (sym e) ∙ a.homed) in
        record {
          node = m;
          live = ap new e ∙ now;
          homed = there;
          key = ap (λ (z : Node). z.lo) (sym is) ∙ a.key;
          merged = λ u. told t h q 0 d k i live (subst (λ z. In (k, z) (pointers d.content)) e j) at u ∙ ap Some (sym e);
        }
    | inr e ↦ record { node = a.node; live = others c e ∙ a.live; homed = there; key = a.key; merged = a.merged }
  ]

  own : (t : Tree) (h : ℕ) (k : Key) (c : ℕ) → x ≡ place t (suc h) → In (k, c) (pointers m.content) → IsPointer new after m t h k c
  own t h k c is j =
      let a = r.pointer t h is k c j in
      let e : c ≢ p = λ g. heights (ap (λ (z : Place). z.height) (sym is ∙ some_is (sym p_home ∙ ap w.home (sym g) ∙ a.0.homed))) in
      record { node = a.0.node; live = others c e ∙ a.0.live; homed = a.1; key = a.0.key; merged = a.0.merged }
    where
      heights : suc h ≡ h → ⊥
      heights e = omega arith

  pointer_new : (t : Tree) (h q : ℕ) (d : Node) → In q (w.chain (place t (suc h))) → new q ≡ Some d → (k : Key) (c : ℕ) → In (k, c) (pointers d.content) → IsPointer new after d t h k c
  pointer_new t h q d i live k c j = elim (same_or_not q p) [
    | inl e ↦
        let is = is_m q d e live in
        let at : x ≡ place t (suc h) = some_is (sym p_home ∙ ap w.home (sym e) ∙ f.homed _ q i) in
        subst (λ (z : Node). IsPointer new after z t h k c) (sym is) (own t h k c at (subst (λ (z : Node). In (k, c) (pointers z.content)) is j))
    | inr e ↦
        let old : nodes q ≡ Some d = sym (others q e) ∙ live in
        let a = f.pointer t h q d i old k c j in
        pointed t h q d k c i old j a (elim (r.stays c _ a.homed) [
          | inl b ↦ b
          | inr b ↦
              let at : In p (w.chain (place t (suc h))) = up p c n b.0 r.chained r.was (a.homed) in
              let g = f.child _ p n at r.was c b.0 in
              absurd (e (one_parent f t h q p c d n k g.0 i at old r.was j (later_in n.content g.0 c g.1)))
        ])
  ]
    where
      -- who has c for its merging child stands one level above it
      up : (s e : ℕ) (a : Node) → a.merging_child ≡ Some e → In s (w.chain x) → nodes s ≡ Some a → w.home e ≡ Some (place t h) → In s (w.chain (place t (suc h)))
      up s e a is j b there =
          let g = child_below f x s a e j b is in
          let same : place x.tree g.0 ≡ place t h = some_is (sym g.4.homed ∙ there) in
          subst (λ (z : Place). In s (w.chain (place z.tree (suc z.height)))) same (subst (λ z. In s (w.chain z)) g.1 j)

  child_new : (y : Place) (q : ℕ) (d : Node) → In q (w.chain y) → new q ≡ Some d → (c : ℕ) → d.merging_child ≡ Some c → (k : Key) × In (k, c) (later (pointers d.content))
  child_new y q d i live c j = elim (same_or_not q p) [
    | inl e ↦ let is = is_m q d e live in subst (λ (z : Node). (k : Key) × In (k, c) (later (pointers z.content))) (sym is) (r.child c (subst (λ (z : Node). z.merging_child ≡ Some c) is j))
    | inr e ↦ f.child y q d i (sym (others q e) ∙ live) c j
  ]

  down_new : (t : Tree) (h q : ℕ) (d : Node) → head (w.chain (place t (suc h))) ≡ Some q → new q ≡ Some d → head (w.chain (place t h)) ≡ first_child (pointers d.content)
  down_new t h q d i live = elim (same_or_not q p) [
    | inl e ↦ f.down t h q n i (ap nodes e ∙ r.was) ∙ sym r.first ∙ ap (λ (z : Node). first_child (pointers z.content)) (sym (is_m q d e live))
    | inr e ↦ f.down t h q d i (sym (others q e) ∙ live)
  ]

  pub reflagged_kept : WellFormed new roots after
  reflagged_kept = record {
    homed = stays_chained;
    page = page_on;
    run = λ y. elim (f.run y) [ inl e ↦ inl e | inr a ↦ inr (run_same (w.chain y) _ _ _ _ a) ];
    pointer = pointer_new;
    child = child_new;
    down = down_new;
    top = f.top;
  }

  pub reflagged_keeps : (mine : List ℕ) → KeepsNodes mine None nodes new w after
  reflagged_keeps mine = record {
    stood = λ y q d o i live. elim (same_or_not q p) [
      | inl e ↦ (m, ap new e ∙ now, ap (λ (z : Node). z.lo) (sym (is_n q d e live)), inl i)
      | inr e ↦ (d, others q e ∙ live, refl, inl i)
    ];
    capped = λ q d live t. elim (same_or_not q p) [
      | inl e ↦ asleep q d e live t
      | inr e ↦ inl (others q e ∙ live)
    ];
    stray = λ q s o. (others q (λ e. s x (ap w.home e ∙ p_home)), λ y h. s y (r.comes q y h));
    left = λ y q d live t o. o;
    wakes = λ y q d e i was not_merging live t. elim (same_or_not q p) [
      | inl g ↦
          let at : x ≡ y = some_is (sym p_home ∙ ap w.home (sym g) ∙ f.homed y q i) in
          let o = r.parent (subst (λ (z : Node). z.merging ≡ true) (is_m q e g live) t) in
          (o.0, o.1, subst (λ (z : Place). In o.0 (w.chain (place z.tree (suc z.height)))) at o.2, o.3, o.4 ∙ ap Some (sym g))
      | inr g ↦ not_both e.merging (subst (λ (z : Node). z.merging ≡ false) (some_is (sym was ∙ sym (others q g) ∙ live)) not_merging) t
    ];
    child = λ y q c d o i was is.
        let b = child_below f y q d c i was is in
        elim (r.stays c _ b.4.homed) [
          | inl a ↦ inl (i, parent_on q c d _ a was is)
          | inr a ↦
              let g = f.page _ c b.4.homed in
              elim g.1.stands [
                | inl j ↦ absurd (a.1 j)
                | inr u ↦ inr (g.0, g.1.live, u, λ z j. a.1 (subst (λ k. In c (w.chain k)) (some_is (sym (f.homed z c j) ∙ b.4.homed)) j))
              ]
        ];
  }
    where
      asleep : (q : ℕ) (d : Node) → q ≡ p → nodes q ≡ Some d → d.merging ≡ true → (new q ≡ Some d) ⊎ (new q ≡ None)
      asleep q d e live t = not_both n.merging r.not_merging (subst (λ (z : Node). z.merging ≡ true) (is_n q d e live) t)

  pub reflagged_grows : GrowsByReceiving nodes new w
  reflagged_grows = record {
    grows = λ y q d e i was live. elim (same_or_not q p) [
      | inl g ↦ inl (subst (λ (z : Node). count e.content ≤ count z.content) (sym (is_n q d g was)) (subst (λ (z : Node). count z.content ≤ count n.content) (sym (is_m q e g live)) r.smaller))
      | inr g ↦ inl (le_of_eq (ap (λ (z : Node). count z.content) (some_is (sym live ∙ others q g ∙ was))))
    ];
  }

  -- the size is kept, where the merging child that there is now is small
  pub reflagged_sized : ((c : ℕ) (d : Node) → m.merging_child ≡ Some c → nodes c ≡ Some d → count d.content ≤ 17) → IsSized nodes w → IsSized new after
  reflagged_sized small z = record {
    fits = λ y q d h live. elim (same_or_not q p) [
      | inl e ↦ subst (λ (k : Node). count k.content ≤ 33) (sym (is_m q d e live)) (le_trans r.smaller (z.fits x p n p_home r.was))
      | inr e ↦ z.fits y q d (r.comes q y h) (sym (others q e) ∙ live)
    ];
    child = λ y q c d e i live is there.
        let was : (b : Node) → nodes c ≡ Some b → count b.content ≤ 17 = λ b at. elim (same_or_not q p) [
          | inl g ↦ small c b (sym (ap (λ (k : Node). k.merging_child) (is_m q d g live)) ∙ is) at
          | inr g ↦ z.child y q c d b i (sym (others q g) ∙ live) is at
        ] in
        elim (same_or_not c p) [
          | inl g ↦ subst (λ (k : Node). count k.content ≤ 17) (sym (is_m c e g there)) (le_trans r.smaller (was n (ap nodes g ∙ r.was)))
          | inr g ↦ was e (sym (others c g) ∙ there)
        ];
  }

  pub reflagged_contents : pairs m.content ≡ pairs n.content → (t : Tree) → contents new after t ≡ contents nodes w t
  reflagged_contents same t = go (w.chain (place t 0))
    where
      one : (q : ℕ) → node_pairs (new q) ≡ node_pairs (nodes q)
      one q = elim (same_or_not q p) [
        | inl e ↦ ap node_pairs (ap new e ∙ now) ∙ same ∙ sym (ap node_pairs (ap nodes e ∙ r.was))
        | inr e ↦ ap node_pairs (others q e)
      ]

      go : (ps : List ℕ) → pairs_of new ps ≡ pairs_of nodes ps
      go [] = refl
      go (q ∷ ps) = let a = one q in let b = go ps in cc

  abbrev pub reflagged : {few : Type 0} → pairs content ≡ pairs n.content → (few → (c : ℕ) (d : Node) → merging_child ≡ Some c → nodes c ≡ Some d → count d.content ≤ 17) → Unseen [] nodes new roots w few
  reflagged same small = record { after = after; kept = reflagged_kept; same = reflagged_contents same; keeps = reflagged_keeps []; sized = λ e. reflagged_sized (small e); grows = λ e. reflagged_grows }
