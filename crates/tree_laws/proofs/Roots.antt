-- A new level, a new tree, and a tree that goes.
use Rattle.std.proofs.Common.{◌≡◌, ◌≢◌, ℕ, suc, ◌≤◌, true, false, T, ◌&&◌, is_lt, List, [], ◌∷◌, ◌++◌, Option, Some, None, MatchOption, sym, refl, ap, ◌∙◌, subst, inl, inr, ◌⊎◌, arith, length}
use Rattle.std.specs.FinMap.{is_sorted}
use Rattle.sled_nodes.proofs.Basics.{none_some, some_is, same_or_not}
use Rattle.sled_store.specs.In.{In}
use Rattle.sled_nodes.specs.Node.{pairs, pointers, count}
use Rattle.sled_nodes.specs.Order.{Key, key_cmp, Below}
use Rattle.sled_store.specs.State.{Nodes}
use Rattle.sled_store.specs.Update.{put_at, put_name}
use Rattle.sled_store.specs.theory.Facts.{put_here, put_elsewhere, put_name_here, put_name_elsewhere}
use Rattle.sled_nodes.specs.declared.node.Data.{Data}
use Rattle.sled_nodes.specs.declared.node.Data.TheVariants.{Leaf, Index}
use Rattle.sled_nodes.specs.declared.node.Node.{Node}
use Rattle.tree_laws.specs.Forest.{first_child, later, Holds, IsNodeAt, Forest, Place, place, Run, IsHomed, IsPointer, WellFormed, contents, node_pairs, head, Tree}
use Rattle.tree_laws.specs.Snapshot.{IsOrphan}
use Rattle.tree_laws.specs.theory.Laws.{IsAlone, Rooted, HoistLaw, PlantLaw, DropLaw}
use Rattle.tree_laws.proofs.Order.{upto-refl, upto-below}
use Rattle.tree_laws.proofs.Update.{put_chain, chain_here, chain_there}
use Rattle.tree_laws.proofs.Replace.{same_tree, same_place, not_both, head_in, pairs_of}

-- a page with no place becomes the one page of an empty level
pub record Raises (nodes : Nodes) (roots : Tree → Option ℕ) (w : Forest) (t : Tree) (h r : ℕ) (n : Node) (content : Data) : Type 0 where
  pub empty : w.chain (place t h) ≡ []
  pub over : w.chain (place t (suc h)) ≡ []
  pub stray : IsOrphan w r
  pub alone : IsAlone nodes r n content
  pub sound : IsNodeAt h n
  pub pointer : (g : ℕ) → h ≡ suc g → (k : Key) (c : ℕ) → In (k, c) (pointers n.content) → IsPointer nodes w n t g k c
  pub down : (g : ℕ) → h ≡ suc g → head (w.chain (place t g)) ≡ first_child (pointers n.content)
  pub fits : count n.content ≤ 33

module _ {nodes : Nodes} {roots : Tree → Option ℕ} {w : Forest} {t : Tree} {h r : ℕ} {n : Node} {content : Data} (a : Raises nodes roots w t h r n content) (f : WellFormed nodes roots w) where
  x : Place
  x = place t h

  abbrev raised : Forest
  raised = record { chain = put_chain w.chain (place t h) (r ∷ []); home = put_at w.home r (Some (place t h)) }

  here : raised.chain (place t h) ≡ r ∷ []
  here = chain_here w.chain (place t h) (r ∷ [])

  there : (y : Place) → y ≢ place t h → raised.chain y ≡ w.chain y
  there = chain_there w.chain (place t h) (r ∷ [])

  -- a chain's page was there, or is r
  split_in : (y : Place) (p : ℕ) → In p (raised.chain y) → In p (w.chain y) ⊎ ((p ≡ r) × (y ≡ place t h))
  split_in y p i = elim (same_place y (place t h)) [
    | inl e ↦ inr (elim (subst (λ c. In p c) here (subst (λ z. In p (raised.chain z)) e i)) [ inl b ↦ b | inr b ↦ absurd b ], e)
    | inr e ↦ inl (subst (λ c. In p c) (there y e) i)
  ]

  in_on : (y : Place) (p : ℕ) → In p (w.chain y) → In p (raised.chain y)
  in_on y p i = elim (same_place y (place t h)) [
    | inl e ↦ absurd (subst (λ c. In p c) a.empty (subst (λ z. In p (w.chain z)) e i))
    | inr e ↦ subst (λ c. In p c) (sym (there y e)) i
  ]

  r_home : raised.home r ≡ Some (place t h)
  r_home = put_here w.home r (Some (place t h))

  home_on : (p : ℕ) (y : Place) → w.home p ≡ Some y → raised.home p ≡ Some y
  home_on p y e = put_elsewhere w.home r p (Some (place t h)) (λ s. a.stray y (ap w.home (sym s) ∙ e)) ∙ e

  pointer_on : (d : Node) (u : Tree) (g : ℕ) (k : Key) (c : ℕ) → IsPointer nodes w d u g k c → IsPointer nodes raised d u g k c
  pointer_on d u g k c i = record { node = i.node; live = i.live; homed = home_on c (place u g) i.homed; key = i.key; merged = i.merged }

  page_on : (y : Place) (p : ℕ) → raised.home p ≡ Some y → (d : Node) × IsHomed nodes raised p y d
  page_on y p e = elim (same_or_not p r) [
    | inl s ↦
        let at : place t h ≡ y = some_is (sym r_home ∙ ap raised.home (sym s) ∙ e) in (
          n,
          record {
            live = ap nodes s ∙ a.alone.live;
            sound = subst (λ (z : Place). IsNodeAt z.height n) at a.sound;
            stands = inl (subst (λ z. In p (raised.chain z)) at (subst (λ c. In p c) (sym here) (inl s)));
            calm = λ v. not_both n.merging a.alone.merging v;
            parent = λ v. not_both n.merging a.alone.merging v;
          },
        )
    | inr s ↦
        let i = f.page y p (sym (put_elsewhere w.home r p (Some (place t h)) s) ∙ e) in (
          i.0,
          record {
            live = i.1.live;
            sound = i.1.sound;
            stands = elim i.1.stands [ inl j ↦ inl (in_on y p j) | inr v ↦ inr v ];
            calm = i.1.calm;
            parent = λ v. let q = i.1.parent v in (q.0, q.1, in_on _ q.0 q.2, q.3, q.4);
          },
        )
  ]

  run_on : (y : Place) → (raised.chain y ≡ []) ⊎ Run nodes (raised.chain y) (head (raised.chain y)) [] None []
  run_on y = elim (same_place y (place t h)) [
    | inl e ↦ inr (subst (λ z. Run nodes (raised.chain z) (head (raised.chain z)) [] None []) (sym e) (subst (λ c. Run nodes c (head c) [] None []) (sym here)
        (n, record { live = a.alone.live; here = refl; lo_is = sym a.alone.lo; rises = inl a.alone.next }, (a.alone.next, a.alone.hi))))
    | inr e ↦ subst (λ c. (c ≡ []) ⊎ Run nodes c (head c) [] None []) (sym (there y e)) (f.run y)
  ]

  is_r : (p : ℕ) (d : Node) → p ≡ r → nodes p ≡ Some d → d ≡ n
  is_r p d e live = some_is (sym live ∙ ap nodes e ∙ a.alone.live)

  tree_is : (u : Tree) (g : ℕ) → place u (suc g) ≡ place t h → (u ≡ t) × (h ≡ suc g)
  tree_is u g e = (ap (λ (z : Place). z.tree) e, sym (ap (λ (z : Place). z.height) e))

  pointer_new : (u : Tree) (g p : ℕ) (d : Node) → In p (raised.chain (place u (suc g))) → nodes p ≡ Some d → (k : Key) (c : ℕ) → In (k, c) (pointers d.content) → IsPointer nodes raised d u g k c
  pointer_new u g p d i live k c j = elim (split_in _ p i) [
    | inl b ↦ pointer_on d u g k c (f.pointer u g p d b live k c j)
    | inr b ↦
        let at = tree_is u g b.1 in
        let is = is_r p d b.0 live in
        pointer_on d u g k c (subst (λ (z : Node). IsPointer nodes w z u g k c) (sym is) (subst (λ z. IsPointer nodes w n z g k c) (sym at.0) (a.pointer g at.1 k c (subst (λ (z : Node). In (k, c) (pointers z.content)) is j))))
  ]

  child_new : (y : Place) (p : ℕ) (d : Node) → In p (raised.chain y) → nodes p ≡ Some d → (c : ℕ) → d.merging_child ≡ Some c → (k : Key) × In (k, c) (later (pointers d.content))
  child_new y p d i live c e = elim (split_in y p i) [
    | inl b ↦ f.child y p d b live c e
    | inr b ↦ none_some (sym (subst (λ (z : Node). z.merging_child ≡ None) (sym (is_r p d b.0 live)) a.alone.merging_child) ∙ e)
  ]

  -- the level below the new one stays, and so does each other
  down_new : (u : Tree) (g p : ℕ) (d : Node) → head (raised.chain (place u (suc g))) ≡ Some p → nodes p ≡ Some d → head (raised.chain (place u g)) ≡ first_child (pointers d.content)
  down_new u g p d i live = elim (same_place (place u (suc g)) (place t h)) [
    | inl e ↦
        let at = tree_is u g e in
        let pr : p ≡ r = some_is (sym i ∙ ap (λ z. head (raised.chain z)) e ∙ ap head here) in
        ap head (there (place u g) (λ s. heights g (sym (at.1) ∙ sym (ap (λ (z : Place). z.height) s)))) ∙ ap (λ z. head (w.chain (place z g))) at.0 ∙ a.down g at.1 ∙ ap (λ (z : Node). first_child (pointers z.content)) (sym (is_r p d pr live))
    | inr e ↦ elim (same_place (place u g) (place t h)) [
      | inl s ↦
          let up : w.chain (place u (suc g)) ≡ [] = ap (λ (z : Place). w.chain (place z.tree (suc z.height))) s ∙ a.over in
          none_some (sym (ap head up) ∙ sym (ap head (there _ e)) ∙ i)
      | inr s ↦ ap head (there _ s) ∙ f.down u g p d (sym (ap head (there _ e)) ∙ i) live
    ]
  ]
    where
      heights : (g : ℕ) → suc g ≡ g → ⊥
      heights g e = omega arith

  top_new : (u : Tree) → MatchOption (put_name roots t (Some r) u) ((g : ℕ) → raised.chain (place u g) ≡ []) (λ q. (g : ℕ) × (head (raised.chain (place u g)) ≡ Some q) × (raised.chain (place u (suc g)) ≡ []))
  top_new u = elim (same_tree u t) [
    | inl e ↦ subst (λ o. MatchOption o ((g : ℕ) → raised.chain (place u g) ≡ []) (λ q. (g : ℕ) × (head (raised.chain (place u g)) ≡ Some q) × (raised.chain (place u (suc g)) ≡ [])))
        (sym (ap (put_name roots t (Some r)) e ∙ put_name_here roots t (Some r)))
        (h, ap (λ z. head (raised.chain (place z h))) e ∙ ap head here, ap (λ z. raised.chain (place z (suc h))) e ∙ there (place t (suc h)) (λ s. heights (ap (λ (z : Place). z.height) s)) ∙ a.over)
    | inr e ↦ subst (λ o. MatchOption o ((g : ℕ) → raised.chain (place u g) ≡ []) (λ q. (g : ℕ) × (head (raised.chain (place u g)) ≡ Some q) × (raised.chain (place u (suc g)) ≡ [])))
        (sym (put_name_elsewhere roots t u (Some r) e)) (go (roots u) e (f.top u))
  ]
    where
      heights : suc h ≡ h → ⊥
      heights e = omega arith

      go : (o : Option ℕ) → u ≢ t → MatchOption o ((g : ℕ) → w.chain (place u g) ≡ []) (λ q. (g : ℕ) × (head (w.chain (place u g)) ≡ Some q) × (w.chain (place u (suc g)) ≡ []))
          → MatchOption o ((g : ℕ) → raised.chain (place u g) ≡ []) (λ q. (g : ℕ) × (head (raised.chain (place u g)) ≡ Some q) × (raised.chain (place u (suc g)) ≡ []))
      go None e b = λ g. there (place u g) (λ s. e (ap (λ (z : Place). z.tree) s)) ∙ b g
      go (Some q) e b = (b.0, ap head (there (place u b.0) (λ s. e (ap (λ (z : Place). z.tree) s))) ∙ b.1, there (place u (suc b.0)) (λ s. e (ap (λ (z : Place). z.tree) s)) ∙ b.2)

  pub raised_rooted : Rooted (r ∷ []) None nodes roots w t (Some r)
  raised_rooted = record {
    after = raised;
    kept = record {
      homed = λ y p i. elim (split_in y p i) [ inl b ↦ home_on p y (f.homed y p b) | inr b ↦ ap raised.home b.0 ∙ r_home ∙ ap Some (sym b.1) ];
      page = page_on;
      run = run_on;
      pointer = pointer_new;
      child = child_new;
      down = down_new;
      top = top_new;
    };
    others = λ u off. ap (pairs_of nodes) (there (place u 0) (λ s. off (ap (λ (z : Place). z.tree) s)));
    keeps = record {
      stood = λ y p d o i live. (d, live, refl, inl (in_on y p i));
      capped = λ p d live v. inl live;
      stray = λ p s o. (refl, λ y e. elim (same_or_not p r) [ inl g ↦ o (inl g) | inr g ↦ s y (sym (put_elsewhere w.home r p (Some (place t h)) g) ∙ e) ]);
      left = λ y p d live v o i. elim (split_in y p i) [ inl b ↦ o b | inr b ↦ not_both d.merging (subst (λ (z : Node). z.merging ≡ false) (sym (is_r p d b.0 live)) a.alone.merging) v ];
      wakes = λ y p d e i was not_merging now v. not_both e.merging (subst (λ (z : Node). z.merging ≡ false) (some_is (sym was ∙ now)) not_merging) v;
      child = λ y p c d o i was e. inl (in_on y p i, (d, was, e));
    };
    sized = λ z. record {
      fits = λ y p d e live. elim (same_or_not p r) [
        | inl s ↦ subst (λ (k : Node). count k.content ≤ 33) (sym (is_r p d s live)) a.fits
        | inr s ↦ z.fits y p d (sym (put_elsewhere w.home r p (Some (place t h)) s) ∙ e) live
      ];
      child = λ y p c d e i live is there. elim (split_in y p i) [
        | inl b ↦ z.child y p c d e b live is there
        | inr b ↦ none_some (sym (subst (λ (z : Node). z.merging_child ≡ None) (sym (is_r p d b.0 live)) a.alone.merging_child) ∙ is)
      ];
    };
  }

  pub raised_pairs : (u : Tree) → place u 0 ≢ place t h → contents nodes raised u ≡ contents nodes w u
  raised_pairs u off = ap (pairs_of nodes) (there (place u 0) off)

  pub raised_in : In r (raised.chain (place t h))
  raised_in = subst (λ c. In r c) (sym here) (inl refl)

  pub raised_leaf : h ≡ 0 → contents nodes raised t ≡ pairs n.content ++ []
  raised_leaf e = ap (λ z. pairs_of nodes (raised.chain (place t z))) (sym e) ∙ ap (pairs_of nodes) here ∙ ap (λ z. node_pairs z ++ []) a.alone.live

module _ {nodes : Nodes} {roots : Tree → Option ℕ} {w : Forest} (f : WellFormed nodes roots w) where
  -- over an empty level there is none
  empty_above : (t : Tree) (h : ℕ) → w.chain (place t h) ≡ [] → w.chain (place t (suc h)) ≡ []
  empty_above t h e = go (w.chain (place t (suc h))) refl
    where
      some_child : (lo hi : Key) (g : ℕ) (c : Data) → Holds (suc g) lo hi c → first_child (pointers c) ≢ None
      some_child lo hi g (Leaf es) s k = absurd s
      some_child lo hi g (Index []) s k = none_some s.2
      some_child lo hi g (Index (a ∷ es)) s k = none_some (sym k)

      go : (ps : List ℕ) → w.chain (place t (suc h)) ≡ ps → ps ≡ []
      go [] s = refl
      go (p ∷ ps) s =
          let i : In p (w.chain (place t (suc h))) = subst (λ c. In p c) (sym s) (inl refl) in
          let g = f.page _ p (f.homed _ p i) in
          absurd (some_child g.0.lo g.0.hi h g.0.content g.1.sound.holds (sym (f.down t h p g.0 (ap head s) g.1.live) ∙ ap head e))

  -- a page of a top level isn't merging
  pub top_awake : (t : Tree) (h p : ℕ) (d : Node) → w.chain (place t (suc h)) ≡ [] → w.home p ≡ Some (place t h) → nodes p ≡ Some d → d.merging ≡ true → ⊥
  top_awake t h p d e i live v =
      let g = f.page (place t h) p i in
      let q = g.1.parent (subst (λ (z : Node). z.merging ≡ true) (some_is (sym live ∙ g.1.live)) v) in
      subst (λ c. In q.0 c) e q.2

  -- the level of the root is the top
  pub root_top : (t : Tree) (h r : ℕ) → roots t ≡ Some r → In r (w.chain (place t h)) → (head (w.chain (place t h)) ≡ Some r) × (w.chain (place t (suc h)) ≡ [])
  root_top t h r e i =
      let b = subst (λ o. MatchOption o ((g : ℕ) → w.chain (place t g) ≡ []) (λ q. (g : ℕ) × (head (w.chain (place t g)) ≡ Some q) × (w.chain (place t (suc g)) ≡ []))) e (f.top t) in
      let same : place t b.0 ≡ place t h = some_is (sym (f.homed (place t b.0) r (head_in _ r b.1)) ∙ f.homed (place t h) r i) in
      (ap (λ z. head (w.chain z)) (sym same) ∙ b.1, ap (λ (z : Place). w.chain (place t (suc z.height))) (sym same) ∙ b.2)

  head_lo : (x : Place) (p : ℕ) (d : Node) → head (w.chain x) ≡ Some p → nodes p ≡ Some d → d.lo ≡ []
  head_lo x p d e live = elim (f.run x) [ inl s ↦ none_some (sym (ap head s) ∙ e) | inr s ↦ go (w.chain x) e s ]
    where
      go : (ps : List ℕ) → head ps ≡ Some p → Run nodes ps (head ps) [] None [] → d.lo ≡ []
      go [] g s = none_some g
      go (q ∷ ps) g s = sym (s.1.lo_is ∙ ap (λ (z : Node). z.lo) (some_is (sym s.1.live ∙ ap nodes (some_is g) ∙ live)))

sorted_two : (k : Key) (a b : ℕ) → Below [] k → T (is_sorted key_cmp (([], a) ∷ (k, b) ∷ []))
sorted_two k a b h = subst (λ o. T ((is_lt o && true) && (true && true))) (sym h) tt

pub hoist_law : HoistLaw
unfolding raised_rooted
hoist_law nodes roots w f t h left right r n d root stray il ir live low alone =
    let top = root_top f t h left root il in
    let pl = f.page (place t h) left (f.homed _ left il) in
    let a : Raises nodes roots w t (suc h) r n _ = record {
      empty = top.1;
      over = empty_above f t (suc h) top.1;
      stray = stray;
      alone = alone;
      sound = record {
        holds = subst (λ c. Holds (suc h) n.lo n.hi c) (sym alone.content) (subst (λ k. Holds (suc h) k n.hi (Index (([], left) ∷ (d.lo, right) ∷ []))) (sym alone.lo)
            (sorted_two d.lo left right low, ((upto-refl [], inl alone.hi), ((upto-below [] d.lo low, inl alone.hi), tt)), refl));
      };
      pointer = λ g e k c j.
          let at : h ≡ g = omega arith in
          subst (λ z. IsPointer nodes w n t z k c) at (elim (subst (λ z. In (k, c) (pointers z)) alone.content j) [
            | inl b ↦ let cl = ap (λ (z : Key × ℕ). z.1) b in record {
              node = pl.0;
              live = ap nodes cl ∙ pl.1.live;
              homed = ap w.home cl ∙ f.homed _ left il;
              key = head_lo f (place t h) left pl.0 top.0 pl.1.live ∙ sym (ap (λ (z : Key × ℕ). z.0) b);
              merged = λ v. absurd (top_awake f t h left pl.0 top.1 (f.homed _ left il) pl.1.live v);
            }
            | inr b' ↦ elim b' [
              | inl b ↦ let cr = ap (λ (z : Key × ℕ). z.1) b in record {
                node = d;
                live = ap nodes cr ∙ live;
                homed = ap w.home cr ∙ f.homed _ right ir;
                key = sym (ap (λ (z : Key × ℕ). z.0) b);
                merged = λ v. absurd (top_awake f t h right d top.1 (f.homed _ right ir) live v);
              }
              | inr b ↦ absurd b
            ]
          ]);
      down = λ g e. let at : g ≡ h = omega arith in ap (λ z. head (w.chain (place t z))) at ∙ top.0 ∙ ap (λ z. first_child (pointers z)) (sym alone.content);
      fits = subst (λ c. count c ≤ 33) (sym alone.content) two;
    } in
    (raised_rooted a f, raised_pairs a f t (λ e. heights h (ap (λ (z : Place). z.height) e)), raised_in a f)
  where
    heights : (h : ℕ) → 0 ≡ suc h → ⊥
    heights h e = omega arith

    two : length {A = Key × ℕ} (([], left) ∷ (d.lo, right) ∷ []) ≤ 33
    two = omega arith

pub plant_law : PlantLaw
unfolding raised_rooted
plant_law nodes roots w f t r n root stray alone =
    let none : (g : ℕ) → w.chain (place t g) ≡ [] = subst (λ o. MatchOption o ((g : ℕ) → w.chain (place t g) ≡ []) (λ q. (g : ℕ) × (head (w.chain (place t g)) ≡ Some q) × (w.chain (place t (suc g)) ≡ []))) root (f.top t) in
    let a : Raises nodes roots w t 0 r n _ = record {
      empty = none 0;
      over = none 1;
      stray = stray;
      alone = alone;
      sound = record { holds = subst (λ c. Holds 0 n.lo n.hi c) (sym alone.content) (tt, tt) };
      pointer = λ g e k c j. absurd (heights g e);
      down = λ g e. absurd (heights g e);
      fits = subst (λ c. count c ≤ 33) (sym alone.content) zero_le;
    } in
    (raised_rooted a f, raised_leaf a f refl ∙ ap (λ z. pairs z ++ []) alone.content, raised_in a f)
  where
    heights : (h : ℕ) → 0 ≡ suc h → ⊥
    heights h e = omega arith

    zero_le : 0 ≤ 33
    zero_le = omega arith

module _ (nodes : Nodes) (roots : Tree → Option ℕ) (w : Forest) (f : WellFormed nodes roots w) (t : Tree) where
  abbrev cut_place : Option Place → Option Place
  cut_place None = None
  cut_place (Some y) = elim (same_tree y.tree t) [ inl e ↦ None | inr e ↦ Some y ]

  abbrev cut : Forest
  cut = record { chain = λ y. elim (same_tree y.tree t) [ inl e ↦ [] | inr e ↦ w.chain y ]; home = λ p. cut_place (w.home p) }

  chain_gone : (y : Place) → y.tree ≡ t → cut.chain y ≡ []
  chain_gone y e = elim (same_tree y.tree t) as (λ s. (elim s as (λ _. List ℕ) [ inl g ↦ [] | inr g ↦ w.chain y ]) ≡ []) [ inl g ↦ refl | inr g ↦ absurd (g e) ]

  chain_stays : (y : Place) → y.tree ≢ t → cut.chain y ≡ w.chain y
  chain_stays y e = elim (same_tree y.tree t) as (λ s. (elim s as (λ _. List ℕ) [ inl g ↦ [] | inr g ↦ w.chain y ]) ≡ w.chain y) [ inl g ↦ absurd (e g) | inr g ↦ refl ]

  home_back : (p : ℕ) (y : Place) → cut.home p ≡ Some y → (w.home p ≡ Some y) × (y.tree ≢ t)
  home_back p y e = go (w.home p) refl e
    where
      go : (o : Option Place) → w.home p ≡ o → cut_place o ≡ Some y → (w.home p ≡ Some y) × (y.tree ≢ t)
      go None g h = none_some h
      go (Some z) g h = (elim (same_tree z.tree t) as (λ s. (elim s as (λ _. Option Place) [ inl e ↦ None | inr e ↦ Some z ]) ≡ Some y → (w.home p ≡ Some y) × (y.tree ≢ t)) [
        | inl u ↦ λ v. none_some v
        | inr u ↦ λ v. (g ∙ v, λ s. u (ap (λ (k : Place). k.tree) (some_is v) ∙ s))
      ]) h

  home_cut : (p : ℕ) (y : Place) → y.tree ≢ t → w.home p ≡ Some y → cut.home p ≡ Some y
  home_cut p y off e = ap cut_place e ∙ (elim (same_tree y.tree t) as (λ s. (elim s as (λ _. Option Place) [ inl e ↦ None | inr e ↦ Some y ]) ≡ Some y) [ inl g ↦ absurd (off g) | inr g ↦ refl ])

  in_back : (y : Place) (p : ℕ) → In p (cut.chain y) → (y.tree ≢ t) × In p (w.chain y)
  in_back y p i = elim (same_tree y.tree t) [
    | inl e ↦ absurd (subst (λ c. In p c) (chain_gone y e) i)
    | inr e ↦ (e, subst (λ c. In p c) (chain_stays y e) i)
  ]

  in_cut : (y : Place) (p : ℕ) → y.tree ≢ t → In p (w.chain y) → In p (cut.chain y)
  in_cut y p off i = subst (λ c. In p c) (sym (chain_stays y off)) i

  page_cut : (y : Place) (p : ℕ) → cut.home p ≡ Some y → (d : Node) × IsHomed nodes cut p y d
  page_cut y p e =
      let b = home_back p y e in
      let i = f.page y p b.0 in (
        i.0,
        record {
          live = i.1.live;
          sound = i.1.sound;
          stands = elim i.1.stands [ inl j ↦ inl (in_cut y p b.1 j) | inr v ↦ inr v ];
          calm = i.1.calm;
          parent = λ v. let q = i.1.parent v in (q.0, q.1, in_cut _ q.0 b.1 q.2, q.3, q.4);
        },
      )

  down_cut : (u : Tree) (g p : ℕ) (d : Node) → head (cut.chain (place u (suc g))) ≡ Some p → nodes p ≡ Some d → head (cut.chain (place u g)) ≡ first_child (pointers d.content)
  down_cut u g p d e live = elim (same_tree u t) [
    | inl s ↦ none_some (sym (ap head (chain_gone (place u (suc g)) s)) ∙ e)
    | inr s ↦ ap head (chain_stays (place u g) s) ∙ f.down u g p d (sym (ap head (chain_stays (place u (suc g)) s)) ∙ e) live
  ]

  abbrev TopAt : (Place → List ℕ) → Tree → Option ℕ → Type 0
  TopAt c u o = MatchOption o ((g : ℕ) → c (place u g) ≡ []) (λ q. (g : ℕ) × (head (c (place u g)) ≡ Some q) × (c (place u (suc g)) ≡ []))

  top_cut : (u : Tree) → TopAt cut.chain u (put_name roots t None u)
  top_cut u = elim (same_tree u t) [
    | inl e ↦ subst (λ o. TopAt cut.chain u o) (sym (ap (put_name roots t None) e ∙ put_name_here roots t None)) (λ g. chain_gone (place u g) e)
    | inr e ↦ subst (λ o. TopAt cut.chain u o) (sym (put_name_elsewhere roots t u None e)) (go (roots u) e (f.top u))
  ]
    where
      go : (o : Option ℕ) → u ≢ t → TopAt w.chain u o → TopAt cut.chain u o
      go None e b = λ g. chain_stays (place u g) e ∙ b g
      go (Some q) e b = (b.0, ap head (chain_stays (place u b.0) e) ∙ b.1, chain_stays (place u (suc b.0)) e ∙ b.2)

  pub dropped_tree : (u : Rooted [] (Some t) nodes roots w t None) × ((p h : ℕ) → w.home p ≡ Some (place t h) → IsOrphan u.after p)
  dropped_tree = (
    record {
      after = cut;
      kept = record {
        homed = λ y p i. let b = in_back y p i in home_cut p y b.0 (f.homed y p b.1);
        page = page_cut;
        run = λ y. elim (same_tree y.tree t) [ inl e ↦ inl (chain_gone y e) | inr e ↦ subst (λ c. (c ≡ []) ⊎ Run nodes c (head c) [] None []) (sym (chain_stays y e)) (f.run y) ];
        pointer = λ u g p d i live k c j. let b = in_back _ p i in let a = f.pointer u g p d b.1 live k c j in
            record { node = a.node; live = a.live; homed = home_cut c (place u g) b.0 a.homed; key = a.key; merged = a.merged };
        child = λ y p d i live c e. f.child y p d (in_back y p i).1 live c e;
        down = down_cut;
        top = top_cut;
      };
      others = λ u off. ap (pairs_of nodes) (chain_stays (place u 0) off);
      keeps = record {
        stood = λ y p d o i live. (d, live, refl, inl (in_cut y p (λ e. o (ap Some (sym e))) i));
        capped = λ p d live v. inl live;
        stray = λ p s o. (refl, λ y e. s y (home_back p y e).0);
        left = λ y p d live v o i. o (in_back y p i).1;
        wakes = λ y p d e i was not_merging now v. not_both e.merging (subst (λ (z : Node). z.merging ≡ false) (some_is (sym was ∙ now)) not_merging) v;
        child = λ y p c d o i was e. inl (in_cut y p (λ g. o (ap Some (sym g))) i, (d, was, e));
      };
      sized = λ z. record {
        fits = λ y p d e live. z.fits y p d (home_back p y e).0 live;
        child = λ y p c d e i live is there. z.child y p c d e (in_back y p i).1 live is there;
      };
    },
    λ p h e y g. let b = home_back p y g in b.1 (ap (λ (z : Place). z.tree) (some_is (sym b.0 ∙ e))),
  )

pub drop_law : DropLaw
drop_law = dropped_tree
