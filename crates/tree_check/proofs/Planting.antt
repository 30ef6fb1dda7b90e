-- A tree of whose pages none had a home joins a forest.
use Rattle.std.proofs.Common.{◌≡◌, ◌≢◌, ℕ, zero, suc, ◌≤◌, Bool, true, false, cond, List, [], Option, Some, None, MatchOption, sym, refl, ap, ◌∙◌, subst, inl, inr, ◌⊎◌, arith}
use Rattle.std.specs.Str.{bytes_eq}
use Rattle.std.specs.Bool.{Decides}
use Rattle.std.proofs.lemmas.Slice.Eq.{bytes_eq-Decides}
use Rattle.sled_nodes.proofs.Basics.{some_is, false_true}
use Rattle.sled_store.specs.In.{In}
use Rattle.sled_nodes.specs.Node.{pointers, count}
use Rattle.sled_nodes.specs.Order.{Key}
use Rattle.sled_store.specs.State.{Nodes}
use Rattle.sled_nodes.specs.declared.node.Node.{Node}
use Rattle.sled_nodes.specs.declared.node.Data.{Data}
use Rattle.sled_nodes.specs.declared.node.Data.TheVariants.{Leaf, Index}
use Rattle.tree_laws.specs.Forest.{Tree, Forest, Place, place, head, later, Holds, Run, IsHomed, WellFormed, IsSized}
use Rattle.tree_laws.proofs.Cover.{later_in}
use Rattle.tree_laws.proofs.Replace.{place_is}
use Rattle.tree_check.specs.theory.Tree.{IsPointerTo, IsAtHeight, IsTreeFrom, IsTop}

none_is : {A : Type 0} {P : Type 0} {o : Option A} {a : A} → o ≡ None → o ≡ Some a → P
none_is e f = cc

abbrev pub or_home : Tree → Option ℕ → Option Place → Option Place
or_home t None y = y
or_home t (Some g) y = Some (place t g)

-- a page with a later pointer is no leaf
above_leaves : (h : ℕ) (lo hi : Key) (d : Data) (e : Key × ℕ) → Holds h lo hi d → In e (later (pointers d)) → (g : ℕ) × (h ≡ suc g)
above_leaves zero lo hi (Leaf es) e holds i = absurd i
above_leaves zero lo hi (Index es) e holds i = absurd holds
above_leaves (suc h) lo hi d e holds i = (h, refl)

module _ {nodes : Nodes} {roots new : Tree → Option ℕ} {w : Forest} {t : Tree} {r : ℕ} {chain : ℕ → List ℕ} {home : ℕ → Option ℕ}
    (f : WellFormed nodes roots w) (size : IsSized nodes w) (none : roots t ≡ None) (apart : (p g : ℕ) → home p ≡ Some g → w.home p ≡ None)
    (is : IsTreeFrom nodes 0 chain home) (top : IsTop r 0 chain)
    (rooted : (u : Tree) → ((u ≡ t) × (new u ≡ Some r)) ⊎ ((u ≢ t) × (new u ≡ roots u))) where
  abbrev pub planted : Forest
  planted = record { chain = λ x. cond (bytes_eq x.tree t) (chain x.height) (w.chain x); home = λ p. or_home t (home p) (w.home p) }

  here : (h : ℕ) → planted.chain (place t h) ≡ chain h
  here h = go (bytes_eq t t) (bytes_eq-Decides t t)
    where
      go : (o : Bool) → Decides o (t ≡ t) → cond o (chain h) (w.chain (place t h)) ≡ chain h
      go true d = refl
      go false d = false_true (d.1 refl)

  there : (x : Place) → x.tree ≢ t → planted.chain x ≡ w.chain x
  there x off = go (bytes_eq x.tree t) (bytes_eq-Decides x.tree t)
    where
      go : (o : Bool) → Decides o (x.tree ≡ t) → cond o (chain x.height) (w.chain x) ≡ w.chain x
      go true d = absurd (off (d.0 refl))
      go false d = refl

  same : (u : Tree) → (u ≡ t) ⊎ (u ≢ t)
  same u = elim (rooted u) [ inl e ↦ inl e.0 | inr e ↦ inr e.0 ]

  at_home : (p g : ℕ) → home p ≡ Some g → planted.home p ≡ Some (place t g)
  at_home p g e = ap (λ o. or_home t o (w.home p)) e

  -- a page keeps the home that it had
  stays : (p : ℕ) (x : Place) → w.home p ≡ Some x → planted.home p ≡ Some x
  stays p x e = go (home p) refl
    where
      go : (o : Option ℕ) → home p ≡ o → or_home t o (w.home p) ≡ Some x
      go None h = e
      go (Some g) h = none_is (apart p g h) e

  pub homes : (p : ℕ) (x : Place) → planted.home p ≡ Some x → ((g : ℕ) × (x ≡ place t g) × (home p ≡ Some g)) ⊎ (w.home p ≡ Some x)
  homes p x e = go (home p) refl e
    where
      go : (o : Option ℕ) → home p ≡ o → or_home t o (w.home p) ≡ Some x → ((g : ℕ) × (x ≡ place t g) × (home p ≡ Some g)) ⊎ (w.home p ≡ Some x)
      go None h e = inr e
      go (Some g) h e = inl (g, sym (some_is e), h)

  -- the tree had no page before
  no_chain : (h : ℕ) → w.chain (place t h) ≡ []
  no_chain h = (subst (λ o. MatchOption o ((h : ℕ) → w.chain (place t h) ≡ []) (λ r. (h : ℕ) × (head (w.chain (place t h)) ≡ Some r) × (w.chain (place t (suc h)) ≡ []))) none (f.top t)) h

  not_there : (p : ℕ) (x : Place) → w.home p ≡ Some x → x.tree ≢ t
  not_there p x e at =
      let n = f.page x p e in
      let is_t : x ≡ place t x.height = place_is x (place t x.height) at refl in
      elim n.1.stands [
        | inl i ↦ subst (λ c. In p c) (ap w.chain is_t ∙ no_chain x.height) i
        | inr m ↦ let q = n.1.parent m in subst (λ c. In q.0 c) (ap (λ z. w.chain (place z (suc x.height))) at ∙ no_chain (suc x.height)) q.2
      ]

  chains : (x : Place) (p : ℕ) → In p (planted.chain x) → ((x ≡ place t x.height) × In p (chain x.height)) ⊎ ((x.tree ≢ t) × In p (w.chain x))
  chains x p i = elim (same x.tree) [
    | inl e ↦
        let at : x ≡ place t x.height = place_is x (place t x.height) e refl in
        inl (at, subst (λ c. In p c) (ap planted.chain at ∙ here x.height) i)
    | inr off ↦ inr (off, subst (λ c. In p c) (there x off) i)
  ]

  -- a page of a level of the new tree
  here_is : (h p : ℕ) → In p (chain h) → IsAtHeight nodes chain p h
  here_is h p i = (is.page p h (is.homed h p (omega arith) i)).1

  old_home : (p : ℕ) (x : Place) (n : Node) → x.tree ≢ t → IsHomed nodes w p x n → IsHomed nodes planted p x n
  old_home p x n off a = record {
    live = a.live;
    sound = a.sound;
    stands = elim a.stands [ inl i ↦ inl (subst (λ c. In p c) (sym (there x off)) i) | inr m ↦ inr m ];
    calm = a.calm;
    parent = λ m. let q = a.parent m in (q.0, q.1, subst (λ c. In q.0 c) (sym (there (place x.tree (suc x.height)) off)) q.2, q.3, q.4);
  }

  new_home : (p g : ℕ) (a : IsAtHeight nodes chain p g) → IsHomed nodes planted p (place t g) a.node
  new_home p g a = record {
    live = a.live;
    sound = a.page.sound;
    stands = elim a.stands [ inl i ↦ inl (subst (λ c. In p c) (sym (here g)) i) | inr m ↦ inr m ];
    calm = a.page.calm;
    parent = λ m. let q = a.parent m in (q.0, q.1, subst (λ c. In q.0 c) (sym (here (suc g))) q.2, q.3, q.4);
  }

  one_node : (p : ℕ) (m n : Node) → nodes p ≡ Some m → nodes p ≡ Some n → m ≡ n
  one_node p m n a b = some_is (sym a ∙ b)

  node_is : (h p : ℕ) (n : Node) (a : IsAtHeight nodes chain p h) → nodes p ≡ Some n → a.node ≡ n
  node_is h p n a live = one_node p a.node n a.live live

  pub formed : WellFormed nodes new planted
  formed = record {
    homed = λ x p i. elim (chains x p i) [
      | inl e ↦ at_home p x.height (is.homed x.height p (omega arith) e.1) ∙ ap Some (sym e.0)
      | inr e ↦ stays p x (f.homed x p e.1)
    ];
    page = λ x p e. elim (homes p x e) [
      | inl g ↦ let a = (is.page p g.0 g.2).1 in (a.node, subst (λ z. IsHomed nodes planted p z a.node) (sym g.1) (new_home p g.0 a))
      | inr old ↦ let a = f.page x p old in (a.0, old_home p x a.0 (not_there p x old) a.1)
    ];
    run = λ x. elim (same x.tree) [
      | inl e ↦ subst (λ c. (c ≡ []) ⊎ Run nodes c (head c) [] None []) (sym (ap planted.chain (place_is x (place t x.height) e refl) ∙ here x.height)) (is.run x.height (omega arith))
      | inr off ↦ subst (λ c. (c ≡ []) ⊎ Run nodes c (head c) [] None []) (sym (there x off)) (f.run x)
    ];
    pointer = λ u h p n i live k c j. elim (chains (place u (suc h)) p i) [
      | inl e ↦
          let l = is.pointer h p n (omega arith) e.1 live k c j in
          let at : u ≡ t = ap (λ (z : Place). z.tree) e.0 in
          record { node = l.node; live = l.live; homed = at_home c h l.homed ∙ ap (λ z. Some (place z h)) (sym at); key = l.key; merged = l.merged }
      | inr e ↦
          let l = f.pointer u h p n e.1 live k c j in
          record { node = l.node; live = l.live; homed = stays c (place u h) l.homed; key = l.key; merged = l.merged }
    ];
    child = λ x p n i live c e. elim (chains x p i) [
      | inl at ↦
          let a = here_is x.height p at.1 in
          let same = node_is x.height p n a live in
          subst (λ (z : Node). (k : Key) × In (k, c) (later (pointers z.content))) same (a.page.child c (ap (λ (z : Node). z.merging_child) same ∙ e))
      | inr at ↦ f.child x p n at.1 live c e
    ];
    down = λ u h p n e live. elim (same u) [
      | inl at ↦
          let begins : head (chain (suc h)) ≡ Some p = sym (ap head (ap (λ z. planted.chain (place z (suc h))) at ∙ here (suc h))) ∙ e in
          ap head (ap (λ z. planted.chain (place z h)) at ∙ here h) ∙ is.down h p n (omega arith) begins live
      | inr off ↦ ap head (there (place u h) off) ∙ f.down u h p n (sym (ap head (there (place u (suc h)) off)) ∙ e) live
    ];
    top = λ u. elim (rooted u) [
      | inl e ↦ subst (λ z. MatchOption z ((h : ℕ) → planted.chain (place u h) ≡ []) (λ r. (h : ℕ) × (head (planted.chain (place u h)) ≡ Some r) × (planted.chain (place u (suc h)) ≡ []))) (sym e.1)
          (subst (λ z. (h : ℕ) × (head (planted.chain (place z h)) ≡ Some r) × (planted.chain (place z (suc h)) ≡ [])) (sym e.0) (top.height, ap head (here top.height) ∙ top.begins, here (suc top.height) ∙ top.none))
      | inr e ↦ subst (λ z. MatchOption z ((h : ℕ) → planted.chain (place u h) ≡ []) (λ r. (h : ℕ) × (head (planted.chain (place u h)) ≡ Some r) × (planted.chain (place u (suc h)) ≡ []))) (sym e.1) (old_top u e.0 (roots u) (f.top u))
    ];
  }
    where
      old_top : (u : Tree) → u ≢ t → (o : Option ℕ) → MatchOption o ((h : ℕ) → w.chain (place u h) ≡ []) (λ r. (h : ℕ) × (head (w.chain (place u h)) ≡ Some r) × (w.chain (place u (suc h)) ≡ []))
          → MatchOption o ((h : ℕ) → planted.chain (place u h) ≡ []) (λ r. (h : ℕ) × (head (planted.chain (place u h)) ≡ Some r) × (planted.chain (place u (suc h)) ≡ []))
      old_top u off None a = λ h. there (place u h) off ∙ a h
      old_top u off (Some r) a = (a.0, ap head (there (place u a.0) off) ∙ a.1, there (place u (suc a.0)) off ∙ a.2)

  few_below : (p c h : ℕ) (k : Key) (n d : Node) → IsPointerTo nodes home n h k c → n.merging_child ≡ Some c → nodes c ≡ Some d → count d.content ≤ 17
  few_below p c h k n d l e at = subst (λ (z : Node). count z.content ≤ 17) (one_node c l.node d l.live at) (l.few e)

  few_of : (h p c : ℕ) (n d : Node) → In p (chain h) → nodes p ≡ Some n → n.merging_child ≡ Some c → nodes c ≡ Some d → count d.content ≤ 17
  few_of h p c n d i live e at =
      let a = here_is h p i in
      let same = node_is h p n a live in
      let k = a.page.child c (ap (λ (z : Node). z.merging_child) same ∙ e) in
      let j : In (k.0, c) (later (pointers n.content)) = subst (λ (z : Node). In (k.0, c) (later (pointers z.content))) same k.1 in
      let g = above_leaves h a.node.lo a.node.hi a.node.content (k.0, c) a.page.sound.holds k.1 in
      let l = is.pointer g.0 p n (omega arith) (subst (λ z. In p (chain z)) g.1 i) live k.0 c (later_in n.content k.0 c j) in
      few_below p c g.0 k.0 n d l e at

  pub sized : IsSized nodes planted
  sized = record {
    fits = λ x p n e live. elim (homes p x e) [
      | inl g ↦
          let a = (is.page p g.0 g.2).1 in
          subst (λ (z : Node). count z.content ≤ 33) (node_is g.0 p n a live) a.page.fits
      | inr old ↦ size.fits x p n old live
    ];
    child = λ x p c n d i live e at. elim (chains x p i) [
      | inl e2 ↦ few_of x.height p c n d e2.1 live e at
      | inr e2 ↦ size.child x p c n d e2.1 live e at
    ];
  }
