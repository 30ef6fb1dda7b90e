-- One page of a tree changes: what is left to repair changes by two levels at most, that of the page and the one below it.
use Rattle.std.proofs.Common.{◌≡◌, ◌≢◌, ℕ, zero, suc, ◌+◌, ◌-◌, ◌≤◌, ◌<◌, ◌^◌, List, [], ◌∷◌, Option, Some, None, option_map, length, sym, refl, ap, ◌∙◌, subst, inl, inr, ◌⊎◌, arith}
use Rattle.sled_nodes.proofs.Basics.{none_some, some_is, same_or_not}
use Rattle.sled_store.specs.In.{In}
use Rattle.sled_store.specs.State.{State, Nodes, nodes_of, PageBecomes, after}
use Rattle.sled_store.specs.theory.Facts.{put_here, put_elsewhere}
use Rattle.sled_nodes.specs.declared.node.Node.{Node}
use Rattle.sled_store.specs.declared.page.Page.{Page}
use Rattle.tree_laws.specs.Forest.{Tree, Forest, Place, place, head, WellFormed}
use Rattle.tree_laws.specs.Contents.{next_of, first_of}
use Rattle.tree_laws.specs.Paths.{tree_pages}
use Rattle.tree_laws.proofs.Reading.{child_of}
use Rattle.tree_laws.proofs.Replace.{head_in}
use Rattle.tree_progress.specs.ToDo.{to_do, level_weight}
use Rattle.tree_progress.proofs.Counting.{pages_more}
use Rattle.tree_progress.proofs.Sums.{over, over_same, over_one, over_two}
use Rattle.tree_progress.proofs.Levels.{level_frame}
use Rattle.tree_progress.proofs.Shapes.{Leads, IsShape, level_at, shape_of, to_do_levels, to_do_none}

pub leads_frame : (nodes new : Nodes) (ps : List ℕ) (from : Option ℕ) → ((q : ℕ) → In q ps → next_of (new q) ≡ next_of (nodes q)) → Leads nodes from ps → Leads new from ps
leads_frame nodes new [] from same l = l
leads_frame nodes new (p ∷ ps) from same l = (l.0, leads_frame nodes new ps _ (λ q i. same q (inr i)) (subst (λ o. Leads nodes o ps) (sym (same p (inl refl))) l.1))

-- pages that lead on and down as before are levels as before
pub shape_frame : (nodes new : Nodes) (chains : ℕ → List ℕ) (root height : ℕ) → IsShape nodes chains root height → ((h q : ℕ) → In q (chains h) → (next_of (new q) ≡ next_of (nodes q)) × (first_of (new q) ≡ first_of (nodes q)))
    → IsShape new chains root height
shape_frame nodes new chains root height s same = record {
  begins = s.begins;
  leads = λ h l. leads_frame nodes new (chains h) _ (λ q i. (same h q i).0) (s.leads h l);
  down = λ h p l e. (same (suc h) p (head_in _ p e)).1 ∙ s.down h p l e;
  bottom = λ p e. (same 0 p (head_in _ p e)).1 ∙ s.bottom p e;
  few = s.few;
  low = s.low;
  top = s.top;
  alone = s.alone;
}

-- a level with a page is not above the root's
pub level_low : {nodes : Nodes} {roots : Tree → Option ℕ} {w : Forest} (f : WellFormed nodes roots w) (t : Tree) (root height : ℕ) → IsShape nodes (λ h. w.chain (place t h)) root height → (k p : ℕ) → In p (w.chain (place t k)) → k < suc height
level_low {nodes} {roots} {w} f t root height s k p i = elim (split k) [
  | inl l ↦ l
  | inr l ↦
      let top = some_below (k - suc height) (suc height) (omega arith) in
      none_some {a = top.0} (sym (ap head s.alone) ∙ top.1)
]
  where
    split : (k : ℕ) → (k < suc height) ⊎ (suc height ≤ k)
    split k = grind arith

    first : (ps : List ℕ) → In p ps → (q : ℕ) × (head ps ≡ Some q)
    first [] i = absurd i
    first (q ∷ ps) i = (q, refl)

    some_below : (d h : ℕ) → k ≡ h + d → (q : ℕ) × (head (w.chain (place t h)) ≡ Some q)
    some_below zero h e = let same : k ≡ h = omega arith in first (w.chain (place t h)) (subst (λ z. In p (w.chain (place t z))) same i)
    some_below (suc d) h e =
        let up = some_below d (suc h) (omega arith) in
        let g = f.page (place t (suc h)) up.0 (f.homed (place t (suc h)) up.0 (head_in _ up.0 up.1)) in
        let c = child_of f t h up.0 g.0 up.1 g.1.live in
        (c.0, c.2)

-- the weights that a change of a page at a height shows in
abbrev pub levels_at : Nodes → (ℕ → List ℕ) → ℕ → ℕ
levels_at nodes chains zero = level_at nodes chains 0
levels_at nodes chains (suc j) = level_at nodes chains (suc j) + level_at nodes chains j

over_levels : (n k d e : ℕ) (nodes new : Nodes) (c c' : ℕ → List ℕ) → k < n → ((h : ℕ) → h ≢ k → suc h ≢ k → level_at new c' h ≡ level_at nodes c h)
    → levels_at new c' k + d ≤ levels_at nodes c k + e → over (level_at new c') n + d ≤ over (level_at nodes c) n + e
over_levels n zero d e nodes new c c' l same at = over_one (level_at nodes c) (level_at new c') n 0 d e l (λ h u o. same h o not_zero) at
  where
    not_zero : {h : ℕ} → suc h ≢ 0
    not_zero u = omega arith
over_levels n (suc j) d e nodes new c c' l same at = over_two (level_at nodes c) (level_at new c') n j d e l (λ h u o o'. same h o' (λ e. o (omega arith))) at

module _ (s : State) (w : Forest) (f : WellFormed (nodes_of s) s.roots w) (below : (p : ℕ) (g : Page) → s.pages p ≡ Some g → p < 2 ^ 64) (t : Tree) (k p : ℕ) (i : In p (w.chain (place t k))) (g : Page) where
  abbrev pub new : State
  new = after (PageBecomes p (Some g)) s

  pub now_is : nodes_of new p ≡ Some g.node
  now_is = ap (option_map (λ (z : Page). z.node)) (put_here s.pages p (Some g))

  pub others_are : (q : ℕ) → q ≢ p → nodes_of new q ≡ nodes_of s q
  others_are q off = ap (option_map (λ (z : Page). z.node)) (put_elsewhere s.pages p q (Some g) off)

  -- the page stands on no other level
  pub off_place : (y : Place) (q : ℕ) → y ≢ place t k → In q (w.chain y) → q ≢ p
  off_place y q off j e = off (some_is (sym (f.homed y q j) ∙ ap w.home e ∙ f.homed (place t k) p i))

  pub off_level : (h q : ℕ) → h ≢ k → In q (w.chain (place t h)) → q ≢ p
  off_level h q off = off_place (place t h) q (λ e. off (ap (λ (z : Place). z.height) e))

  -- in another tree nothing changes
  pub others_stay : (u : Tree) → u ≢ t → to_do new u ≡ to_do s u
  others_stay u off = go (s.roots u) refl
    where
      same : (h q : ℕ) → In q (w.chain (place u h)) → nodes_of new q ≡ nodes_of s q
      same h q j = others_are q (off_place (place u h) q (λ e. off (ap (λ (z : Place). z.tree) e)) j)

      go : (o : Option ℕ) → s.roots u ≡ o → to_do new u ≡ to_do s u
      go None e = to_do_none new u e ∙ sym (to_do_none s u e)
      go (Some r) e =
          let a = shape_of s w f below u r e in
          let b = shape_frame (nodes_of s) (nodes_of new) (λ h. w.chain (place u h)) r a.0 a.1 (λ h q j. (ap next_of (same h q j), ap first_of (same h q j))) in
          to_do_levels new u (λ h. w.chain (place u h)) r a.0 e b
          ∙ over_same (level_at (nodes_of s) (λ h. w.chain (place u h))) (level_at (nodes_of new) (λ h. w.chain (place u h))) (suc a.0) (λ h l. level_frame (nodes_of s) (nodes_of new) (w.chain (place u (suc h))) (w.chain (place u h)) (same (suc h)) (same h))
          ∙ sym (to_do_levels s u (λ h. w.chain (place u h)) r a.0 e a.1)

  -- in its own tree the level of the page and the one below it change
  pub here_changes : (root height d e : ℕ) (chains : ℕ → List ℕ) → s.roots t ≡ Some root → IsShape (nodes_of s) (λ h. w.chain (place t h)) root height → IsShape (nodes_of new) chains root height
      → ((h : ℕ) → h ≢ k → chains h ≡ w.chain (place t h)) → levels_at (nodes_of new) chains k + d ≤ levels_at (nodes_of s) (λ h. w.chain (place t h)) k + e → to_do new t + d ≤ to_do s t + e
  here_changes root height d e chains is a b stays at =
      let x = to_do_levels new t chains root height is b in
      let y = to_do_levels s t (λ h. w.chain (place t h)) root height is a in
      let z = over_levels (suc height) k d e (nodes_of s) (nodes_of new) (λ h. w.chain (place t h)) chains (level_low f t root height a k p i) frame at in
      joined _ _ _ _ x y z
    where
      same : (h q : ℕ) → h ≢ k → In q (w.chain (place t h)) → nodes_of new q ≡ nodes_of s q
      same h q off j = others_are q (off_level h q off j)

      frame : (h : ℕ) → h ≢ k → suc h ≢ k → level_at (nodes_of new) chains h ≡ level_at (nodes_of s) (λ h. w.chain (place t h)) h
      frame h off up =
          ap (λ z. level_weight (nodes_of new) (chains (suc h)) z) (stays h off) ∙ ap (λ z. level_weight (nodes_of new) z (w.chain (place t h))) (stays (suc h) up)
          ∙ level_frame (nodes_of s) (nodes_of new) (w.chain (place t (suc h))) (w.chain (place t h)) (λ q. same (suc h) q up) (λ q. same h q off)

      joined : (x y u v : ℕ) → x ≡ u → y ≡ v → u + d ≤ v + e → x + d ≤ y + e
      joined x y u v a b c = omega arith

  -- .. and it has one page more at most, where that level has
  pub here_counts : (root height : ℕ) (chains : ℕ → List ℕ) → s.roots t ≡ Some root → IsShape (nodes_of s) (λ h. w.chain (place t h)) root height → IsShape (nodes_of new) chains root height
      → ((h : ℕ) → h ≢ k → chains h ≡ w.chain (place t h)) → length (chains k) ≤ length (w.chain (place t k)) + 1 → tree_pages new t ≤ tree_pages s t + 1
  here_counts root height chains is a b stays one = pages_more s new t (λ h. w.chain (place t h)) chains root height k is is a b (level_low f t root height a k p i) stays one

  -- a page that leads on and down as before
  leads_same : (n : Node) → nodes_of s p ≡ Some n → next_of (Some g.node) ≡ next_of (Some n) → first_of (Some g.node) ≡ first_of (Some n) → (h q : ℕ) → In q (w.chain (place t h)) → (next_of (nodes_of new q) ≡ next_of (nodes_of s q)) × (first_of (nodes_of new q) ≡ first_of (nodes_of s q))
  leads_same n live next first h q j = elim (same_or_not q p) [
    | inl e ↦ let a : nodes_of new q ≡ Some g.node = ap (nodes_of new) e ∙ now_is in let b : nodes_of s q ≡ Some n = ap (nodes_of s) e ∙ live in (ap next_of a ∙ next ∙ sym (ap next_of b), ap first_of a ∙ first ∙ sym (ap first_of b))
    | inr off ↦ (ap next_of (others_are q off), ap first_of (others_are q off))
  ]

  pub page_changes : (root d e : ℕ) (n : Node) → s.roots t ≡ Some root → nodes_of s p ≡ Some n → next_of (Some g.node) ≡ next_of (Some n) → first_of (Some g.node) ≡ first_of (Some n)
      → levels_at (nodes_of new) (λ h. w.chain (place t h)) k + d ≤ levels_at (nodes_of s) (λ h. w.chain (place t h)) k + e → to_do new t + d ≤ to_do s t + e
  page_changes root d e n is live next first at =
      let a = shape_of s w f below t root is in
      here_changes root a.0 d e (λ h. w.chain (place t h)) is a.1 (shape_frame (nodes_of s) (nodes_of new) (λ h. w.chain (place t h)) root a.0 a.1 (leads_same n live next first)) (λ h off. refl) at

  pub page_counts : (root : ℕ) (n : Node) → s.roots t ≡ Some root → nodes_of s p ≡ Some n → next_of (Some g.node) ≡ next_of (Some n) → first_of (Some g.node) ≡ first_of (Some n) → tree_pages new t ≤ tree_pages s t + 1
  page_counts root n is live next first =
      let a = shape_of s w f below t root is in
      here_counts root a.0 (λ h. w.chain (place t h)) is a.1 (shape_frame (nodes_of s) (nodes_of new) (λ h. w.chain (place t h)) root a.0 a.1 (leads_same n live next first)) (λ h off. refl) (more _)
    where
      more : (x : ℕ) → x ≤ x + 1
      more x = omega arith
