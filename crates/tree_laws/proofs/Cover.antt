-- Which page of a chain covers a key, and which page points to a page.
use Rattle.std.proofs.Common.{◌≡◌, ◌≢◌, ℕ, zero, suc, Bool, true, false, T, ◌&&◌, List, [], ◌∷◌, ◌++◌, Option, Some, None, sym, refl, ap, ◌∙◌, subst, inl, inr, ◌⊎◌}
use Rattle.std.specs.FinMap.Entries.{below_all}
use Rattle.std.specs.List.{AllByRecursion}
use Rattle.sled_nodes.proofs.Basics.{some_is, same_or_not, none_some, left_of, less_of}
use Rattle.sled_store.specs.In.{In}
use Rattle.sled_nodes.specs.Node.{Within, pointers}
use Rattle.sled_nodes.specs.Order.{Key, key_cmp, Below, UpTo}
use Rattle.sled_store.specs.State.{Nodes}
use Rattle.sled_nodes.specs.declared.node.Data.{Data}
use Rattle.sled_nodes.specs.declared.node.Data.TheVariants.{Leaf, Index}
use Rattle.sled_nodes.specs.declared.node.Node.{Node}
use Rattle.tree_laws.specs.Forest.{later, Holds, Forest, Place, place, Run, IsPointer, WellFormed, head, Tree}
use Rattle.tree_laws.proofs.Order.{below-trans, below_irrefl, below_upto-trans}
use Rattle.tree_laws.proofs.Pairs.{under}
use Rattle.tree_laws.proofs.Runs.{In-right, rises_on, run_from, run_to, run_parts, In_cases}
use Rattle.tree_laws.proofs.Replace.{place_is, not_both}

-- of two pages of a run, one ends at or below where the other begins
pub run_order : (nodes : Nodes) (ps : List ℕ) (from to : Option ℕ) (lo hi : Key) → Run nodes ps from lo to hi → (p q : ℕ) (n m : Node) → In p ps → In q ps → p ≢ q → nodes p ≡ Some n → nodes q ≡ Some m
    → (Below n.lo n.hi × UpTo n.hi m.lo) ⊎ (Below m.lo m.hi × UpTo m.hi n.lo)
run_order nodes [] from to lo hi r p q n m i j off a b = absurd i
run_order nodes (z ∷ ps) from to lo hi r p q n m (inl e) (inl g) off a b = absurd (off (e ∙ sym g))
run_order nodes (z ∷ ps) from to lo hi r p q n m (inl e) (inr j) off a b =
    let is : r.0 ≡ n = some_is (sym r.1.live ∙ ap nodes (sym e) ∙ a) in
    inl (subst (λ (k : Node). Below k.lo k.hi × UpTo k.hi m.lo) is (rises_on nodes ps r.0 to hi q j r.1.rises r.2, run_from nodes ps _ to _ hi r.2 q m j b))
run_order nodes (z ∷ ps) from to lo hi r p q n m (inr i) (inl e) off a b =
    let is : r.0 ≡ m = some_is (sym r.1.live ∙ ap nodes (sym e) ∙ b) in
    inr (subst (λ (k : Node). Below k.lo k.hi × UpTo k.hi n.lo) is (rises_on nodes ps r.0 to hi p i r.1.rises r.2, run_from nodes ps _ to _ hi r.2 p n i a))
run_order nodes (z ∷ ps) from to lo hi r p q n m (inr i) (inr j) off a b = run_order nodes ps _ to _ hi r.2 p q n m i j off a b

above_first : (e : Key × ℕ) (es : List (Key × ℕ)) (k : Key) (c : ℕ) → T (below_all key_cmp e.0 es) → In (k, c) es → Below e.0 k
above_first e [] k c s i = absurd i
above_first e (d ∷ es) k c s (inl g) = subst (λ z. Below e.0 z.0) (sym g) (less_of _ (left_of _ _ s))
above_first e (d ∷ es) k c s (inr j) = above_first e es k c (second _ _ s) j
  where
    second : (a b : Bool) → T (a && b) → T b
    second true b p = p
    second false b p = absurd p

each_in : (P : Key → Type 0) (es : List (Key × ℕ)) (k : Key) (c : ℕ) → AllByRecursion (λ e. P e.0) es → In (k, c) es → P k
each_in P [] k c a i = absurd i
each_in P (e ∷ es) k c a (inl g) = subst (λ z. P z.0) (sym g) a.0
each_in P (e ∷ es) k c a (inr j) = each_in P es k c a.1 j

-- an index's pointers lie within its bounds, a later one above its lo
pub pointer_within : (h : ℕ) (lo hi : Key) (c : Data) → Holds (suc h) lo hi c → (k : Key) (d : ℕ) → In (k, d) (pointers c) → Within lo hi k
pointer_within h lo hi (Leaf es) s k d i = absurd s
pointer_within h lo hi (Index es) s k d i = each_in (Within lo hi) es k d s.1 i

pub later_in : (c : Data) (k : Key) (d : ℕ) → In (k, d) (later (pointers c)) → In (k, d) (pointers c)
later_in (Leaf es) k d i = i
later_in (Index []) k d i = i
later_in (Index (e ∷ es)) k d i = inr i

pub later_above : (h : ℕ) (lo hi : Key) (c : Data) → Holds (suc h) lo hi c → (k : Key) (d : ℕ) → In (k, d) (later (pointers c)) → Below lo k
later_above h lo hi (Leaf es) s k d i = absurd s
later_above h lo hi (Index []) s k d i = absurd i
later_above h lo hi (Index (e ∷ es)) s k d i = subst (λ z. Below z k) (some_is s.2) (above_first e es k d (left_of _ _ s.0) i)

-- an index's first pointer has its lo
pub first_pointer : (h : ℕ) (lo hi : Key) (c : Data) → Holds (suc h) lo hi c → (d : ℕ) × In (lo, d) (pointers c)
first_pointer h lo hi (Leaf es) s = absurd s
first_pointer h lo hi (Index []) s = none_some s.2
first_pointer h lo hi (Index (e ∷ es)) s = (e.1, inl (same (some_is s.2)))
  where
    same : e.0 ≡ lo → (lo, e.1) ≡ e
    same q = λ i. (sym q i, e.1)

leaf_none : (lo hi : Key) (c : Data) → Holds 0 lo hi c → (k : Key) (d : ℕ) → In (k, d) (later (pointers c)) → ⊥
leaf_none lo hi (Leaf es) s k d i = i
leaf_none lo hi (Index es) s k d i = s

module _ {nodes : Nodes} {roots : Tree → Option ℕ} {w : Forest} (f : WellFormed nodes roots w) where
  pub chain_run : (x : Place) (p : ℕ) → In p (w.chain x) → Run nodes (w.chain x) (head (w.chain x)) [] None []
  chain_run x p i = elim (f.run x) [ inl e ↦ absurd (subst (λ c. In p c) e i) | inr r ↦ r ]

  pub holds_at : (x : Place) (p : ℕ) (n : Node) → In p (w.chain x) → nodes p ≡ Some n → Holds x.height n.lo n.hi n.content
  holds_at x p n i live = let h = f.page x p (f.homed x p i) in subst (λ (z : Node). Holds x.height z.lo z.hi z.content) (some_is (sym h.1.live ∙ live)) h.1.sound.holds

  -- the runs before and behind a page of a chain
  pub parted : (x : Place) (p : ℕ) (n : Node) (xs ys : List ℕ) → w.chain x ≡ xs ++ (p ∷ ys) → nodes p ≡ Some n → Run nodes xs (head (w.chain x)) [] (Some p) n.lo × ((n.next ≡ None) ⊎ Below n.lo n.hi) × Run nodes ys n.next n.hi None []
  parted x p n xs ys e live =
      let from : Option ℕ = head (w.chain x) in
      let r = run_parts nodes xs (p ∷ ys) _ _ _ _ (subst (λ z. Run nodes z from [] None []) e (chain_run x p (subst (λ z. In p z) (sym e) (In-right xs (p ∷ ys) p (inl refl))))) in
      subst (λ (z : Node). Run nodes xs from [] (Some p) z.lo × ((z.next ≡ None) ⊎ Below z.lo z.hi) × Run nodes ys z.next z.hi None []) (some_is (sym r.3.1.live ∙ live))
      (subst (λ g. Run nodes xs from [] g r.3.0.lo) r.3.1.here (subst (λ k. Run nodes xs from [] r.0 k) r.3.1.lo_is r.2), r.3.1.rises, r.3.2)

  -- of the pages of a chain one covers a key
  pub one_cover : (x : Place) (p q : ℕ) (n m : Node) (k : Key) → In p (w.chain x) → In q (w.chain x) → nodes p ≡ Some n → nodes q ≡ Some m → Within n.lo n.hi k → Within m.lo m.hi k → p ≡ q
  one_cover x p q n m k i j a b c d = elim (same_or_not p q) [
    | inl e ↦ e
    | inr off ↦ elim (run_order nodes (w.chain x) _ _ _ _ (chain_run x p i) p q n m i j off a b) [
      | inl o ↦ absurd (below_irrefl k (below_upto-trans k m.lo k (below_upto-trans k n.hi m.lo (under _ _ _ o.0 c) o.1) d.0))
      | inr o ↦ absurd (below_irrefl k (below_upto-trans k n.lo k (below_upto-trans k m.hi n.lo (under _ _ _ o.0 d) o.1) c.0))
    ]
  ]

  -- one page of a chain points to a page
  pub one_parent : (t : Tree) (h : ℕ) (p q c : ℕ) (n m : Node) (k l : Key) → In p (w.chain (place t (suc h))) → In q (w.chain (place t (suc h))) → nodes p ≡ Some n → nodes q ≡ Some m → In (k, c) (pointers n.content) → In (l, c) (pointers m.content) → p ≡ q
  one_parent t h p q c n m k l i j a b u v =
      let d = f.pointer t h p n i a k c u in
      let e = f.pointer t h q m j b l c v in
      let same : l ≡ k = sym e.key ∙ ap (λ (z : Node). z.lo) (some_is (sym e.live ∙ d.live)) ∙ d.key in
      one_cover (place t (suc h)) p q n m k i j a b (pointer_within h _ _ _ (holds_at _ p n i a) k c u)
      (subst (λ z. Within m.lo m.hi z) same (pointer_within h _ _ _ (holds_at _ q m j b) l c v))

  -- no page of a chain begins between a page and the one behind it
  between : (x : Place) (xs ys : List ℕ) (p c : ℕ) (n d : Node) → Run nodes (xs ++ (p ∷ (c ∷ ys))) (head (w.chain x)) [] None [] → nodes p ≡ Some n → nodes c ≡ Some d
      → (z : ℕ) (e : Node) → In z (xs ++ (p ∷ (c ∷ ys))) → nodes z ≡ Some e → Below n.lo e.lo → Below e.lo d.lo → ⊥
  between x xs ys p c n d whole pn cd z e i live above below =
      let s = run_parts nodes xs _ _ _ _ _ whole in
      let l = s.3 in
      let from : s.0 ≡ Some p = l.1.here in
      let np : l.0 ≡ n = some_is (sym l.1.live ∙ pn) in
      let dc : l.2.0 ≡ d = some_is (sym l.2.1.live ∙ cd) in
      let early : Run nodes xs (head (w.chain x)) [] (Some p) s.1 = subst (λ g. Run nodes xs (head (w.chain x)) [] g s.1) from s.2 in
      let key : s.1 ≡ n.lo = l.1.lo_is ∙ ap (λ (z : Node). z.lo) np in
      elim (In_cases xs _ z i) [
        | inl a ↦ below_irrefl n.lo (below-trans n.lo e.lo n.lo above (subst (λ k. Below e.lo k) key (run_to nodes xs _ p _ _ early z e a live)))
        | inr b ↦ elim b [
          | inl g ↦ below_irrefl n.lo (subst (λ (k : Node). Below n.lo k.lo) (some_is (sym live ∙ ap nodes g ∙ pn)) above)
          | inr b' ↦ elim b' [
            | inl g ↦ below_irrefl d.lo (subst (λ (k : Node). Below k.lo d.lo) (some_is (sym live ∙ ap nodes g ∙ cd)) below)
            | inr g ↦
                let up : Below d.lo d.hi = subst (λ (k : Node). Below k.lo k.hi) dc (rises_on nodes ys l.2.0 None [] z g l.2.1.rises l.2.2) in
                let far : UpTo d.hi e.lo = subst (λ (k : Node). UpTo k.hi e.lo) dc (run_from nodes ys _ None _ [] l.2.2 z e g live) in
                below_irrefl d.lo (below-trans d.lo e.lo d.lo (below_upto-trans d.lo d.hi e.lo up far) below)
          ]
        ]
      ]

  -- where an index begins a page of the level below does
  pub begins : (t : Tree) (h r : ℕ) (b : Node) → In r (w.chain (place t (suc h))) → nodes r ≡ Some b → (z : ℕ) × (e : Node) × In z (w.chain (place t h)) × (nodes z ≡ Some e) × (e.lo ≡ b.lo)
  begins t h r b j rb =
      let s = holds_at (place t (suc h)) r b j rb in
      let p = first_pointer h b.lo b.hi b.content s in
      let i = f.pointer t h r b j rb b.lo p.0 p.1 in
      let g = f.page (place t h) p.0 i.homed in
      let same : g.0 ≡ i.node = some_is (sym g.1.live ∙ i.live) in (
        p.0,
        i.node,
        elim g.1.stands [
          | inl a ↦ a
          | inr m ↦
              let k = f.child (place t (suc h)) r b j rb p.0 (i.merged (subst (λ (z : Node). z.merging ≡ true) same m)) in
              let o = f.pointer t h r b j rb k.0 p.0 (later_in b.content k.0 p.0 k.1) in
              let e : k.0 ≡ b.lo = sym o.key ∙ ap (λ (z : Node). z.lo) (some_is (sym o.live ∙ i.live)) ∙ i.key in
              absurd (below_irrefl b.lo (subst (λ z. Below b.lo z) e (later_above h b.lo b.hi b.content s k.0 p.0 k.1)))
        ],
        i.live,
        i.key,
      )

  -- where c stands behind p, and c is a merging child, a page that has p as a later child is c's parent
  pub one_later : (t : Tree) (h : ℕ) (xs ys : List ℕ) (p c : ℕ) (n d : Node) → w.chain (place t h) ≡ xs ++ (p ∷ (c ∷ ys)) → nodes p ≡ Some n → nodes c ≡ Some d
      → (q r : ℕ) (a b : Node) (l : Key) → In q (w.chain (place t (suc h))) → In r (w.chain (place t (suc h))) → nodes q ≡ Some a → nodes r ≡ Some b → In (l, p) (later (pointers a.content)) → b.merging_child ≡ Some c → q ≡ r
  one_later t h xs ys p c n d is pn cd q r a b l i j qa rb ap' bc =
      let whole : Run nodes (xs ++ (p ∷ (c ∷ ys))) (head (w.chain (place t h))) [] None [] = subst (λ z. Run nodes z (head (w.chain (place t h))) [] None []) is (chain_run (place t h) p (subst (λ z. In p z) (sym is) (In-right xs _ p (inl refl)))) in
      let s = parted (place t h) p n xs (c ∷ ys) is pn in
      let low : Below n.lo d.lo = subst (λ (z : Node). Below n.lo z.lo) (some_is (sym s.2.1.live ∙ cd)) (subst (λ k. Below n.lo k) s.2.1.lo_is (rises_on nodes (c ∷ ys) n None [] c (inl refl) s.1 s.2)) in
      let ka : (k : Key) × In (k, p) (later (pointers a.content)) = (l, ap') in
      let kb = f.child _ r b j rb c bc in
      let ia = f.pointer t h q a i qa ka.0 p (later_in a.content ka.0 p ka.1) in
      let ib = f.pointer t h r b j rb kb.0 c (later_in b.content kb.0 c kb.1) in
      let ea : ka.0 ≡ n.lo = sym ia.key ∙ ap (λ (z : Node). z.lo) (some_is (sym ia.live ∙ pn)) in
      let eb : kb.0 ≡ d.lo = sym ib.key ∙ ap (λ (z : Node). z.lo) (some_is (sym ib.live ∙ cd)) in
      let ha = holds_at _ q a i qa in
      let hb = holds_at _ r b j rb in
      let la : Below a.lo n.lo = subst (λ k. Below a.lo k) ea (later_above h _ _ _ ha _ _ ka.1) in
      let lb : Below b.lo d.lo = subst (λ k. Below b.lo k) eb (later_above h _ _ _ hb _ _ kb.1) in
      let wa : Within a.lo a.hi n.lo = subst (λ k. Within a.lo a.hi k) ea (pointer_within h _ _ _ ha _ _ (later_in a.content ka.0 p ka.1)) in
      let wb : Within b.lo b.hi d.lo = subst (λ k. Within b.lo b.hi k) eb (pointer_within h _ _ _ hb _ _ (later_in b.content kb.0 c kb.1)) in
      elim (same_or_not q r) [
        | inl e ↦ e
        | inr off ↦ elim (run_order nodes _ _ _ _ _ (chain_run _ q i) q r a b i j off qa rb) [
          | inl o ↦
              let high : Below n.lo b.lo = below_upto-trans n.lo a.hi b.lo (under _ _ _ o.0 wa) o.1 in
              let z = begins t h r b j rb in
              absurd (between (place t h) xs ys p c n d whole pn cd z.0 z.1 (subst (λ l. In z.0 l) is z.2) z.3 (subst (λ k. Below n.lo k) (sym z.4) high) (subst (λ k. Below k d.lo) (sym z.4) lb))
          | inr o ↦ absurd (below_irrefl d.lo (below-trans d.lo a.lo d.lo (below_upto-trans d.lo b.hi a.lo (under _ _ _ o.0 wb) o.1) (below-trans a.lo n.lo d.lo la low)))
        ]
      ]

  -- they are not both merging children
  pub not_both_children : (t : Tree) (h : ℕ) (xs ys : List ℕ) (p c : ℕ) (n d : Node) → w.chain (place t h) ≡ xs ++ (p ∷ (c ∷ ys)) → nodes p ≡ Some n → nodes c ≡ Some d → n.merging ≡ false → d.merging ≡ true
      → (q r : ℕ) (a b : Node) → In q (w.chain (place t (suc h))) → In r (w.chain (place t (suc h))) → nodes q ≡ Some a → nodes r ≡ Some b → a.merging_child ≡ Some p → b.merging_child ≡ Some c → ⊥
  not_both_children t h xs ys p c n d is pn cd calm cap q r a b i j qa rb ap' bc =
      let k = f.child _ q a i qa p ap' in
      let e = one_later t h xs ys p c n d is pn cd q r a b k.0 i j qa rb k.1 bc in
      let ab : a ≡ b = some_is (sym qa ∙ ap nodes e ∙ rb) in
      let pc : p ≡ c = some_is (sym ap' ∙ ap (λ (z : Node). z.merging_child) ab ∙ bc) in
      not_both n.merging calm (subst (λ (z : Node). z.merging ≡ true) (some_is (sym cd ∙ ap nodes (sym pc) ∙ pn)) cap)

  -- who has a merging child is an index, with a later pointer to it
  pub child_below : (x : Place) (p : ℕ) (n : Node) (c : ℕ) → In p (w.chain x) → nodes p ≡ Some n → n.merging_child ≡ Some c
      → (h : ℕ) × (x ≡ place x.tree (suc h)) × (k : Key) × In (k, c) (later (pointers n.content)) × IsPointer nodes w n x.tree h k c
  child_below x p n c i live is = go x.height refl
    where
      g : (k : Key) × In (k, c) (later (pointers n.content))
      g = f.child x p n i live c is

      go : (z : ℕ) → x.height ≡ z → (h : ℕ) × (x ≡ place x.tree (suc h)) × (k : Key) × In (k, c) (later (pointers n.content)) × IsPointer nodes w n x.tree h k c
      go zero e = absurd (leaf_none n.lo n.hi n.content (subst (λ z. Holds z n.lo n.hi n.content) e (holds_at x p n i live)) g.0 c g.1)
      go (suc h) e =
          let at : x ≡ place x.tree (suc h) = place_is x (place x.tree (suc h)) refl e in
          (h, at, g.0, g.1, f.pointer x.tree h p n (subst (λ z. In p (w.chain z)) at i) live g.0 c (later_in n.content g.0 c g.1))
