-- A page lies within the bounds of the index above that covers its beginning.
use Rattle.std.proofs.Common.{◌≡◌, ◌≢◌, ℕ, suc, List, [], ◌∷◌, ◌++◌, Option, Some, None, sym, ap, ◌∙◌, subst, inl, inr, ◌⊎◌}
use Rattle.sled_nodes.proofs.Basics.{none_some, some_is}
use Rattle.sled_store.specs.In.{In}
use Rattle.sled_nodes.specs.Node.{Within}
use Rattle.sled_nodes.specs.Order.{Below}
use Rattle.sled_store.specs.State.{Nodes}
use Rattle.sled_nodes.specs.declared.node.Node.{Node}
use Rattle.tree_laws.specs.Forest.{Forest, Place, place, Run, WellFormed, Tree}
use Rattle.tree_laws.specs.theory.PageLaws.{InsideLaw, ReachedLaw}
use Rattle.tree_laws.proofs.Order.{upto-refl, upto-below, upto_cases, upto-trans, below_irrefl, below-trans, below_upto-trans}
use Rattle.tree_laws.proofs.Pairs.{under}
use Rattle.tree_laws.proofs.Runs.{In_split, In-right}
use Rattle.tree_laws.proofs.Cover.{begins, chain_run, parted, run_order, one_cover}

module _ {nodes : Nodes} {roots : Tree → Option ℕ} {w : Forest} (f : WellFormed nodes roots w) where
  -- a page with an upper bound has a page behind it that begins there
  pub behind : (x : Place) (p : ℕ) (n : Node) → In p (w.chain x) → nodes p ≡ Some n → (n.hi ≡ []) ⊎ ((z : ℕ) × (e : Node) × In z (w.chain x) × (nodes z ≡ Some e) × (e.lo ≡ n.hi) × (n.next ≡ Some z))
  behind x p n i live =
      let s = In_split (w.chain x) p i in
      go s.0 s.1 s.2 (parted f x p n s.0 s.1 s.2 live).2
    where
      go : (xs zs : List ℕ) → w.chain x ≡ xs ++ (p ∷ zs) → Run nodes zs n.next n.hi None [] → (n.hi ≡ []) ⊎ ((z : ℕ) × (e : Node) × In z (w.chain x) × (nodes z ≡ Some e) × (e.lo ≡ n.hi) × (n.next ≡ Some z))
      go xs [] e r = inl r.1
      go xs (z ∷ zs) e r = inr (z, r.0, subst (λ c. In z c) (sym e) (In-right xs (p ∷ (z ∷ zs)) z (inr (inl (λ i. z)))), r.1.live, sym r.1.lo_is, r.1.here)

pub inside_law : InsideLaw
inside_law nodes roots w f t h p q n m i pn j qm begin k here = (
  upto-trans n.lo m.lo k begin.0 here.0,
  elim (behind f (place t (suc h)) p n i pn) [
    | inl e ↦ inl e
    | inr b ↦
        let z = begins f t h b.0 b.1 b.2 b.3 in
        let end : z.1.lo ≡ n.hi = z.4 ∙ b.4 in
        elim begin.1 [
          | inl e ↦ inl e
          | inr low ↦
              let low' : Below m.lo z.1.lo = subst (λ l. Below m.lo l) (sym end) low in
              let off : q ≢ z.0 = λ e. below_irrefl m.lo (subst (λ (a : Node). Below m.lo a.lo) (some_is (sym z.3 ∙ ap nodes (sym e) ∙ qm)) low') in
              elim (run_order nodes (w.chain (place t h)) _ _ _ _ (chain_run f (place t h) q j) q z.0 m z.1 j z.2 off qm z.3) [
                | inl o ↦ inr (subst (λ l. Below k l) end (below_upto-trans k m.hi z.1.lo (under m.lo m.hi k o.0 here) o.1))
                | inr o ↦ absurd (below_irrefl m.lo (below-trans m.lo z.1.lo m.lo low' (below_upto-trans z.1.lo z.1.hi m.lo o.0 o.1)))
              ]
        ]
  ],
)

-- a page of a chain covers its own beginning
pub covers_itself : {nodes : Nodes} {roots : Tree → Option ℕ} {w : Forest} (f : WellFormed nodes roots w) (x : Place) (p : ℕ) (n : Node) → In p (w.chain x) → nodes p ≡ Some n → Within n.lo n.hi n.lo
covers_itself {nodes = nodes} {w = w} f x p n i live =
    let s = In_split (w.chain x) p i in
    let r = parted f x p n s.0 s.1 s.2 live in
    (upto-refl n.lo, elim r.1 [ inl e ↦ inl (ends s.1 e r.2) | inr b ↦ inr b ])
  where
    ends : (zs : List ℕ) → n.next ≡ None → Run nodes zs n.next n.hi None [] → n.hi ≡ []
    ends [] e r = r.1
    ends (z ∷ zs) e r = none_some (sym e ∙ r.1.here)

pub reached_law : ReachedLaw
reached_law nodes roots w f x p c n d i live there low far off j = elim far [
  | inl e ↦ same (one_cover f x p c n d d.lo i j live there (upto-below n.lo d.lo low, inl e) (covers_itself f x c d j there))
  | inr u ↦ elim (upto_cases d.lo n.hi u) [
    | inl b ↦ same (one_cover f x p c n d d.lo i j live there (upto-below n.lo d.lo low, inr b) (covers_itself f x c d j there))
    | inr e ↦ elim (behind f x p n i live) [
      | inl g ↦ same (one_cover f x p c n d d.lo i j live there (upto-below n.lo d.lo low, inl g) (covers_itself f x c d j there))
      | inr b ↦ off (b.5 ∙ ap Some (one_cover f x b.0 c b.1 d d.lo b.2 j b.3 there (subst (λ k. Within b.1.lo b.1.hi k) (b.4 ∙ sym e) (covers_itself f x b.0 b.1 b.2 b.3)) (covers_itself f x c d j there)))
    ]
  ]
]
  where
    same : p ≡ c → ⊥
    same e = below_irrefl n.lo (subst (λ (z : Node). Below n.lo z.lo) (some_is (sym there ∙ ap nodes (sym e) ∙ live)) low)
