-- A way along pages that are all different ends before the fuel does, so the contents as a function are the forest's.
use Rattle.std.proofs.Common.{◌≡◌, ◌≢◌, ℕ, zero, suc, ◌<◌, ◌≤◌, ◌^◌, Bool, true, false, ◌||◌, eqb, List, [], ◌∷◌, ◌++◌, length, Option, Some, None, MatchOption, option_map, sym, refl, ap, ◌∙◌, subst, inl, inr, arith}
use Rattle.std.specs.List.{AllByRecursion, IsDistinct, list_any}
use Rattle.std.proofs.lemmas.Map.Steps.{length-le_from_distinct_below}
use Rattle.std.proofs.lemmas.Bool.Decides.{nat_tests}
use Rattle.sled_nodes.proofs.Basics.{none_some, some_is, false_true}
use Rattle.sled_store.specs.In.{In}
use Rattle.sled_nodes.specs.Node.{pointers}
use Rattle.sled_nodes.specs.Order.{Key, Below}
use Rattle.sled_store.specs.State.{State, Nodes, nodes_of}
use Rattle.sled_nodes.specs.declared.node.Data.{Data}
use Rattle.sled_nodes.specs.declared.node.Data.TheVariants.{Leaf, Index}
use Rattle.sled_nodes.specs.declared.node.Node.{Node}
use Rattle.sled_store.specs.declared.page.Page.{Page}
use Rattle.tree_laws.specs.Forest.{Tree, Forest, Place, place, head, first_child, Holds, Run, WellFormed, contents, node_pairs}
use Rattle.tree_laws.specs.theory.Drops.{Different}
use Rattle.tree_laws.specs.Contents.{page_numbers, next_of, first_of, along, first_leaf, pairs_under}
use Rattle.tree_laws.specs.theory.Laws.{ContentsLaw}
use Rattle.tree_laws.proofs.Order.{below_irrefl}
use Rattle.tree_laws.proofs.Replace.{pairs_of, behind_first, head_in}
use Rattle.tree_laws.proofs.Cover.{chain_run}
use Rattle.tree_laws.proofs.Reading.{child_of}

pub page_numbers_is : page_numbers ≡ 2 ^ 64
unfolding page_numbers
page_numbers_is = refl

distinct : (ps : List ℕ) → Different ps → IsDistinct eqb ps
unfolding IsDistinct
distinct [] d = tt
distinct (p ∷ ps) d = (each ps d.0, distinct ps d.1)
  where
    each : (qs : List ℕ) → ((q : ℕ) → In q qs → q ≢ p) → AllByRecursion (λ q. eqb p q ≡ false) qs
    each [] h = tt
    each (q ∷ qs) h = (test (h q (inl refl)), each qs (λ z i. h z (inr i)))
      where
        test : q ≢ p → eqb p q ≡ false
        test off = grind (arith, nat_tests)

any_in : (q : ℕ) (ps : List ℕ) → list_any (eqb q) ps ≡ true → In q ps
any_in q [] e = false_true e
any_in q (p ∷ ps) e = go (eqb q p) refl e (any_in q ps)
  where
    same : eqb q p ≡ true → q ≡ p
    same h = grind (arith, nat_tests)

    go : (b : Bool) → eqb q p ≡ b → (b || list_any (eqb q) ps) ≡ true → (list_any (eqb q) ps ≡ true → In q ps) → In q (p ∷ ps)
    go true h g more = inl (same h)
    go false h g more = inr (more g)

-- different pages that all have numbers below n are at most n
pub few_different : (ps : List ℕ) (n : ℕ) → Different ps → ((q : ℕ) → In q ps → q < n) → length ps ≤ n
few_different ps n d below = length-le_from_distinct_below ps n (distinct ps d) (λ q e. below q (any_in q ps e))

-- no page stands twice in a chain
pub run_different : (nodes : Nodes) (ps : List ℕ) (from to : Option ℕ) (lo hi : Key) → Run nodes ps from lo to hi → Different ps
run_different nodes [] from to lo hi r = tt
run_different nodes (p ∷ ps) from to lo hi r = (λ q i e. off q i e, run_different nodes ps _ to _ hi r.2)
  where
    off : (q : ℕ) → In q ps → q ≢ p
    off q i e =
        let live : nodes q ≡ Some r.0 = ap nodes e ∙ r.1.live in
        below_irrefl r.0.lo (subst (λ k. Below k r.0.lo) r.1.lo_is (behind_first nodes p ps from to lo hi r q r.0 i live))

along_run : (n : ℕ) (nodes : Nodes) (ps : List ℕ) (from : Option ℕ) (lo hi : Key) → length ps ≤ n → Run nodes ps from lo None hi → along n nodes from ≡ pairs_of nodes ps
along_run n nodes [] from lo hi l r = ap (along n nodes) r.0 ∙ none n
  where
    none : (n : ℕ) → along n nodes None ≡ []
    none zero = refl
    none (suc n) = refl
along_run zero nodes (p ∷ ps) from lo hi l r = absurd (no l)
  where
    no : length (p ∷ ps) ≤ 0 → ⊥
    no l = omega arith
along_run (suc n) nodes (p ∷ ps) from lo hi l r =
    ap (along (suc n) nodes) r.1.here ∙ ap (λ o. node_pairs (nodes p) ++ along n nodes (next_of o)) r.1.live ∙ ap (λ z. node_pairs (nodes p) ++ z) (along_run n nodes ps r.0.next r.0.hi hi (omega arith) r.2)

pub leaf_first : (lo hi : Key) (c : Data) → Holds 0 lo hi c → first_child (pointers c) ≡ None
leaf_first lo hi (Leaf es) h = refl
leaf_first lo hi (Index es) h = absurd h

module _ {nodes : Nodes} {roots : Tree → Option ℕ} {w : Forest} (f : WellFormed nodes roots w) where
  -- the first page of a level
  first_node : (x : Place) (p : ℕ) → head (w.chain x) ≡ Some p → (d : Node) × (nodes p ≡ Some d) × Holds x.height d.lo d.hi d.content
  first_node x p e = let i = head_in _ p e in let d = f.page x p (f.homed x p i) in (d.0, d.1.live, d.1.sound.holds)

  -- down by first pointers from the first page of a level to the first leaf
  leads_down : (t : Tree) (h n p : ℕ) → h ≤ n → head (w.chain (place t h)) ≡ Some p → head (w.chain (place t 0)) ≡ Some (first_leaf n nodes p (first_of (nodes p)))
  leads_down t zero n p l e =
      let d = first_node (place t 0) p e in
      e ∙ ap Some (sym (ap (first_leaf n nodes p) (ap first_of d.1 ∙ leaf_first d.0.lo d.0.hi d.0.content d.2) ∙ stop n))
    where
      stop : (n : ℕ) → first_leaf n nodes p None ≡ p
      stop zero = refl
      stop (suc n) = refl
  leads_down t (suc h) zero p l e = absurd (no l)
    where
      no : suc h ≤ 0 → ⊥
      no l = omega arith
  leads_down t (suc h) (suc n) p l e =
      let d = first_node (place t (suc h)) p e in
      let c = child_of f t h p d.0 e d.1 in
      leads_down t h n c.0 (omega arith) c.2 ∙ ap Some (sym (ap (first_leaf (suc n) nodes p) (ap first_of d.1 ∙ c.1)))

  -- the first pages of the levels from this one down
  firsts : (t : Tree) (h p : ℕ) → head (w.chain (place t h)) ≡ Some p → (ps : List ℕ) × (length ps ≡ suc h) × Different ps × ((q : ℕ) → In q ps → (k : ℕ) × (k ≤ h) × (w.home q ≡ Some (place t k)))
  firsts t zero p e = (p ∷ [], refl, ((λ q i. absurd i), tt), λ q i. (0, omega arith, elim i [ inl g ↦ ap w.home g ∙ f.homed _ p (head_in _ p e) | inr g ↦ absurd g ]))
  firsts t (suc h) p e =
      let d = first_node (place t (suc h)) p e in
      let c = child_of f t h p d.0 e d.1 in
      let below = firsts t h c.0 c.2 in
      let here : w.home p ≡ Some (place t (suc h)) = f.homed _ p (head_in _ p e) in (
        p ∷ below.0,
        ap suc below.1,
        (λ q i g. let b = below.3 q i in apart b.0 b.1 (ap (λ (z : Place). z.height) (some_is (sym b.2 ∙ ap w.home g ∙ here))), below.2),
        λ q i. elim i [ inl g ↦ (suc h, omega arith, ap w.home g ∙ here) | inr j ↦ let b = below.3 q j in (b.0, up b.0 b.1, b.2) ],
      )
    where
      apart : (k : ℕ) → k ≤ h → k ≡ suc h → ⊥
      apart k l e = omega arith

      up : (k : ℕ) → k ≤ h → k ≤ suc h
      up k l = omega arith

  -- a live page's number is below n
  module _ (n : ℕ) (below : (p : ℕ) (d : Node) → nodes p ≡ Some d → p < n) where
    homed_below : (p : ℕ) (x : Place) → w.home p ≡ Some x → p < n
    homed_below p x e = let d = f.page x p e in below p d.0 d.1.live

    pub chain_few : (x : Place) → length (w.chain x) ≤ n
    chain_few x = elim (f.run x) [
      | inl e ↦ subst (λ c. length c ≤ n) (sym e) zero_le
      | inr r ↦ few_different (w.chain x) n (run_different nodes _ _ _ _ _ r) (λ q i. homed_below q x (f.homed x q i))
    ]
      where
        zero_le : 0 ≤ n
        zero_le = omega arith

    pub levels_few : (t : Tree) (h p : ℕ) → head (w.chain (place t h)) ≡ Some p → suc h ≤ n
    levels_few t h p e =
        let a = firsts t h p e in
        subst (λ z. z ≤ n) a.1 (few_different a.0 n a.2 (λ q i. let b = a.3 q i in homed_below q _ b.2))

-- the numbers of pages are below the bound of all
pub nodes_below : (s : State) → ((p : ℕ) (g : Page) → s.pages p ≡ Some g → p < 2 ^ 64) → (p : ℕ) (d : Node) → nodes_of s p ≡ Some d → p < page_numbers
nodes_below s below p d e = subst (λ n. p < n) (sym page_numbers_is) (look (s.pages p) refl e)
  where
    look : (o : Option Page) → s.pages p ≡ o → option_map (λ (g : Page). g.node) o ≡ Some d → p < 2 ^ 64
    look None a b = none_some b
    look (Some g) a b = below p g a

pub contents_law : ContentsLaw
contents_law s w f below t = go (s.roots t) (f.top t)
  where
    go : (o : Option ℕ) → MatchOption o ((h : ℕ) → w.chain (place t h) ≡ []) (λ r. (h : ℕ) × (head (w.chain (place t h)) ≡ Some r) × (w.chain (place t (suc h)) ≡ []))
        → option_map (pairs_under (nodes_of s)) o ≡ option_map (λ _. contents (nodes_of s) w t) o
    go None m = refl
    go (Some r) m =
        let fits = levels_few f page_numbers (nodes_below s below) t m.0 r m.1 in
        let first = leads_down f t m.0 page_numbers r (under m.0 page_numbers fits) m.1 in
        let i = head_in _ _ first in
        ap Some (ap (along page_numbers (nodes_of s)) (sym first) ∙ along_run page_numbers (nodes_of s) (w.chain (place t 0)) _ [] [] (chain_few f page_numbers (nodes_below s below) (place t 0)) (chain_run f (place t 0) _ i))
      where
        under : (h n : ℕ) → suc h ≤ n → h ≤ n
        under h n l = omega arith
