-- What is left to repair in a tree is a sum over its chains, the one from the root's down.
use Rattle.std.proofs.Common.{◌≡◌, ℕ, zero, suc, ◌+◌, ◌-◌, ◌≤◌, ◌<◌, ◌^◌, List, [], ◌∷◌, Option, Some, None, MatchOption, length, sym, refl, ap, ◌∙◌, subst, arith, le_refl}
use Rattle.sled_nodes.specs.Order.{Key}
use Rattle.sled_store.specs.In.{In}
use Rattle.sled_store.specs.State.{State, Nodes, nodes_of}
use Rattle.sled_nodes.specs.declared.node.Node.{Node}
use Rattle.sled_store.specs.declared.page.Page.{Page}
use Rattle.tree_laws.specs.Forest.{Tree, Forest, place, head, Run, WellFormed}
use Rattle.tree_laws.specs.Contents.{page_numbers, next_of, first_of}
use Rattle.tree_laws.proofs.Fuel.{nodes_below, chain_few, levels_few, leaf_first}
use Rattle.tree_laws.proofs.Reading.{child_of}
use Rattle.tree_laws.proofs.Replace.{head_in}
use Rattle.tree_laws.proofs.Cover.{chain_run, holds_at}
use Rattle.tree_progress.specs.ToDo.{level_weight, pages_along, to_do_under, to_do}
use Rattle.tree_progress.proofs.Sums.{over}

-- from here the pages are these, along `next` to the end
abbrev pub Leads : Nodes → Option ℕ → List ℕ → Type 0
Leads nodes from [] = from ≡ None
Leads nodes from (p ∷ ps) = (from ≡ Some p) × Leads nodes (next_of (nodes p)) ps

-- The levels of a tree by their height: each goes along `next`, and begins where the first page of the level above leads. There are
-- no more pages and levels than page numbers
pub record IsShape (nodes : Nodes) (chains : ℕ → List ℕ) (root height : ℕ) : Type 0 where
  pub begins : (h : ℕ) → h ≤ height → (p : ℕ) × (head (chains h) ≡ Some p)
  pub leads : (h : ℕ) → h ≤ height → Leads nodes (head (chains h)) (chains h)
  pub down : (h p : ℕ) → suc h ≤ height → head (chains (suc h)) ≡ Some p → first_of (nodes p) ≡ head (chains h)
  pub bottom : (p : ℕ) → head (chains 0) ≡ Some p → first_of (nodes p) ≡ None
  pub few : (h : ℕ) → h ≤ height → length (chains h) ≤ page_numbers
  pub low : suc height ≤ page_numbers
  pub top : head (chains height) ≡ Some root
  pub alone : chains (suc height) ≡ []

pub along_leads : (nodes : Nodes) (n : ℕ) (from : Option ℕ) (ps : List ℕ) → length ps ≤ n → Leads nodes from ps → pages_along n nodes from ≡ ps
along_leads nodes n from [] l r = ap (pages_along n nodes) r ∙ none n
  where
    none : (n : ℕ) → pages_along n nodes None ≡ []
    none zero = refl
    none (suc n) = refl
along_leads nodes zero from (p ∷ ps) l r = absurd (no l)
  where
    no : length (p ∷ ps) ≤ 0 → ⊥
    no l = omega arith
along_leads nodes (suc n) from (p ∷ ps) l r = ap (pages_along (suc n) nodes) r.0 ∙ ap (λ z. p ∷ z) (along_leads nodes n _ ps (omega arith) r.1)

-- the weight of the level at a height
abbrev pub level_at : Nodes → (ℕ → List ℕ) → ℕ → ℕ
level_at nodes chains h = level_weight nodes (chains (suc h)) (chains h)

module _ {nodes : Nodes} {chains : ℕ → List ℕ} {root height : ℕ} (s : IsShape nodes chains root height) where
  under_levels : (n h : ℕ) → suc h ≤ n → h ≤ height → to_do_under n nodes (chains (suc h)) (head (chains h)) ≡ over (level_at nodes chains) (suc h)
  under_levels zero h l m = absurd (no l)
    where
      no : suc h ≤ 0 → ⊥
      no l = omega arith
  under_levels (suc n) h l m =
      let b = s.begins h m in
      let along : pages_along page_numbers nodes (Some b.0) ≡ chains h = ap (pages_along page_numbers nodes) (sym b.1) ∙ along_leads nodes page_numbers _ (chains h) (s.few h m) (s.leads h m) in
      ap (to_do_under (suc n) nodes (chains (suc h))) b.1 ∙ ap (λ z. level_weight nodes (chains (suc h)) z + to_do_under n nodes z (first_of (nodes b.0))) along ∙ ap (λ z. level_at nodes chains h + z) (rest h l m b.0 b.1 (under_levels n))
    where
      none : (n : ℕ) (above : List ℕ) → to_do_under n nodes above None ≡ 0
      none zero above = refl
      none (suc n) above = refl

      rest : (h : ℕ) → suc h ≤ suc n → h ≤ height → (p : ℕ) → head (chains h) ≡ Some p → ((g : ℕ) → suc g ≤ n → g ≤ height → to_do_under n nodes (chains (suc g)) (head (chains g)) ≡ over (level_at nodes chains) (suc g))
          → to_do_under n nodes (chains h) (first_of (nodes p)) ≡ over (level_at nodes chains) h
      rest zero l m p e below = ap (to_do_under n nodes (chains 0)) (s.bottom p e) ∙ none n (chains 0)
      rest (suc h) l m p e below = ap (to_do_under n nodes (chains (suc h))) (s.down h p m e) ∙ below h (omega arith) (omega arith)

-- .. so it is the sum of the weights of all levels
pub to_do_levels : (s : State) (t : Tree) (chains : ℕ → List ℕ) (root height : ℕ) → s.roots t ≡ Some root → IsShape (nodes_of s) chains root height → to_do s t ≡ over (level_at (nodes_of s) chains) (suc height)
to_do_levels s t chains root height e k =
    ap (to_do_under page_numbers (nodes_of s) []) (e ∙ sym k.top) ∙ ap (λ z. to_do_under page_numbers (nodes_of s) z (head (chains height))) (sym k.alone) ∙ under_levels k page_numbers height k.low (le_refl height)

-- a name without a root has nothing to repair
pub to_do_none : (s : State) (t : Tree) → s.roots t ≡ None → to_do s t ≡ 0
to_do_none s t e = ap (to_do_under page_numbers (nodes_of s) []) e ∙ none page_numbers
  where
    none : (n : ℕ) → to_do_under n (nodes_of s) [] None ≡ 0
    none zero = refl
    none (suc n) = refl

run_leads : (nodes : Nodes) (ps : List ℕ) (from : Option ℕ) (lo hi : Key) → Run nodes ps from lo None hi → Leads nodes from ps
run_leads nodes [] from lo hi r = r.0
run_leads nodes (p ∷ ps) from lo hi r = (r.1.here, subst (λ o. Leads nodes o ps) (sym (ap next_of r.1.live)) (run_leads nodes ps _ _ hi r.2))

-- the chains of a tree of a forest are its levels
pub shape_of : (s : State) (w : Forest) → WellFormed (nodes_of s) s.roots w → ((p : ℕ) (g : Page) → s.pages p ≡ Some g → p < 2 ^ 64)
    → (t : Tree) (root : ℕ) → s.roots t ≡ Some root → (height : ℕ) × IsShape (nodes_of s) (λ h. w.chain (place t h)) root height
shape_of s w f below t root is =
    let b = subst (λ o. MatchOption o ((g : ℕ) → w.chain (place t g) ≡ []) (λ q. (g : ℕ) × (head (w.chain (place t g)) ≡ Some q) × (w.chain (place t (suc g)) ≡ []))) is (f.top t) in
    (b.0, shaped b.0 b.1 b.2)
  where
    node_at : (h p : ℕ) → head (w.chain (place t h)) ≡ Some p → (n : Node) × In p (w.chain (place t h)) × (nodes_of s p ≡ Some n)
    node_at h p e = let i = head_in _ p e in let d = f.page (place t h) p (f.homed (place t h) p i) in (d.0, i, d.1.live)

    -- from the root's level down each level has a first page
    some : (k h height : ℕ) → head (w.chain (place t height)) ≡ Some root → height ≡ h + k → (p : ℕ) × (head (w.chain (place t h)) ≡ Some p)
    some zero h height e l = let same : height ≡ h = omega arith in (root, ap (λ z. head (w.chain (place t z))) (sym same) ∙ e)
    some (suc k) h height e l =
        let up = some k (suc h) height e (omega arith) in
        let d = node_at (suc h) up.0 up.1 in
        let c = child_of f t h up.0 d.0 up.1 d.2 in
        (c.0, c.2)

    shaped : (height : ℕ) → head (w.chain (place t height)) ≡ Some root → w.chain (place t (suc height)) ≡ [] → IsShape (nodes_of s) (λ h. w.chain (place t h)) root height
    shaped height e none = record {
      begins = λ h l. some (height - h) h height e (omega arith);
      leads = λ h l. let b = some (height - h) h height e (omega arith) in run_leads (nodes_of s) _ _ [] [] (chain_run f (place t h) b.0 (head_in _ b.0 b.1));
      down = λ h p l at. let d = node_at (suc h) p at in ap first_of d.2 ∙ sym (f.down t h p d.0 at d.2);
      bottom = λ p at. let d = node_at 0 p at in ap first_of d.2 ∙ leaf_first d.0.lo d.0.hi d.0.content (holds_at f (place t 0) p d.0 d.1 d.2);
      few = λ h l. chain_few f page_numbers (nodes_below s below) (place t h);
      low = levels_few f page_numbers (nodes_below s below) t height root e;
      top = e;
      alone = none;
    }
