-- How many pages a tree has, along its levels.
use Rattle.std.proofs.Common.{◌≡◌, ◌≢◌, ℕ, zero, suc, ◌+◌, ◌≤◌, ◌<◌, List, [], ◌∷◌, Option, Some, None, length, sym, refl, ap, ◌∙◌, arith, le_refl}
use Rattle.sled_store.specs.State.{State, Nodes, nodes_of}
use Rattle.tree_laws.specs.Forest.{Tree, head}
use Rattle.tree_laws.specs.Contents.{page_numbers, first_of}
use Rattle.tree_laws.specs.Paths.{length_along, pages_under, tree_pages}
use Rattle.tree_progress.proofs.Shapes.{Leads, IsShape}
use Rattle.tree_progress.proofs.Sums.{over, over_one}

count_along : (nodes : Nodes) (n : ℕ) (from : Option ℕ) (ps : List ℕ) → length ps ≤ n → Leads nodes from ps → length_along n nodes from ≡ length ps
count_along nodes n from [] l r = ap (length_along n nodes) r ∙ none n
  where
    none : (n : ℕ) → length_along n nodes None ≡ 0
    none zero = refl
    none (suc n) = refl
count_along nodes zero from (p ∷ ps) l r = absurd (no l)
  where
    no : length (p ∷ ps) ≤ 0 → ⊥
    no l = omega arith
count_along nodes (suc n) from (p ∷ ps) l r = ap (length_along (suc n) nodes) r.0 ∙ ap (λ z. z + 1) (count_along nodes n _ ps (omega arith) r.1) ∙ one (length ps)
  where
    one : (k : ℕ) → k + 1 ≡ suc k
    one k = omega arith

module _ {nodes : Nodes} {chains : ℕ → List ℕ} {root height : ℕ} (s : IsShape nodes chains root height) where
  under_count : (n h : ℕ) → suc h ≤ n → h ≤ height → pages_under n nodes (head (chains h)) ≡ over (λ z. length (chains z)) (suc h)
  under_count zero h l m = absurd (no l)
    where
      no : suc h ≤ 0 → ⊥
      no l = omega arith
  under_count (suc n) h l m =
      let b = s.begins h m in
      let along : length_along page_numbers nodes (Some b.0) ≡ length (chains h) = ap (length_along page_numbers nodes) (sym b.1) ∙ count_along nodes page_numbers _ (chains h) (s.few h m) (s.leads h m) in
      ap (pages_under (suc n) nodes) b.1 ∙ ap (λ z. z + pages_under n nodes (first_of (nodes b.0))) along ∙ ap (λ z. length (chains h) + z) (rest h l m b.0 b.1 (under_count n))
    where
      none : (n : ℕ) → pages_under n nodes None ≡ 0
      none zero = refl
      none (suc n) = refl

      rest : (h : ℕ) → suc h ≤ suc n → h ≤ height → (p : ℕ) → head (chains h) ≡ Some p → ((g : ℕ) → suc g ≤ n → g ≤ height → pages_under n nodes (head (chains g)) ≡ over (λ z. length (chains z)) (suc g))
          → pages_under n nodes (first_of (nodes p)) ≡ over (λ z. length (chains z)) h
      rest zero l m p e below = ap (pages_under n nodes) (s.bottom p e) ∙ none n
      rest (suc h) l m p e below = ap (pages_under n nodes) (s.down h p m e) ∙ below h (omega arith) (omega arith)

-- the pages of a tree are those of its levels
pub pages_levels : (s : State) (t : Tree) (chains : ℕ → List ℕ) (root height : ℕ) → s.roots t ≡ Some root → IsShape (nodes_of s) chains root height → tree_pages s t ≡ over (λ h. length (chains h)) (suc height)
pages_levels s t chains root height e k = ap (pages_under page_numbers (nodes_of s)) (e ∙ sym k.top) ∙ under_count k page_numbers height k.low (le_refl height)

-- levels as before have as many pages
pub pages_same : (s new : State) (t : Tree) (chains : ℕ → List ℕ) (root height : ℕ) → s.roots t ≡ Some root → new.roots t ≡ Some root → IsShape (nodes_of s) chains root height → IsShape (nodes_of new) chains root height → tree_pages new t ≡ tree_pages s t
pages_same s new t chains root height e e' a b = pages_levels new t chains root height e' b ∙ sym (pages_levels s t chains root height e a)

-- .. where one level has one page more at most, there is one page more at most
pub pages_more : (s new : State) (t : Tree) (chains after : ℕ → List ℕ) (root height k : ℕ) → s.roots t ≡ Some root → new.roots t ≡ Some root → IsShape (nodes_of s) chains root height → IsShape (nodes_of new) after root height
    → k < suc height → ((h : ℕ) → h ≢ k → after h ≡ chains h) → length (after k) ≤ length (chains k) + 1 → tree_pages new t ≤ tree_pages s t + 1
pages_more s new t chains after root height k e e' a b low same one =
    sum _ _ _ _ (pages_levels new t after root height e' b) (pages_levels s t chains root height e a)
    (over_one (λ h. length (chains h)) (λ h. length (after h)) (suc height) k 0 1 low (λ h l off. ap length (same h off)) (plain _ _ one))
  where
    plain : (x y : ℕ) → x ≤ y + 1 → x + 0 ≤ y + 1
    plain x y l = omega arith

    sum : (x y u v : ℕ) → x ≡ u → y ≡ v → u + 0 ≤ v + 1 → x ≤ y + 1
    sum x y u v c d l = omega arith
