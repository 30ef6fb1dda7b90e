-- What leaves all that is to be repaired as it is: a page comes or goes that no level has.
use Rattle.std.proofs.Common.{◌≡◌, ℕ, suc, ◌<◌, ◌^◌, Option, Some, None, option_map, sym, refl, ap, ◌∙◌, subst}
use Rattle.sled_store.specs.In.{In}
use Rattle.sled_store.specs.State.{State, nodes_of, PageBecomes, after}
use Rattle.sled_store.specs.theory.Facts.{put_elsewhere}
use Rattle.sled_store.specs.declared.page.Page.{Page}
use Rattle.tree_laws.specs.Forest.{Tree, Forest, Place, place, WellFormed}
use Rattle.tree_laws.specs.Contents.{next_of, first_of}
use Rattle.tree_laws.specs.Paths.{tree_pages}
use Rattle.tree_progress.specs.ToDo.{to_do}
use Rattle.tree_progress.specs.Steps.{Leaves}
use Rattle.tree_progress.proofs.Sums.{over_same}
use Rattle.tree_progress.proofs.Levels.{level_frame}
use Rattle.tree_progress.proofs.Shapes.{level_at, shape_of, to_do_levels, to_do_none}
use Rattle.tree_progress.proofs.Changing.{shape_frame}
use Rattle.tree_progress.proofs.Counting.{pages_same}

pub stray_stays : (s : State) (w : Forest) (f : WellFormed (nodes_of s) s.roots w) (below : (p : ℕ) (g : Page) → s.pages p ≡ Some g → p < 2 ^ 64) (q : ℕ) (o : Option Page) → ((x : Place) → ¬ (In q (w.chain x))) → Leaves s (after (PageBecomes q o) s)
stray_stays s w f below q o out u = go (s.roots u) refl
  where
    same : (h p : ℕ) → In p (w.chain (place u h)) → nodes_of (after (PageBecomes q o) s) p ≡ nodes_of s p
    same h p i = ap (option_map (λ (z : Page). z.node)) (put_elsewhere s.pages q p o (λ e. out (place u h) (subst (λ z. In z (w.chain (place u h))) e i)))

    go : (r : Option ℕ) → s.roots u ≡ r → to_do (after (PageBecomes q o) s) u ≡ to_do s u
    go None e = to_do_none (after (PageBecomes q o) s) u e ∙ sym (to_do_none s u e)
    go (Some r) e =
        let a = shape_of s w f below u r e in
        let b = shape_frame (nodes_of s) (nodes_of (after (PageBecomes q o) s)) (λ h. w.chain (place u h)) r a.0 a.1 (λ h p i. (ap next_of (same h p i), ap first_of (same h p i))) in
        to_do_levels (after (PageBecomes q o) s) u (λ h. w.chain (place u h)) r a.0 e b
        ∙ over_same (level_at (nodes_of s) (λ h. w.chain (place u h))) (level_at (nodes_of (after (PageBecomes q o) s)) (λ h. w.chain (place u h))) (suc a.0) (λ h l. level_frame (nodes_of s) (nodes_of (after (PageBecomes q o) s)) (w.chain (place u (suc h))) (w.chain (place u h)) (same (suc h)) (same h))
        ∙ sym (to_do_levels s u (λ h. w.chain (place u h)) r a.0 e a.1)

-- .. and so it leaves how many pages each tree has
pub stray_counts : (s : State) (w : Forest) (f : WellFormed (nodes_of s) s.roots w) (below : (p : ℕ) (g : Page) → s.pages p ≡ Some g → p < 2 ^ 64) (q : ℕ) (o : Option Page) → ((x : Place) → ¬ (In q (w.chain x))) → (u : Tree) (root : ℕ) → s.roots u ≡ Some root
    → tree_pages (after (PageBecomes q o) s) u ≡ tree_pages s u
stray_counts s w f below q o out u root e =
    let a = shape_of s w f below u root e in
    let b = shape_frame (nodes_of s) (nodes_of (after (PageBecomes q o) s)) (λ h. w.chain (place u h)) root a.0 a.1 (λ h p i. (ap next_of (same h p i), ap first_of (same h p i))) in
    pages_same s (after (PageBecomes q o) s) u (λ h. w.chain (place u h)) root a.0 e e a.1 b
  where
    same : (h p : ℕ) → In p (w.chain (place u h)) → nodes_of (after (PageBecomes q o) s) p ≡ nodes_of s p
    same h p i = ap (option_map (λ (z : Page). z.node)) (put_elsewhere s.pages q p o (λ e. out (place u h) (subst (λ z. In z (w.chain (place u h))) e i)))
