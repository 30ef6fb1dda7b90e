-- Clean paths of images, and ways that are not clean.
use Rattle.std.proofs.Common.{◌≡◌, ℕ, ◌≤◌, true, false, List, [], ◌∷◌, Some, None, sym, refl, ◌∙◌, subst, inl, inr, arith}
use Rattle.std.specs.declared.ops.Bound.TheVariants.{Included}
use Rattle.sled_nodes.proofs.Basics.{some_none, some_is, false_true, true_false}
use Rattle.sled_nodes.specs.Among.{IsPointer}
use Rattle.sled_nodes.specs.Node.{count, Covers}
use Rattle.sled_nodes.specs.Order.{Key, key_cmp}
use Rattle.sled_store.specs.State.{State, Nodes, nodes_of}
use Rattle.sled_nodes.specs.declared.node.Node.{Node}
use Rattle.sled_nodes.specs.declared.node.Data.TheVariants.{Leaf}
use Rattle.tree_laws.specs.Forest.{Tree}
use Rattle.tree_laws.specs.theory.Images.{Pages, Unclean, image, selves, key, leaf, capped, merging, one_tree, root, left, right, over, first_only, both, not_hoisted, not_posted, intended, unnamed, too_many_in_the_root, CleanPaths}
use Rattle.tree_laws.specs.Paths.{NeedsNoRepair, CleanFrom, IsClean}
use Rattle.tree_laws.specs.theory.PathLaws.{CleanStep}
use Rattle.tree_laws.proofs.Looking.{clean_step_law}
use Rattle.tree_laws.proofs.Order.{covers_under, under_covers}

-- the pointers that lead to a key
to_first : IsPointer (Included (key 0)) both 1 true
unfolding key_cmp
to_first = record { key = []; last = record { before = []; after = (key 8, 2) ∷ []; is = refl; passed = refl; none = refl }; is_first = refl }

to_second : IsPointer (Included (key 9)) both 2 false
unfolding key_cmp
to_second = record { key = key 8; last = record { before = ([], 1) ∷ []; after = []; is = refl; passed = refl; none = refl }; is_first = refl }

to_only : IsPointer (Included (key 9)) first_only 1 true
unfolding key_cmp
to_only = record { key = []; last = record { before = []; after = []; is = refl; passed = refl; none = refl }; is_first = refl }

-- an open page without bounds, and the left leaf
wide : (nodes : Nodes) (k : Key) (p : ℕ) (n : Node) → nodes p ≡ Some n → Covers n k → n.merging ≡ false → n.merging_child ≡ None → count n.content ≤ 16 → NeedsNoRepair nodes (Included k) p true n
wide nodes k p n live covers not_merging free fits = record { live = live; under = covers_under k n covers; is_open = record { not_merging = not_merging; free = free }; fits = fits; many = λ l. refl }

covers_all : (hi : Key) → hi ≡ [] → Covers (leaf [] hi None []) (key 0)
unfolding key_cmp
covers_all hi e = (refl, inl e)

covers_left : Covers left.1 (key 0)
unfolding key_cmp
covers_left = (refl, inr refl)

fits : (0 ≤ 16) × (2 ≤ 16) × (3 ≤ 16) × (8 ≤ 16) × (16 ≤ 16)
fits = (omega arith, omega arith, omega arith, omega arith, omega arith)

clean_at : (s : State) (t : Tree) (k : Key) (path : List ℕ) (r : ℕ) → s.roots t ≡ Some r → IsClean s t (Included k) path → CleanFrom (nodes_of s) (Included k) r true path
clean_at s t k path r e c = subst (λ p. CleanFrom (nodes_of s) (Included k) p true path) (some_is (sym c.is_root ∙ e)) c.clean

-- the first step of a clean path of an image
first_step : (pages : Pages) (r : ℕ) (k : Key) (path : List ℕ) (n : Node) → nodes_of (image pages (root r)) r ≡ Some n → IsClean (image pages (root r)) one_tree (Included k) path → CleanStep (nodes_of (image pages (root r))) (Included k) path r true n
first_step pages r k path n live c = clean_step_law _ (Included k) path r true n (clean_at (image pages (root r)) one_tree k path r refl c) live

beyond_left : Covers left.1 (key 9) → ⊥
unfolding key_cmp
beyond_left c = elim c.1 [ inl e ↦ cc | inr e ↦ cc ]

later_pointer : Unclean unnamed 3 (key 9)
later_pointer path c =
    let s = first_step unnamed 3 (key 9) path (over both) refl c in
    let d = s.down both 2 false refl to_second in
    let e = clean_step_law _ (Included (key 9)) d.0 2 false right d.2 refl in
    false_true (e.passed.many few_enough)
  where
    few_enough : 3 ≤ 3
    few_enough = omega arith

too_long : Unclean too_many_in_the_root 1 (key 0)
too_long path c = no (first_step too_many_in_the_root 1 (key 0) path (leaf [] [] None (selves 17 0)) refl c).passed.fits
  where
    no : 17 ≤ 16 → ⊥
    no l = omega arith

is_merging : Unclean ((1, capped (leaf [] [] None [])) ∷ []) 1 (key 0)
is_merging path c = true_false (first_step ((1, capped (leaf [] [] None [])) ∷ []) 1 (key 0) path (capped (leaf [] [] None [])) refl c).passed.is_open.not_merging

has_a_child : Unclean intended 3 (key 0)
has_a_child path c = some_none (first_step intended 3 (key 0) path (merging 2 (over both)) refl c).passed.is_open.free

beyond_the_root : Unclean not_hoisted 1 (key 9)
beyond_the_root path c = beyond_left (under_covers (key 9) left.1 (first_step not_hoisted 1 (key 9) path left.1 refl c).passed.under)

beyond_the_leaf : Unclean not_posted 3 (key 9)
beyond_the_leaf path c =
    let s = first_step not_posted 3 (key 9) path (over first_only) refl c in
    let d = s.down first_only 1 true refl to_only in
    beyond_left (under_covers (key 9) left.1 (clean_step_law _ (Included (key 9)) d.0 1 true left.1 d.2 refl).passed.under)

-- the way down by the first of the two leaves' pointers
under_both : (nodes : Nodes) (m : ℕ) → nodes 3 ≡ Some (over both) → nodes 1 ≡ Some (leaf [] (key 8) (Some 2) (selves m 0)) → count (Leaf (selves m 0)) ≤ 16 → CleanFrom nodes (Included (key 0)) 3 true (3 ∷ 1 ∷ [])
under_both nodes m above below few = (
  refl,
  over both,
  wide nodes (key 0) 3 (over both) above (covers_all [] refl) refl refl fits.1,
  inr (both, refl, 1, true, to_first, (refl, leaf [] (key 8) (Some 2) (selves m 0), wide nodes (key 0) 1 (leaf [] (key 8) (Some 2) (selves m 0)) below covers_left refl refl few, inl (selves m 0, refl, refl))),
)

pub clean_paths : CleanPaths
clean_paths = record {
  empty_root = record { root = 1; is_root = refl; clean = (refl, leaf [] [] None [], wide _ (key 0) 1 (leaf [] [] None []) refl (covers_all [] refl) refl refl fits.0, inl ([], refl, refl)) };
  long_root = record { root = 1; is_root = refl; clean = (refl, leaf [] [] None (selves 16 0), wide _ (key 0) 1 (leaf [] [] None (selves 16 0)) refl (covers_all [] refl) refl refl fits.4, inl (selves 16 0, refl, refl)) };
  two_levels = record { root = 3; is_root = refl; clean = under_both _ 8 refl refl fits.3 };
  first_pointer = record { root = 3; is_root = refl; clean = under_both _ 3 refl refl fits.2 };
  later_pointer = later_pointer;
  too_long = too_long;
  is_merging = is_merging;
  has_a_child = has_a_child;
  beyond_the_root = beyond_the_root;
  beyond_the_leaf = beyond_the_leaf;
}
