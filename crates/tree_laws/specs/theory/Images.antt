-- Images of pages and roots: what the layer's own half-done work leaves, which is well formed, and what it never leaves, which
-- is not. In most of them the leaf 1 holds the keys [0] to [7], the leaf 2 holds [8] to [10], the index 3 is over both, and the
-- two leaves are chained: 1 ends at [8] and leads to 2.
use Rattle.std.specs.Prelude.{◌≡◌, ℕ, false, true, List, [], ◌∷◌, ◌++◌, Option, Some, None, option_map}
use Rattle.std.specs.declared.ops.Bound.TheVariants.{Included}
use Rattle.sled_nodes.specs.Order.{Key}
use Rattle.sled_store.specs.State.{State, nodes_of}
use Rattle.sled_nodes.specs.Image.{node_in, root_in}
use Rattle.sled_nodes.specs.declared.node.Node.{Node}
use Rattle.sled_nodes.specs.declared.node.Data.TheVariants.{Leaf, Index}
use Rattle.tree_laws.specs.Forest.{Tree, Forest, WellFormed, IsSized}
use Rattle.tree_laws.specs.Contents.{trees_of}
use Rattle.tree_laws.specs.Crashes.{IsValid}
use Rattle.tree_laws.specs.Paths.{IsClean, tree_pages}

-- the pages of an image
abbrev pub Pages : Type 0
Pages = List (ℕ × Node)

-- the state of these pages and roots; of one number or name the last entry counts
abbrev pub image : Pages → List (Key × ℕ) → State
image pages roots = record { pages = λ p. option_map (λ n. record { version = p; node = n }) (node_in pages p); roots = root_in roots; in_group = false }

-- no forest has its shape and size
abbrev pub Refuses : State → Type 0
Refuses s = (w : Forest) → WellFormed (nodes_of s) s.roots w → IsSized (nodes_of s) w → ⊥

-- the key of one byte, and the pairs of so many such keys from this one on, each to itself
abbrev pub key : ℕ → Key
key b = b ∷ []

abbrev pub selves : ℕ → ℕ → List (Key × Key)
selves ℕ.zero b = []
selves (ℕ.suc n) b = (key b, key b) ∷ selves n (ℕ.suc b)

-- an open leaf and an open index; the same capped, and with a merging child
abbrev pub leaf : Key → Key → Option ℕ → List (Key × Key) → Node
leaf lo hi next es = record { lo = lo; hi = hi; next = next; merging = false; merging_child = None; content = Leaf es }

abbrev pub index : Key → Key → Option ℕ → List (Key × ℕ) → Node
index lo hi next es = record { lo = lo; hi = hi; next = next; merging = false; merging_child = None; content = Index es }

abbrev pub capped : Node → Node
capped n = record n { merging = true }

abbrev pub merging : ℕ → Node → Node
merging c n = record n { merging_child = Some c }

-- the names of two trees, and the roots with the first alone
abbrev pub one_tree : Tree
one_tree = key 97

abbrev pub other_tree : Tree
other_tree = key 98

abbrev pub root : ℕ → List (Key × ℕ)
root r = (one_tree, r) ∷ []

-- with this root it is well formed, and its tree has these pairs, and so many pages in its chains
pub record Accepts (pages : Pages) (r : ℕ) (es : List (Key × Key)) (count : ℕ) : Type 0 where
  pub whole : IsValid (image pages (root r))
  pub pairs : trees_of (image pages (root r)) one_tree ≡ Some es
  pub counted : tree_pages (image pages (root r)) one_tree ≡ count

-- the two leaves, chained, and the index over them
abbrev pub left : ℕ × Node
left = (1, leaf [] (key 8) (Some 2) (selves 8 0))

abbrev pub right : Node
right = leaf (key 8) [] None (selves 3 8)

abbrev pub over : List (Key × ℕ) → Node
over es = index [] [] None es

abbrev pub first_only : List (Key × ℕ)
first_only = ([], 1) ∷ []

abbrev pub both : List (Key × ℕ)
both = ([], 1) ∷ (key 8, 2) ∷ []

-- The accepted images. A fresh tree is one empty leaf
abbrev pub fresh : Pages
fresh = (1, leaf [] [] None []) ∷ []

-- the root was split, and not hoisted over
abbrev pub not_hoisted : Pages
not_hoisted = left ∷ (2, right) ∷ []

-- a leaf was split, and its right half not posted
abbrev pub not_posted : Pages
not_posted = left ∷ (2, right) ∷ (3, over first_only) ∷ []

-- the right leaf is to merge into the left one
abbrev pub intended : Pages
intended = left ∷ (2, right) ∷ (3, merging 2 (over both)) ∷ []

-- it is capped,
abbrev pub child_capped : Pages
child_capped = left ∷ (2, capped right) ∷ (3, merging 2 (over both)) ∷ []

-- received,
abbrev pub all_in_one : ℕ × Node
all_in_one = (1, leaf [] [] None (selves 11 0))

abbrev pub child_received : Pages
child_received = all_in_one ∷ (2, capped right) ∷ (3, merging 2 (over both)) ∷ []

-- and its pointer is gone, but it is not freed
abbrev pub confirmed : Pages
confirmed = all_in_one ∷ (2, capped right) ∷ (3, over first_only) ∷ []

-- there is a page that nothing names, whatever it holds
abbrev pub unnamed : Pages
unnamed = left ∷ (2, right) ∷ (3, over both) ∷ (9, leaf [] [] None (selves 40 0)) ∷ []

-- each is well formed, and has these pairs and pages
pub record AcceptedImages : Type 0 where
  pub is_fresh : Accepts fresh 1 [] 1
  pub is_not_hoisted : Accepts not_hoisted 1 (selves 11 0) 2
  pub is_not_posted : Accepts not_posted 3 (selves 11 0) 3
  pub is_intended : Accepts intended 3 (selves 11 0) 3
  pub is_capped : Accepts child_capped 3 (selves 11 0) 3
  pub is_received : Accepts child_received 3 (selves 11 0) 2
  pub is_confirmed : Accepts confirmed 3 (selves 11 0) 2
  pub is_unnamed : Accepts unnamed 3 (selves 11 0) 3

-- The refused images. The root names a page that is not there
abbrev pub root_is_not_there : State
root_is_not_there = image ((1, leaf [] [] None []) ∷ []) (root 5)

-- a leaf leads to itself
abbrev pub leads_to_itself : State
leads_to_itself = image ((1, leaf [] (key 8) (Some 1) (selves 8 0)) ∷ []) (root 1)

-- the chain has a gap
abbrev pub has_a_gap : State
has_a_gap = image (left ∷ (2, leaf (key 9) [] None (selves 2 9)) ∷ (3, over (([], 1) ∷ (key 9, 2) ∷ [])) ∷ []) (root 3)

-- the chain ends before the unbounded end
abbrev pub ends_early : State
ends_early = image ((1, leaf [] (key 8) None (selves 8 0)) ∷ []) (root 1)

-- a pointer names a page that is not there
abbrev pub pointer_to_nothing : State
pointer_to_nothing = image (left ∷ (2, right) ∷ (3, over (both ++ (key 9, 7) ∷ [])) ∷ []) (root 3)

-- a pointer's key is not where its page begins
abbrev pub wrong_key : State
wrong_key = image (left ∷ (2, right) ∷ (3, over (([], 1) ∷ (key 9, 2) ∷ [])) ∷ []) (root 3)

-- a leaf is merging, and is not its parent's merging child
abbrev pub not_the_merging_child : State
not_the_merging_child = image (left ∷ (2, capped right) ∷ (3, over both) ∷ []) (root 3)

-- the merging child is the first pointer's
abbrev pub first_is_the_merging_child : State
first_is_the_merging_child = image (left ∷ (2, right) ∷ (3, merging 1 (over both)) ∷ []) (root 3)

-- a page is merging and has a merging child
abbrev pub merging_with_a_merging_child : State
merging_with_a_merging_child = image (left ∷ (2, merging 1 (capped right)) ∷ (3, merging 2 (over both)) ∷ []) (root 3)

-- 34 entries
abbrev pub too_many : State
too_many = image ((1, leaf [] [] None (selves 34 0)) ∷ []) (root 1)

-- 18 entries of a merging child
abbrev pub too_many_of_a_merging_child : State
too_many_of_a_merging_child = image (left ∷ (2, leaf (key 8) [] None (selves 18 8)) ∷ (3, merging 2 (over both)) ∷ []) (root 3)

-- entries that do not ascend
abbrev pub not_ascending : State
not_ascending = image ((1, leaf [] [] None ((key 2, key 2) ∷ (key 1, key 1) ∷ [])) ∷ []) (root 1)

-- a chain that does not begin at the empty key, with a pair below where it does
abbrev pub begins_late : State
begins_late = image ((1, leaf (key 5) [] None (selves 1 1)) ∷ []) (root 1)

-- two trees with one root
abbrev pub root_of_two_trees : State
root_of_two_trees = image ((1, leaf [] [] None []) ∷ []) ((one_tree, 1) ∷ (other_tree, 1) ∷ [])

-- a pointer names a page that is not in the chain, and not merging
abbrev pub pointer_out_of_the_chain : State
pointer_out_of_the_chain = image (left ∷ (2, right) ∷ (3, over (both ++ (key 9, 7) ∷ [])) ∷ (7, leaf (key 9) [] None (selves 2 9)) ∷ []) (root 3)

-- a leaf leads to an index
abbrev pub index_beside_a_leaf : State
index_beside_a_leaf = image (left ∷ (2, index (key 8) [] None ((key 8, 1) ∷ [])) ∷ []) (root 1)

-- the merging child is no pointer's
abbrev pub merging_child_without_a_pointer : State
merging_child_without_a_pointer = image (left ∷ (2, right) ∷ (3, merging 9 (over both)) ∷ (9, leaf (key 8) [] None []) ∷ []) (root 3)

-- an entry beyond the bounds
abbrev pub beyond_the_bounds : State
beyond_the_bounds = image ((1, leaf [] (key 8) (Some 2) (selves 1 9)) ∷ (2, right) ∷ []) (root 1)

-- an index without pointers, and one whose first pointer is not where it begins
abbrev pub without_pointers : State
without_pointers = image ((3, over []) ∷ []) (root 3)

abbrev pub first_key_above : State
first_key_above = image ((1, leaf [] [] None []) ∷ (3, over ((key 4, 1) ∷ [])) ∷ []) (root 3)

-- The bounds of a chain's pages have to rise: an empty leaf that ends below where it begins, and a leaf without an upper bound
-- that leads on
abbrev pub ends_below_its_begin : State
ends_below_its_begin = image ((1, leaf [] (key 109) (Some 2) []) ∷ (2, leaf (key 109) (key 99) (Some 3) []) ∷ (3, leaf (key 99) [] None []) ∷ []) (root 1)

abbrev pub leads_on_without_a_bound : State
leads_on_without_a_bound = image ((1, leaf [] [] (Some 2) []) ∷ (2, leaf [] [] None []) ∷ []) (root 1)

-- A merging page has to have a parent: a merging root, and a merging leaf that no pointer names
abbrev pub merging_root : State
merging_root = image ((1, capped (leaf [] [] None [])) ∷ []) (root 1)

abbrev pub merging_without_a_pointer : State
merging_without_a_pointer = image (left ∷ (2, capped right) ∷ (3, over first_only) ∷ []) (root 3)

-- A received page is a page of one level of its tree, and one pointer leads to it: it is not named twice by its parent,
abbrev pub two_pointers : State
two_pointers = image (all_in_one ∷ (2, capped right) ∷ (3, merging 2 (over (both ++ (key 9, 2) ∷ []))) ∷ []) (root 3)

-- nor by the parents of two trees, which both received it,
abbrev pub received_by_two_trees : State
received_by_two_trees = image (all_in_one ∷ (2, capped right) ∷ (3, merging 2 (over both)) ∷ (4, leaf [] [] None []) ∷ (5, merging 2 (over (([], 4) ∷ (key 8, 2) ∷ []))) ∷ []) ((one_tree, 3) ∷ (other_tree, 5) ∷ [])

-- and is not in the chain of another tree either
abbrev pub in_another_tree : State
in_another_tree = image (all_in_one ∷ (2, capped right) ∷ (3, merging 2 (over both)) ∷ (4, leaf [] (key 8) (Some 2) []) ∷ (5, merging 2 (over (([], 4) ∷ (key 8, 2) ∷ []))) ∷ []) ((one_tree, 3) ∷ (other_tree, 5) ∷ [])

-- nor in that of another level
abbrev pub in_another_level : State
in_another_level = image (
    (1, leaf [] (key 8) (Some 5) (selves 8 0)) ∷ (5, right)
    ∷ (3, index [] (key 8) (Some 2) (([], 1) ∷ [])) ∷ (2, capped (index (key 8) [] None ((key 8, 5) ∷ [])))
    ∷ (6, merging 2 (over (([], 3) ∷ (key 8, 2) ∷ [])))
    ∷ (7, merging 2 (over (([], 6) ∷ (key 8, 2) ∷ []))) ∷ []
    ) (root 7)

-- What a received page holds counts too: here its entries do not ascend
abbrev pub received_not_ascending : State
received_not_ascending = image (all_in_one ∷ (2, capped (leaf (key 8) [] None ((key 9, key 9) ∷ (key 8, key 8) ∷ []))) ∷ (3, merging 2 (over both)) ∷ []) (root 3)

-- none is well formed
pub record RefusedImages : Type 0 where
  pub no_root : Refuses root_is_not_there
  pub itself : Refuses leads_to_itself
  pub gap : Refuses has_a_gap
  pub early : Refuses ends_early
  pub nothing : Refuses pointer_to_nothing
  pub key_differs : Refuses wrong_key
  pub no_child : Refuses not_the_merging_child
  pub first_child : Refuses first_is_the_merging_child
  pub child_of_its_own : Refuses merging_with_a_merging_child
  pub many : Refuses too_many
  pub many_of_a_child : Refuses too_many_of_a_merging_child
  pub order : Refuses not_ascending
  pub late : Refuses begins_late
  pub shared_root : Refuses root_of_two_trees
  pub out_of_the_chain : Refuses pointer_out_of_the_chain
  pub beside_a_leaf : Refuses index_beside_a_leaf
  pub child_without_a_pointer : Refuses merging_child_without_a_pointer
  pub beyond : Refuses beyond_the_bounds
  pub no_pointers : Refuses without_pointers
  pub first_above : Refuses first_key_above
  pub falls : Refuses ends_below_its_begin
  pub unbounded : Refuses leads_on_without_a_bound
  pub root_merges : Refuses merging_root
  pub parentless : Refuses merging_without_a_pointer
  pub pointed_to_twice : Refuses two_pointers
  pub received_twice : Refuses received_by_two_trees
  pub of_two_trees : Refuses in_another_tree
  pub of_two_levels : Refuses in_another_level
  pub received_order : Refuses received_not_ascending

-- no way to the key is clean
abbrev pub Unclean : Pages → ℕ → Key → Type 0
Unclean pages r k = (path : List ℕ) → IsClean (image pages (root r)) one_tree (Included k) path → ⊥

-- a first leaf of 3 entries, which are few
abbrev pub few_in_the_first : Pages
few_in_the_first = (1, leaf [] (key 8) (Some 2) (selves 3 0)) ∷ (2, right) ∷ (3, over both) ∷ []

-- a root of 16 entries, and one of 17, which is to be split
abbrev pub many_in_the_root : Pages
many_in_the_root = (1, leaf [] [] None (selves 16 0)) ∷ []

abbrev pub too_many_in_the_root : Pages
too_many_in_the_root = (1, leaf [] [] None (selves 17 0)) ∷ []

-- What a walk passes without a repair, and what it does not
pub record CleanPaths : Type 0 where
  -- an empty root, a long one, a leaf that is neither, and a short one that a first pointer leads to
  pub empty_root : IsClean (image fresh (root 1)) one_tree (Included (key 0)) (1 ∷ [])
  pub long_root : IsClean (image many_in_the_root (root 1)) one_tree (Included (key 0)) (1 ∷ [])
  pub two_levels : IsClean (image unnamed (root 3)) one_tree (Included (key 0)) (3 ∷ 1 ∷ [])
  pub first_pointer : IsClean (image few_in_the_first (root 3)) one_tree (Included (key 0)) (3 ∷ 1 ∷ [])
  -- not a short leaf that a later pointer leads to, which is to merge
  pub later_pointer : Unclean unnamed 3 (key 9)
  -- nor a page that is to be split
  pub too_long : Unclean too_many_in_the_root 1 (key 0)
  -- nor one that is merging, or has a merging child
  pub is_merging : Unclean ((1, capped (leaf [] [] None [])) ∷ []) 1 (key 0)
  pub has_a_child : Unclean intended 3 (key 0)
  -- nor one that does not cover the key, at the root or below a pointer
  pub beyond_the_root : Unclean not_hoisted 1 (key 9)
  pub beyond_the_leaf : Unclean not_posted 3 (key 9)
