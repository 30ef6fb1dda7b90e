-- The images that half-done work leaves.
use Rattle.std.proofs.Common.{◌≡◌, ◌≢◌, ℕ, suc, ◌<◌, ◌≤◌, ◌^◌, Bool, true, false, cond, nat_eq, List, [], ◌∷◌, Option, Some, None, option_map, sym, refl, ap, ◌∙◌, subst, inl, inr, ◌⊎◌, arith}
use Rattle.std.specs.List.{AllByRecursion, find}
use Rattle.std.specs.Str.{bytes_eq}
use Rattle.std.specs.Bool.{Decides}
use Rattle.std.proofs.lemmas.Slice.Eq.{bytes_eq-Decides}
use Rattle.std.proofs.lemmas.Bool.Decides.{nat_tests}
use mathlib.Core.List.{reverse}
use Rattle.sled_nodes.proofs.Basics.{none_some, some_is, false_true}
use Rattle.sled_store.specs.In.{In}
use Rattle.sled_nodes.specs.Image.{root_in}
use Rattle.sled_nodes.specs.Node.{pointers, count}
use Rattle.sled_nodes.specs.Order.{Key, key_cmp, Below}
use Rattle.sled_store.specs.State.{Nodes, nodes_of}
use Rattle.sled_nodes.specs.declared.node.Node.{Node}
use Rattle.sled_nodes.specs.declared.node.Data.TheVariants.{Leaf}
use Rattle.sled_store.specs.declared.page.Page.{Page}
use Rattle.tree_laws.specs.Forest.{Tree, Forest, Place, place, head, first_child, later, Run, IsNodeAt, IsPointer, contents}
use Rattle.tree_laws.specs.theory.Images.{image, Accepts, selves, key, leaf, capped, merging, one_tree, root, left, right, over, first_only, both, all_in_one, fresh, not_hoisted, not_posted, intended, child_capped, child_received, confirmed, unnamed, AcceptedImages}
use Rattle.tree_laws.specs.Paths.{tree_pages, pages_below}
use Rattle.tree_laws.proofs.Fuel.{contents_law}
use Rattle.tree_laws.proofs.Looking.{pages_law}
use Rattle.tree_laws.proofs.Replace.{not_both, head_in}
use Rattle.tree_laws.proofs.Accepted.{forest_of, IsStanding, IsAtHome, IsForest, formed, sized}

zero_suc : {P : Type 0} {g : ℕ} → 0 ≡ suc g → P
zero_suc e = cc

one_is : (g : ℕ) → 1 ≡ suc g → 0 ≡ g
one_is g e = omega arith

-- a leaf of a chain
pub leaf_stands : (nodes : Nodes) (w : Forest) (t : Tree) (p : ℕ) (lo hi : Key) (next : Option ℕ) (m : Bool) (es : List (Key × Key))
    → nodes p ≡ Some (record { lo = lo; hi = hi; next = next; merging = m; merging_child = None; content = Leaf es }) → w.home p ≡ Some (place t 0) → IsStanding nodes w t 0 p
leaf_stands nodes w t p lo hi next m es live home = record {
  node = _;
  live = live;
  homed = home;
  pointer = λ g e. tt;
  child = λ c e. none_some e;
  down = λ g e i. zero_suc e;
  small = λ c d e i. none_some e;
}

-- a page of a chain that is not merging
pub open_home : (nodes : Nodes) (w : Forest) (t : Tree) (p h : ℕ) (n : Node) → nodes p ≡ Some n → In p (w.chain (place t h)) → n.merging ≡ false → IsNodeAt h n → count n.content ≤ 33 → IsAtHome nodes w t p h
open_home nodes w t p h n live i not_merging sound fits = record {
  node = n;
  is = record { live = live; sound = sound; stands = inl i; calm = λ e. not_both n.merging not_merging e; parent = λ e. not_both n.merging not_merging e };
  fits = fits;
}

found_below : (passes : ℕ → Bool) (es : List (ℕ × Node)) (p : ℕ) (g : Page) → ((q : ℕ) → passes q ≡ true → q ≡ p) → AllByRecursion (λ e. e.0 < 2 ^ 64) es
    → option_map (λ (n : Node). record { version = p; node = n }) (option_map (λ (e : ℕ × Node). e.1) (find (λ (e : ℕ × Node). passes e.0) es)) ≡ Some g → p < 2 ^ 64
found_below passes [] p g same a e = none_some e
found_below passes (d ∷ es) p g same a e = go (passes d.0) refl e (found_below passes es p g same a.1)
  where
    go : (o : Bool) → passes d.0 ≡ o → option_map (λ (n : Node). record { version = p; node = n }) (option_map (λ (e : ℕ × Node). e.1) (cond o (Some d) (find (λ (e : ℕ × Node). passes e.0) es))) ≡ Some g
        → (option_map (λ (n : Node). record { version = p; node = n }) (option_map (λ (e : ℕ × Node). e.1) (find (λ (e : ℕ × Node). passes e.0) es)) ≡ Some g → p < 2 ^ 64) → p < 2 ^ 64
    go true h e more = subst (λ q. q < 2 ^ 64) (same d.0 h) a.0
    go false h e more = more e

pub rooted : (r : ℕ) (u : Tree) → ((u ≡ one_tree) × (root_in (root r) u ≡ Some r)) ⊎ ((u ≢ one_tree) × (root_in (root r) u ≡ None))
rooted r u = go (bytes_eq one_tree u) (bytes_eq-Decides one_tree u)
  where
    go : (o : Bool) → Decides o (one_tree ≡ u) → ((u ≡ one_tree) × (option_map (λ (e : Key × ℕ). e.1) (cond o (Some (one_tree, r)) None) ≡ Some r)) ⊎ ((u ≢ one_tree) × (option_map (λ (e : Key × ℕ). e.1) (cond o (Some (one_tree, r)) None) ≡ None))
    go true d = inl (sym (d.0 refl), refl)
    go false d = inr (λ e. false_true (d.1 (sym e)), refl)

accepts : (pages : List (ℕ × Node)) (r : ℕ) (levels : List (List ℕ)) (homes : List (ℕ × ℕ)) (es : List (Key × Key)) (count : ℕ) (f : IsForest (nodes_of (image pages (root r))) (root_in (root r)) one_tree r levels homes)
    → AllByRecursion (λ e. e.0 < 2 ^ 64) (reverse pages) → contents (nodes_of (image pages (root r))) (forest_of one_tree levels homes) one_tree ≡ es → pages_below (forest_of one_tree levels homes) one_tree (suc f.top.0) ≡ count → Accepts pages r es count
accepts pages r levels homes es count f below is counted = record {
  whole = record { forest = forest_of one_tree levels homes; formed = formed f; sized = sized f };
  pairs = contents_law (image pages (root r)) (forest_of one_tree levels homes) (formed f) small one_tree ∙ ap Some is;
  counted = pages_are ∙ counted;
}
  where
    small : (p : ℕ) (g : Page) → (image pages (root r)).pages p ≡ Some g → p < 2 ^ 64
    small p g e = found_below (λ q. nat_eq q p) (reverse pages) p g same below e
      where
        same : (q : ℕ) → nat_eq q p ≡ true → q ≡ p
        same q h = grind (arith, nat_tests)

    -- the root has one height
    high : (h : ℕ) → In r ((forest_of one_tree levels homes).chain (place one_tree h)) → h ≡ f.top.0
    high h i =
        let g = formed f in
        let e : place one_tree h ≡ place one_tree f.top.0 = some_is (sym (g.homed (place one_tree h) r i) ∙ g.homed (place one_tree f.top.0) r (head_in _ r f.top.1)) in
        ap (λ (z : Place). z.height) e

    pages_are : tree_pages (image pages (root r)) one_tree ≡ pages_below (forest_of one_tree levels homes) one_tree (suc f.top.0)
    pages_are = let p = pages_law (image pages (root r)) (forest_of one_tree levels homes) (formed f) small one_tree r refl in p.2 ∙ ap (λ h. pages_below (forest_of one_tree levels homes) one_tree (suc h)) (high p.0 p.1)

low : (1 < 2 ^ 64) × (2 < 2 ^ 64) × (3 < 2 ^ 64) × (9 < 2 ^ 64)
low = (omega arith, omega arith, omega arith, omega arith)

-- the pages by themselves
empty_sound : IsNodeAt 0 (leaf [] [] None [])
empty_sound = record { holds = (tt, tt) }

pub left_sound : IsNodeAt 0 left.1
unfolding key_cmp
left_sound = record { holds = (tt, ((refl, inr refl), ((refl, inr refl), ((refl, inr refl), ((refl, inr refl), ((refl, inr refl), ((refl, inr refl), ((refl, inr refl), ((refl, inr refl), tt))))))))) }

pub right_sound : IsNodeAt 0 right
unfolding key_cmp
right_sound = record { holds = (tt, ((refl, inl refl), ((refl, inl refl), ((refl, inl refl), tt)))) }

pub whole_sound : IsNodeAt 0 all_in_one.1
unfolding key_cmp
whole_sound = record { holds = (tt, ((refl, inl refl), ((refl, inl refl), ((refl, inl refl), ((refl, inl refl), ((refl, inl refl), ((refl, inl refl), ((refl, inl refl), ((refl, inl refl), ((refl, inl refl), ((refl, inl refl), ((refl, inl refl), tt)))))))))))) }

first_sound : IsNodeAt 1 (over first_only)
unfolding key_cmp
first_sound = record { holds = (tt, ((refl, inl refl), tt), refl) }

pub both_sound : IsNodeAt 1 (over both)
unfolding key_cmp
both_sound = record { holds = (tt, ((refl, inl refl), ((refl, inl refl), tt)), refl) }

pub left_below : Below [] (key 8)
unfolding key_cmp
left_below = refl

-- the two leaves are a chain
module _ (nodes : Nodes) (live_left : nodes 1 ≡ Some left.1) where
  chained : (m : Bool) → nodes 2 ≡ Some (record right { merging = m }) → Run nodes (1 ∷ 2 ∷ []) (Some 1) [] None []
  chained m live = (
    left.1,
    record { live = live_left; here = refl; lo_is = refl; rises = inr left_below },
    (
      record right { merging = m },
      record { live = live; here = refl; lo_is = refl; rises = inl refl },
      (refl, refl),
    ),
  )

-- a page alone on its level
pub alone : (nodes : Nodes) (p : ℕ) (n : Node) → nodes p ≡ Some n → n.lo ≡ [] → n.hi ≡ [] → n.next ≡ None → Run nodes (p ∷ []) (Some p) [] None []
alone nodes p n live lo hi next = (n, record { live = live; here = refl; lo_is = sym lo; rises = inl next }, (next, hi))

pub eight : 8 ≤ 33
eight = omega arith

pub three : 3 ≤ 33
three = omega arith

eleven : 11 ≤ 33
eleven = omega arith

fresh_is : Accepts fresh 1 [] 1
fresh_is = accepts fresh 1 ((1 ∷ []) ∷ []) ((1, 0) ∷ []) [] 1 (
    record {
      standing = ((leaf_stands _ _ _ 1 [] [] None false [] refl refl, tt), tt);
      at_home = (open_home _ _ _ 1 0 (leaf [] [] None []) refl (inl refl) refl empty_sound (omega arith), tt);
      runs = (alone _ 1 (leaf [] [] None []) refl refl refl refl, tt);
      top = (0, refl, refl);
      rooted = rooted 1;
    }) (low.0, tt) refl refl

not_hoisted_is : Accepts not_hoisted 1 (selves 11 0) 2
not_hoisted_is = accepts not_hoisted 1 ((1 ∷ 2 ∷ []) ∷ []) ((1, 0) ∷ (2, 0) ∷ []) (selves 11 0) 2 (
    record {
      standing = ((leaf_stands _ _ _ 1 [] (key 8) (Some 2) false (selves 8 0) refl refl, (leaf_stands _ _ _ 2 (key 8) [] None false (selves 3 8) refl refl, tt)), tt);
      at_home = (open_home _ _ _ 1 0 left.1 refl (inl refl) refl left_sound eight, (open_home _ _ _ 2 0 right refl (inr (inl refl)) refl right_sound three, tt));
      runs = (chained _ refl false refl, tt);
      top = (0, refl, refl);
      rooted = rooted 1;
    }) (low.1, (low.0, tt)) refl refl

three_small : 3 ≤ 17
three_small = omega arith

pub one_few : 1 ≤ 33
one_few = omega arith

pub two_few : 2 ≤ 33
two_few = omega arith

module _ (nodes : Nodes) (w : Forest) where
  -- an index over leaves
  pub index_stands : (p : ℕ) (n : Node) → nodes p ≡ Some n → w.home p ≡ Some (place one_tree 1) → AllByRecursion (λ e. IsPointer nodes w n one_tree 0 e.0 e.1) (pointers n.content)
      → ((c : ℕ) → n.merging_child ≡ Some c → (k : Key) × In (k, c) (later (pointers n.content))) → head (w.chain (place one_tree 0)) ≡ first_child (pointers n.content)
      → ((c : ℕ) (d : Node) → n.merging_child ≡ Some c → nodes c ≡ Some d → count d.content ≤ 17) → IsStanding nodes w one_tree 1 p
  index_stands p n live home each child down small = record {
    node = n;
    live = live;
    homed = home;
    pointer = λ g e. subst (λ z. AllByRecursion (λ e. IsPointer nodes w n one_tree z e.0 e.1) (pointers n.content)) (one_is g e) each;
    child = child;
    down = λ g e i. subst (λ z. head (w.chain (place one_tree z)) ≡ first_child (pointers n.content)) (one_is g e) down;
    small = small;
  }

  pub pointer_open : (n d : Node) (k : Key) (c : ℕ) → nodes c ≡ Some d → w.home c ≡ Some (place one_tree 0) → d.lo ≡ k → d.merging ≡ false → IsPointer nodes w n one_tree 0 k c
  pointer_open n d k c live home lo not_merging = record { node = d; live = live; homed = home; key = lo; merged = λ e. not_both d.merging not_merging e }

  -- the index 3 with the pointer to the first leaf alone
  first_stands : (n : Node) → nodes 1 ≡ Some n → n.lo ≡ [] → n.merging ≡ false → nodes 3 ≡ Some (over first_only) → w.home 1 ≡ Some (place one_tree 0) → w.home 3 ≡ Some (place one_tree 1) → head (w.chain (place one_tree 0)) ≡ Some 1 → IsStanding nodes w one_tree 1 3
  first_stands n live lo not_merging index_live home index_home down = index_stands 3 (over first_only) index_live index_home (pointer_open (over first_only) n [] 1 live home lo not_merging, tt) (λ c e. none_some e) down (λ c d e i. none_some e)

  -- the index 3 whose merging child is the leaf 2, capped or not
  module _ (m : Bool) (live_2 : nodes 2 ≡ Some (record right { merging = m })) (home_2 : w.home 2 ≡ Some (place one_tree 0)) where
    merger_stands : (n : Node) → nodes 1 ≡ Some n → n.lo ≡ [] → n.merging ≡ false → nodes 3 ≡ Some (merging 2 (over both)) → w.home 1 ≡ Some (place one_tree 0) → w.home 3 ≡ Some (place one_tree 1) → head (w.chain (place one_tree 0)) ≡ Some 1 → IsStanding nodes w one_tree 1 3
    merger_stands n live lo not_merging index_live home index_home down =
        index_stands 3 (merging 2 (over both)) index_live index_home
        (pointer_open (merging 2 (over both)) n [] 1 live home lo not_merging, (record { node = record right { merging = m }; live = live_2; homed = home_2; key = refl; merged = λ e. refl }, tt))
        (λ c e. (key 8, inl (λ i. (key 8, some_is (sym e) i)))) down
        (λ c d e i. subst (λ (z : Node). count z.content ≤ 17) (some_is (sym live_2 ∙ ap nodes (some_is e) ∙ i)) three_small)

  capped_home : nodes 2 ≡ Some (capped right) → nodes 3 ≡ Some (merging 2 (over both)) → In 3 (w.chain (place one_tree 1)) → IsAtHome nodes w one_tree 2 0
  capped_home live index_live i = record {
    node = capped right;
    is = record { live = live; sound = record { holds = right_sound.holds }; stands = inr refl; calm = λ e. refl; parent = λ e. (3, merging 2 (over both), i, index_live, refl) };
    fits = three;
  }

not_posted_is : Accepts not_posted 3 (selves 11 0) 3
not_posted_is = accepts not_posted 3 ((1 ∷ 2 ∷ []) ∷ (3 ∷ []) ∷ []) ((1, 0) ∷ (2, 0) ∷ (3, 1) ∷ []) (selves 11 0) 3 (
    record {
      standing = ((leaf_stands _ _ _ 1 [] (key 8) (Some 2) false (selves 8 0) refl refl, (leaf_stands _ _ _ 2 (key 8) [] None false (selves 3 8) refl refl, tt)), ((first_stands _ _ left.1 refl refl refl refl refl refl refl, tt), tt));
      at_home = (open_home _ _ _ 1 0 left.1 refl (inl refl) refl left_sound eight, (open_home _ _ _ 2 0 right refl (inr (inl refl)) refl right_sound three, (open_home _ _ _ 3 1 (over first_only) refl (inl refl) refl first_sound one_few, tt)));
      runs = (chained _ refl false refl, (alone _ 3 (over first_only) refl refl refl refl, tt));
      top = (1, refl, refl);
      rooted = rooted 3;
    }) (low.2, (low.1, (low.0, tt))) refl refl

pub intended_forest : IsForest (nodes_of (image intended (root 3))) (root_in (root 3)) one_tree 3 ((1 ∷ 2 ∷ []) ∷ (3 ∷ []) ∷ []) ((1, 0) ∷ (2, 0) ∷ (3, 1) ∷ [])
intended_forest = record {
  standing = ((leaf_stands _ _ _ 1 [] (key 8) (Some 2) false (selves 8 0) refl refl, (leaf_stands _ _ _ 2 (key 8) [] None false (selves 3 8) refl refl, tt)), ((merger_stands _ _ false refl refl left.1 refl refl refl refl refl refl refl, tt), tt));
  at_home = (open_home _ _ _ 1 0 left.1 refl (inl refl) refl left_sound eight, (open_home _ _ _ 2 0 right refl (inr (inl refl)) refl right_sound three, (open_home _ _ _ 3 1 (merging 2 (over both)) refl (inl refl) refl (record { holds = both_sound.holds }) two_few, tt)));
  runs = (chained _ refl false refl, (alone _ 3 (merging 2 (over both)) refl refl refl refl, tt));
  top = (1, refl, refl);
  rooted = rooted 3;
}

intended_is : Accepts intended 3 (selves 11 0) 3
unfolding intended_forest
intended_is = accepts intended 3 ((1 ∷ 2 ∷ []) ∷ (3 ∷ []) ∷ []) ((1, 0) ∷ (2, 0) ∷ (3, 1) ∷ []) (selves 11 0) 3 intended_forest (low.2, (low.1, (low.0, tt))) refl refl

child_capped_is : Accepts child_capped 3 (selves 11 0) 3
child_capped_is = accepts child_capped 3 ((1 ∷ 2 ∷ []) ∷ (3 ∷ []) ∷ []) ((1, 0) ∷ (2, 0) ∷ (3, 1) ∷ []) (selves 11 0) 3 (
    record {
      standing = ((leaf_stands _ _ _ 1 [] (key 8) (Some 2) false (selves 8 0) refl refl, (leaf_stands _ _ _ 2 (key 8) [] None true (selves 3 8) refl refl, tt)), ((merger_stands _ _ true refl refl left.1 refl refl refl refl refl refl refl, tt), tt));
      at_home = (open_home _ _ _ 1 0 left.1 refl (inl refl) refl left_sound eight, (capped_home _ _ refl refl (inl refl), (open_home _ _ _ 3 1 (merging 2 (over both)) refl (inl refl) refl (record { holds = both_sound.holds }) two_few, tt)));
      runs = (chained _ refl true refl, (alone _ 3 (merging 2 (over both)) refl refl refl refl, tt));
      top = (1, refl, refl);
      rooted = rooted 3;
    }) (low.2, (low.1, (low.0, tt))) refl refl

-- the leaf 2 was received: it is in no chain
child_received_is : Accepts child_received 3 (selves 11 0) 2
child_received_is = accepts child_received 3 ((1 ∷ []) ∷ (3 ∷ []) ∷ []) ((1, 0) ∷ (2, 0) ∷ (3, 1) ∷ []) (selves 11 0) 2 (
    record {
      standing = ((leaf_stands _ _ _ 1 [] [] None false (selves 11 0) refl refl, tt), ((merger_stands _ _ true refl refl all_in_one.1 refl refl refl refl refl refl refl, tt), tt));
      at_home = (open_home _ _ _ 1 0 all_in_one.1 refl (inl refl) refl whole_sound eleven, (capped_home _ _ refl refl (inl refl), (open_home _ _ _ 3 1 (merging 2 (over both)) refl (inl refl) refl (record { holds = both_sound.holds }) two_few, tt)));
      runs = (alone _ 1 all_in_one.1 refl refl refl refl, (alone _ 3 (merging 2 (over both)) refl refl refl refl, tt));
      top = (1, refl, refl);
      rooted = rooted 3;
    }) (low.2, (low.1, (low.0, tt))) refl refl

-- and has no home either
confirmed_is : Accepts confirmed 3 (selves 11 0) 2
confirmed_is = accepts confirmed 3 ((1 ∷ []) ∷ (3 ∷ []) ∷ []) ((1, 0) ∷ (3, 1) ∷ []) (selves 11 0) 2 (
    record {
      standing = ((leaf_stands _ _ _ 1 [] [] None false (selves 11 0) refl refl, tt), ((first_stands _ _ all_in_one.1 refl refl refl refl refl refl refl, tt), tt));
      at_home = (open_home _ _ _ 1 0 all_in_one.1 refl (inl refl) refl whole_sound eleven, (open_home _ _ _ 3 1 (over first_only) refl (inl refl) refl first_sound one_few, tt));
      runs = (alone _ 1 all_in_one.1 refl refl refl refl, (alone _ 3 (over first_only) refl refl refl refl, tt));
      top = (1, refl, refl);
      rooted = rooted 3;
    }) (low.2, (low.1, (low.0, tt))) refl refl

unnamed_is : Accepts unnamed 3 (selves 11 0) 3
unnamed_is = accepts unnamed 3 ((1 ∷ 2 ∷ []) ∷ (3 ∷ []) ∷ []) ((1, 0) ∷ (2, 0) ∷ (3, 1) ∷ []) (selves 11 0) 3 (
    record {
      standing = (
        (leaf_stands _ _ _ 1 [] (key 8) (Some 2) false (selves 8 0) refl refl, (leaf_stands _ _ _ 2 (key 8) [] None false (selves 3 8) refl refl, tt)),
        ((index_stands _ _ 3 (over both) refl refl (pointer_open _ _ (over both) left.1 [] 1 refl refl refl refl, (pointer_open _ _ (over both) right (key 8) 2 refl refl refl refl, tt)) (λ c e. none_some e) refl (λ c d e i. none_some e), tt), tt),
      );
      at_home = (open_home _ _ _ 1 0 left.1 refl (inl refl) refl left_sound eight, (open_home _ _ _ 2 0 right refl (inr (inl refl)) refl right_sound three, (open_home _ _ _ 3 1 (over both) refl (inl refl) refl both_sound two_few, tt)));
      runs = (chained _ refl false refl, (alone _ 3 (over both) refl refl refl refl, tt));
      top = (1, refl, refl);
      rooted = rooted 3;
    }) (low.3, (low.2, (low.1, (low.0, tt)))) refl refl

pub accepted_images : AcceptedImages
accepted_images = record {
  is_fresh = fresh_is;
  is_not_hoisted = not_hoisted_is;
  is_not_posted = not_posted_is;
  is_intended = intended_is;
  is_capped = child_capped_is;
  is_received = child_received_is;
  is_confirmed = confirmed_is;
  is_unnamed = unnamed_is;
}
