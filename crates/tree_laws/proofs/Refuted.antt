-- Laws that are false.
use Rattle.std.proofs.Common.{◌≡◌, ◌≢◌, ℕ, ◌<◌, ◌≤◌, ◌^◌, true, false, [], ◌∷◌, Some, None, sym, refl, ap, ◌∙◌, subst, inl, inr, arith}
use Rattle.sled_nodes.proofs.Basics.{none_some, some_is, same_or_not}
use Rattle.sled_nodes.specs.Image.{root_in}
use Rattle.sled_nodes.specs.Node.{count, Within, after_link}
use Rattle.sled_nodes.specs.Order.{key_cmp}
use Rattle.sled_store.specs.State.{Nodes, nodes_of}
use Rattle.sled_store.specs.Update.{put_at, put_name}
use Rattle.sled_store.specs.theory.Facts.{put_elsewhere}
use Rattle.sled_nodes.specs.declared.link.Link.TheVariants.{Set}
use Rattle.sled_nodes.specs.declared.node.Node.{Node}
use Rattle.sled_store.specs.declared.page.Page.{Page}
use Rattle.tree_laws.specs.Action.{IsSplit}
use Rattle.tree_laws.specs.theory.Action.{put_node, IsReceived}
use Rattle.tree_laws.specs.theory.FalseLaws.{SetOfMany, ReceiveOfAny, SplitToAny, ReplaceOfStray, FalseLaws}
use Rattle.tree_laws.specs.Forest.{Forest, place, IsNodeAt}
use Rattle.tree_laws.specs.theory.Images.{Pages, image, selves, key, leaf, merging, one_tree, other_tree, root, left, right, over, both, all_in_one, intended}
use Rattle.tree_laws.specs.theory.Laws.{no_forest}
use Rattle.tree_laws.specs.Snapshot.{Snapshot, HasForest}
use Rattle.tree_laws.specs.theory.Snapshot.{KeepsNodes}
use Rattle.tree_laws.proofs.Accepted.{forest_of, IsForest, formed, sized}
use Rattle.tree_laws.proofs.Empty.{no_trees}
use Rattle.tree_laws.proofs.Faulty.{trees_apart, homed_is, second_in, index_first}
use Rattle.tree_laws.proofs.Pictures.{leaf_stands, open_home, index_stands, pointer_open, rooted, alone, left_sound, whole_sound, both_sound, left_below, intended_forest, eight, two_few}
use Rattle.tree_laws.proofs.Roots.{plant_law}

-- a merging child of 17 entries
abbrev long : Node
long = leaf (key 8) [] None (selves 17 8)

abbrev large_child : Pages
large_child = left ∷ (2, long) ∷ (3, merging 2 (over both)) ∷ []

long_sound : IsNodeAt 0 long
unfolding key_cmp
long_sound = record { holds = (tt, ((refl, inl refl), ((refl, inl refl), ((refl, inl refl), ((refl, inl refl), ((refl, inl refl), ((refl, inl refl), ((refl, inl refl), ((refl, inl refl), ((refl, inl refl), ((refl, inl refl), ((refl, inl refl), ((refl, inl refl), ((refl, inl refl), ((refl, inl refl), ((refl, inl refl), ((refl, inl refl), ((refl, inl refl), tt)))))))))))))))))) }

seventeen : (17 ≤ 33) × (17 ≤ 17) × (18 ≤ 33)
seventeen = (omega arith, omega arith, omega arith)

large_forest : IsForest (nodes_of (image large_child (root 3))) (root_in (root 3)) one_tree 3 ((1 ∷ 2 ∷ []) ∷ (3 ∷ []) ∷ []) ((1, 0) ∷ (2, 0) ∷ (3, 1) ∷ [])
large_forest = record {
  standing = (
    (leaf_stands _ _ _ 1 [] (key 8) (Some 2) false (selves 8 0) refl refl, (leaf_stands _ _ _ 2 (key 8) [] None false (selves 17 8) refl refl, tt)),
    (
      (
        index_stands _ _ 3 (merging 2 (over both)) refl refl (pointer_open _ _ (merging 2 (over both)) left.1 [] 1 refl refl refl refl, (pointer_open _ _ (merging 2 (over both)) long (key 8) 2 refl refl refl refl, tt))
            (λ c e. (key 8, inl (λ i. (key 8, some_is (sym e) i)))) refl
            (λ c d e i. subst (λ (z : Node). count z.content ≤ 17) (some_is (ap (nodes_of (image large_child (root 3))) (some_is e) ∙ i)) seventeen.1),
        tt,
      ),
      tt,
    ),
  );
  at_home = (open_home _ _ _ 1 0 left.1 refl (inl refl) refl left_sound eight, (open_home _ _ _ 2 0 long refl (inr (inl refl)) refl long_sound seventeen.0, (open_home _ _ _ 3 1 (merging 2 (over both)) refl (inl refl) refl (record { holds = both_sound.holds }) two_few, tt)));
  runs = (
    (left.1, record { live = refl; here = refl; lo_is = refl; rises = inr left_below }, (long, record { live = refl; here = refl; lo_is = refl; rises = inl refl }, (refl, refl))),
    (alone _ 3 (merging 2 (over both)) refl refl refl refl, tt),
  );
  top = (1, refl, refl);
  rooted = rooted 3;
}

set_of_many : SetOfMany → ⊥
unfolding key_cmp
set_of_many law =
    let nodes : Nodes = nodes_of (image large_child (root 3)) in
    let w : Forest = forest_of one_tree ((1 ∷ 2 ∷ []) ∷ (3 ∷ []) ∷ []) ((1, 0) ∷ (2, 0) ∷ (3, 1) ∷ []) in
    let c = law nodes (root_in (root 3)) w (formed large_forest) one_tree 2 long (key 30) [] (record { chained = inr (inl refl); live = refl; not_merging = refl }) (refl, inl refl) in
    let s = c.sized seventeen.2 (sized large_forest) in
    no (s.child (place one_tree 1) 3 2 (merging 2 (over both)) (after_link (Set (key 30) []) long) (inl refl) refl refl refl)
  where
    no : 18 ≤ 17 → ⊥
    no l = omega arith

receive_of_any : ReceiveOfAny → ⊥
receive_of_any law =
    let nodes : Nodes = nodes_of (image intended (root 3)) in
    let w : Forest = forest_of one_tree ((1 ∷ 2 ∷ []) ∷ (3 ∷ []) ∷ []) ((1, 0) ∷ (2, 0) ∷ (3, 1) ∷ []) in
    let is : IsReceived 0 left.1 right all_in_one.1 = record { sound = whole_sound; halves = refl; lo = refl; hi = refl; next = refl; merging = refl; merging_child = refl } in
    let r = law nodes (root_in (root 3)) w (formed intended_forest) (place one_tree 0) 1 2 left.1 right all_in_one.1 (record { chained = inl refl; live = refl; is_open = record { not_merging = refl; free = refl } }) refl refl is in
    let f = r.0.kept in
    let t = f.top one_tree in
    let i = index_first f one_tree t.0 3 (merging 2 (over both)) both t.1 refl refl in
    let c = i.4 (key 8) 2 (inr (inl refl)) in
    elim (homed_is f (place one_tree i.0) 2 right c.homed refl).stands [ inl a ↦ r.1 (place one_tree i.0) a | inr e ↦ cc ]

-- two empty leaves of a tree, and one of no tree
abbrev end : Node
end = leaf (key 8) [] None []

abbrev begin : Node
begin = leaf [] (key 8) (Some 2) []

abbrev empty : Node
empty = leaf [] [] None []

abbrev apart : Pages
apart = (1, begin) ∷ (2, end) ∷ (4, empty) ∷ []

zero_few : 0 ≤ 33
zero_few = omega arith

apart_forest : IsForest (nodes_of (image apart (root 1))) (root_in (root 1)) one_tree 1 ((1 ∷ 2 ∷ []) ∷ []) ((1, 0) ∷ (2, 0) ∷ [])
apart_forest = record {
  standing = ((leaf_stands _ _ _ 1 [] (key 8) (Some 2) false [] refl refl, (leaf_stands _ _ _ 2 (key 8) [] None false [] refl refl, tt)), tt);
  at_home = (open_home _ _ _ 1 0 begin refl (inl refl) refl (record { holds = (tt, tt) }) zero_few, (open_home _ _ _ 2 0 end refl (inr (inl refl)) refl (record { holds = (tt, tt) }) zero_few, tt));
  runs = ((begin, record { live = refl; here = refl; lo_is = refl; rises = inr left_below }, (end, record { live = refl; here = refl; lo_is = refl; rises = inl refl }, (refl, refl))), tt);
  top = (0, refl, refl);
  rooted = rooted 1;
}

all_within : Within [] [] (key 8)
unfolding key_cmp
all_within = (refl, inl refl)

split_to_any : SplitToAny → ⊥
split_to_any law =
    let nodes : Nodes = nodes_of (image apart (root 1)) in
    let w : Forest = forest_of one_tree ((1 ∷ 2 ∷ []) ∷ []) ((1, 0) ∷ (2, 0) ∷ []) in
    let p = plant_law nodes (root_in (root 1)) w (formed apart_forest) other_tree 4 empty refl (λ y e. none_some e) (record { live = refl; lo = refl; hi = refl; next = refl; merging = refl; merging_child = refl; content = refl }) in
    let is : IsSplit 0 empty begin end 2 = record { left_sound = record { holds = (tt, tt) }; right_sound = record { holds = (tt, tt) }; halves = refl; left_lo = refl; left_hi = refl; left_next = refl; right_hi = refl; right_next = refl; apart = left_below; within = all_within; calm = (refl, refl, refl, refl) } in
    let r = law nodes (put_name (root_in (root 1)) other_tree (Some 4)) p.0.after p.0.kept (place other_tree 0) 4 2 empty begin end (record { chained = p.2; live = refl; is_open = record { not_merging = refl; free = refl } }) refl off is in
    let f = r.0.kept in
    let t = f.top one_tree in
    let here = second_in f (place one_tree t.0) 1 2 begin end t.1 refl refl refl in
    trees_apart t.0 0 (some_is (sym (f.homed _ 2 here) ∙ f.homed _ 2 r.1))
  where
    off : ◌≢◌ {A = ℕ} 2 4
    off e = omega arith

-- a store with one page and no tree
abbrev page : ℕ → Page
page version = record { version = version; node = empty }

abbrev lone : Snapshot
lone = record {
  state = record { pages = put_at (λ p. None) 1 (Some (page 0)); roots = λ t. None; in_group = false };
  pids = λ p. true;
  versions = put_at (λ v. false) 0 true;
  numbers = λ t. None;
  given = λ n. false;
}

lone_page : (p : ℕ) (g : Page) → lone.state.pages p ≡ Some g → (p ≡ 1) × (page 0 ≡ g)
lone_page p g e = elim (same_or_not p 1) [
  | inl is ↦ (is, some_is (ap lone.state.pages (sym is) ∙ e))
  | inr off ↦ none_some (sym (put_elsewhere (λ q. None) 1 p (Some (page 0)) off) ∙ e)
]

lone_low : 1 < 2 ^ 64
lone_low = omega arith

lone_is : HasForest lone no_forest
lone_is = record {
  pids = λ p g e. refl;
  versions = λ p g e. ap (λ (z : Page). lone.versions z.version) (sym (lone_page p g e).1);
  below = λ p g e. subst (λ q. q < 2 ^ 64) (sym (lone_page p g e).0) lone_low;
  numbered = λ t r e. none_some e;
  rooted = λ t n e. none_some e;
  given = λ t n e. none_some e;
  apart = λ t u n e. none_some e;
  formed = no_trees _ _ (λ t. refl);
}

replace_of_stray : ReplaceOfStray → ⊥
replace_of_stray law =
    let s = law [] lone no_forest no_forest 1 (page 0) (page 1) lone_is refl refl refl (λ y e. none_some e) (no_trees _ _ (λ t. refl)) keeps in
    let e = s.goes.own 1 (λ y e. none_some e) (λ i. i) in
    no (ap (λ (z : Page). z.version) (some_is e))
  where
    same : (p : ℕ) → put_node (nodes_of lone.state) 1 empty p ≡ nodes_of lone.state p
    same p = elim (same_or_not p 1) [
      | inl is ↦ subst (λ q. put_node (nodes_of lone.state) 1 empty q ≡ nodes_of lone.state q) (sym is) refl
      | inr off ↦ put_elsewhere (nodes_of lone.state) 1 p (Some empty) off
    ]

    keeps : KeepsNodes [] None (nodes_of lone.state) (put_node (nodes_of lone.state) 1 empty) no_forest no_forest
    keeps = record {
      stood = λ x p n l i. absurd i;
      capped = λ p n e m. inl (same p ∙ e);
      stray = λ p s i. (same p, s);
      left = λ x p n e m o. o;
      wakes = λ x p n m i. absurd i;
      child = λ x p c n l i. absurd i;
    }

    no : ◌≡◌ {A = ℕ} 1 0 → ⊥
    no e = omega arith

pub false_laws : FalseLaws
false_laws = record { set_of_many = set_of_many; receive_of_any = receive_of_any; split_to_any = split_to_any; replace_of_stray = replace_of_stray }
