-- The images that no forest has.
use Rattle.std.proofs.Common.{◌≡◌, ℕ, nat_eq, false, zero, suc, ◌≤◌, T, List, [], ◌∷◌, ◌++◌, Option, Some, None, sym, refl, ap, ◌∙◌, subst, inl, inr, ◌⊎◌, arith}
use Rattle.std.proofs.lemmas.Bool.Decides.{nat_tests}
use Rattle.std.specs.FinMap.{is_sorted}
use Rattle.sled_nodes.proofs.Basics.{none_some, some_none, some_is}
use Rattle.sled_store.specs.In.{In}
use Rattle.sled_nodes.specs.Node.{pointers, Within}
use Rattle.sled_nodes.specs.Order.{Key, key_cmp, Below}
use Rattle.sled_store.specs.State.{Nodes, nodes_of}
use Rattle.sled_nodes.specs.declared.node.Node.{Node}
use Rattle.sled_nodes.specs.declared.node.Data.{Data}
use Rattle.sled_nodes.specs.declared.node.Data.TheVariants.{Leaf, Index}
use Rattle.tree_laws.specs.Forest.{Tree, Forest, Place, place, head, first_child, first_key, later, Holds, Run, IsPointer, IsHomed, WellFormed}
use Rattle.tree_laws.specs.theory.Images.{Refuses, image, all_in_one, selves, key, leaf, index, capped, merging, one_tree, other_tree, left, right, over, first_only, both, root_is_not_there, leads_to_itself, has_a_gap, ends_early, pointer_to_nothing, wrong_key, not_the_merging_child, first_is_the_merging_child, merging_with_a_merging_child, too_many, too_many_of_a_merging_child, not_ascending, begins_late, root_of_two_trees, ends_below_its_begin, leads_on_without_a_bound, merging_root, merging_without_a_pointer, two_pointers, received_by_two_trees, in_another_tree, in_another_level, pointer_out_of_the_chain, index_beside_a_leaf, merging_child_without_a_pointer, beyond_the_bounds, without_pointers, first_key_above, received_not_ascending, RefusedImages}
use Rattle.tree_laws.proofs.Replace.{head_in}
use Rattle.tree_laws.proofs.Cover.{chain_run, holds_at}
use Rattle.tree_laws.proofs.Known.{leaf_low}

-- the first byte
abbrev byte : Key → ℕ
byte [] = 0
byte (b ∷ bs) = b

apart : (a b : ℕ) → nat_eq a b ≡ false → a ≡ b → ⊥
apart a b off e = grind (arith, nat_tests)

-- two keys of one byte that differ
keys_apart : (a b : ℕ) → nat_eq a b ≡ false → key a ≡ key b → ⊥
keys_apart a b off e = apart a b off (ap byte e)

key_some : (b : ℕ) → key b ≡ [] → ⊥
key_some b e = cc

-- no level is of two trees
pub trees_apart : (g h : ℕ) → place one_tree g ≡ place other_tree h → ⊥
trees_apart g h e = keys_apart 97 98 refl (ap (λ (z : Place). z.tree) e)

-- a pointer of the leaves' index that is not its first leads to 2
later_both : (k : Key) (c : ℕ) → In (k, c) (later both) → c ≡ 2
later_both k c (inl e) = ap (λ (z : Key × ℕ). z.1) e
later_both k c (inr e) = absurd e

-- a run goes on with the page that it leads to
run_on : (nodes : Nodes) (ps : List ℕ) (p : ℕ) (n : Node) (lo : Key) → nodes p ≡ Some n → Run nodes ps (Some p) lo None [] → (rest : List ℕ) × (ps ≡ p ∷ rest) × (lo ≡ n.lo) × ((n.next ≡ None) ⊎ Below n.lo n.hi) × Run nodes rest n.next n.hi None []
run_on nodes [] p n lo live r = some_none r.0
run_on nodes (q ∷ ps) p n lo live r =
    let same : q ≡ p = sym (some_is r.1.here) in
    let is : r.0 ≡ n = some_is (sym r.1.live ∙ ap nodes same ∙ live) in
    (ps, ap (λ z. z ∷ ps) same, r.1.lo_is ∙ ap (λ (z : Node). z.lo) is, subst (λ (z : Node). (z.next ≡ None) ⊎ Below z.lo z.hi) is r.1.rises, subst (λ (z : Node). Run nodes ps z.next z.hi None []) is r.2)

-- and ends where it leads to none
run_ends : (nodes : Nodes) (ps : List ℕ) (lo : Key) → Run nodes ps None lo None [] → (ps ≡ []) × (lo ≡ [])
run_ends nodes [] lo r = (refl, r.1)
run_ends nodes (q ∷ ps) lo r = none_some r.1.here

leaf_sorted : (h : ℕ) (lo hi : Key) (es : List (Key × Key)) → Holds h lo hi (Leaf es) → T (is_sorted key_cmp es)
leaf_sorted zero lo hi es k = k.0
leaf_sorted (suc h) lo hi es k = absurd k

index_above : (h : ℕ) (lo hi : Key) (c : Data) (es : List (Key × ℕ)) → c ≡ Index es → Holds h lo hi c → (g : ℕ) × (h ≡ suc g)
index_above zero lo hi c es e k = absurd (subst (Holds 0 lo hi) e k)
index_above (suc h) lo hi c es e k = (h, refl)

module _ {nodes : Nodes} {roots : Tree → Option ℕ} {w : Forest} (f : WellFormed nodes roots w) where
  -- the chain with this first page
  run_at : (x : Place) (p : ℕ) → head (w.chain x) ≡ Some p → Run nodes (w.chain x) (Some p) [] None []
  run_at x p e = subst (λ z. Run nodes (w.chain x) z [] None []) e (chain_run f x p (head_in _ p e))

  -- a page with a home, as it is
  pub homed_is : (x : Place) (p : ℕ) (n : Node) → w.home p ≡ Some x → nodes p ≡ Some n → IsHomed nodes w p x n
  homed_is x p n e live = let h = f.page x p e in subst (IsHomed nodes w p x) (some_is (sym h.1.live ∙ live)) h.1

  -- the second page of a chain, and what lies behind it
  pub second_on : (x : Place) (p q : ℕ) (n m : Node) → head (w.chain x) ≡ Some p → nodes p ≡ Some n → n.next ≡ Some q → nodes q ≡ Some m
      → (rest : List ℕ) × (w.chain x ≡ p ∷ q ∷ rest) × (n.hi ≡ m.lo) × ((m.next ≡ None) ⊎ Below m.lo m.hi) × Run nodes rest m.next m.hi None []
  second_on x p q n m e live next there =
      let r = run_on nodes _ p n [] live (run_at x p e) in
      let s = run_on nodes r.0 q m n.hi there (subst (λ o. Run nodes r.0 o n.hi None []) next r.4) in
      (s.0, r.1 ∙ ap (λ c. p ∷ c) s.1, s.2, s.3, s.4)

  pub second_in : (x : Place) (p q : ℕ) (n m : Node) → head (w.chain x) ≡ Some p → nodes p ≡ Some n → n.next ≡ Some q → nodes q ≡ Some m → In q (w.chain x)
  second_in x p q n m e live next there = subst (λ c. In q c) (sym (second_on x p q n m e live next there).1) (inr (inl refl))

  -- of a level that begins with an index: the level below begins where its first pointer leads, and a pointer leads into it
  pub index_first : (t : Tree) (h p : ℕ) (n : Node) (es : List (Key × ℕ)) → head (w.chain (place t h)) ≡ Some p → nodes p ≡ Some n → n.content ≡ Index es
      → (g : ℕ) × (h ≡ suc g) × In p (w.chain (place t (suc g))) × (head (w.chain (place t g)) ≡ first_child es) × ((k : Key) (c : ℕ) → In (k, c) es → IsPointer nodes w n t g k c)
  index_first t h p n es e live content =
      let i = head_in _ p e in
      let a = index_above h n.lo n.hi n.content es content (holds_at f (place t h) p n i live) in
      let here = subst (λ z. In p (w.chain (place t z))) a.1 i in (
        a.0,
        a.1,
        here,
        f.down t a.0 p n (subst (λ z. head (w.chain (place t z)) ≡ Some p) a.1 e) live ∙ ap (λ c. first_child (pointers c)) content,
        λ k c j. f.pointer t a.0 p n here live k c (subst (λ z. In (k, c) (pointers z)) (sym content) j),
      )

no_root : Refuses root_is_not_there
no_root w f z = let t = f.top one_tree in let h = f.page _ 5 (f.homed _ 5 (head_in _ 5 t.1)) in none_some h.1.live

itself : Refuses leads_to_itself
itself w f z =
    let t = f.top one_tree in
    let n : Node = leaf [] (key 8) (Some 1) (selves 8 0) in
    key_some 8 (second_on f _ 1 1 n n t.1 refl refl refl).2

early : Refuses ends_early
early w f z =
    let t = f.top one_tree in
    let r = run_on _ _ 1 (leaf [] (key 8) None (selves 8 0)) [] refl (run_at f _ 1 t.1) in
    key_some 8 (run_ends _ r.0 (key 8) r.4).1

many : Refuses too_many
many w f z = let t = f.top one_tree in no (z.fits _ 1 (leaf [] [] None (selves 34 0)) (f.homed _ 1 (head_in _ 1 t.1)) refl)
  where
    no : 34 ≤ 33 → ⊥
    no l = omega arith

order : Refuses not_ascending
unfolding key_cmp
order w f z =
    let t = f.top one_tree in
    leaf_sorted t.0 [] [] ((key 2, key 2) ∷ (key 1, key 1) ∷ []) (holds_at f (place one_tree t.0) 1 (leaf [] [] None ((key 2, key 2) ∷ (key 1, key 1) ∷ [])) (head_in _ 1 t.1) refl)

late : Refuses begins_late
late w f z =
    let t = f.top one_tree in
    key_some 5 (sym (run_on _ _ 1 (leaf (key 5) [] None (selves 1 1)) [] refl (run_at f _ 1 t.1)).2)

shared_root : Refuses root_of_two_trees
shared_root w f z =
    let t = f.top one_tree in
    let u = f.top other_tree in
    trees_apart t.0 u.0 (some_is (sym (f.homed _ 1 (head_in _ 1 t.1)) ∙ f.homed _ 1 (head_in _ 1 u.1)))

falls : Refuses ends_below_its_begin
unfolding key_cmp
falls w f z =
    let t = f.top one_tree in
    elim (second_on f _ 1 2 (leaf [] (key 109) (Some 2) []) (leaf (key 109) (key 99) (Some 3) []) t.1 refl refl refl).3 [ inl e ↦ some_none e | inr e ↦ cc ]

unbounded : Refuses leads_on_without_a_bound
unfolding key_cmp
unbounded w f z =
    let t = f.top one_tree in
    let r = run_on _ _ 1 (leaf [] [] (Some 2) []) [] refl (run_at f _ 1 t.1) in
    elim r.3 [ inl e ↦ some_none e | inr e ↦ cc ]

root_merges : Refuses merging_root
root_merges w f z =
    let t = f.top one_tree in
    let h = homed_is f _ 1 (capped (leaf [] [] None [])) (f.homed _ 1 (head_in _ 1 t.1)) refl in
    let p = h.parent refl in
    subst (λ c. In p.0 c) t.2 p.2

gap : Refuses has_a_gap
gap w f z =
    let t = f.top one_tree in
    let i = index_first f one_tree t.0 3 (over (([], 1) ∷ (key 9, 2) ∷ [])) (([], 1) ∷ (key 9, 2) ∷ []) t.1 refl refl in
    keys_apart 8 9 refl (second_on f (place one_tree i.0) 1 2 left.1 (leaf (key 9) [] None (selves 2 9)) i.3 refl refl refl).2

nothing : Refuses pointer_to_nothing
nothing w f z =
    let t = f.top one_tree in
    let n : Node = over (both ++ (key 9, 7) ∷ []) in
    let i = index_first f one_tree t.0 3 n (both ++ (key 9, 7) ∷ []) t.1 refl refl in
    none_some (i.4 (key 9) 7 (inr (inr (inl refl)))).live

key_differs : Refuses wrong_key
key_differs w f z =
    let t = f.top one_tree in
    let n : Node = over (([], 1) ∷ (key 9, 2) ∷ []) in
    let i = index_first f one_tree t.0 3 n (([], 1) ∷ (key 9, 2) ∷ []) t.1 refl refl in
    let c = i.4 (key 9) 2 (inr (inl refl)) in
    keys_apart 8 9 refl (ap (λ (z : Node). z.lo) (some_is c.live) ∙ c.key)

no_child : Refuses not_the_merging_child
no_child w f z =
    let t = f.top one_tree in
    let i = index_first f one_tree t.0 3 (over both) both t.1 refl refl in
    let c = i.4 (key 8) 2 (inr (inl refl)) in
    none_some (c.merged (sym (ap (λ (z : Node). z.merging) (some_is c.live))))

first_child_merges : Refuses first_is_the_merging_child
first_child_merges w f z =
    let t = f.top one_tree in
    let n : Node = merging 1 (over both) in
    let i = index_first f one_tree t.0 3 n both t.1 refl refl in
    let c = f.child (place one_tree (suc i.0)) 3 n i.2 refl 1 refl in
    apart 1 2 refl (later_both c.0 1 c.1)

child_of_its_own : Refuses merging_with_a_merging_child
child_of_its_own w f z =
    let t = f.top one_tree in
    let n : Node = merging 2 (over both) in
    let i = index_first f one_tree t.0 3 n both t.1 refl refl in
    let c = i.4 (key 8) 2 (inr (inl refl)) in
    some_none ((homed_is f (place one_tree i.0) 2 (merging 1 (capped right)) c.homed refl).calm refl)

many_of_a_child : Refuses too_many_of_a_merging_child
many_of_a_child w f z =
    let t = f.top one_tree in
    let n : Node = merging 2 (over both) in
    let i = index_first f one_tree t.0 3 n both t.1 refl refl in
    no (z.child (place one_tree (suc i.0)) 3 2 n (leaf (key 8) [] None (selves 18 8)) i.2 refl refl refl)
  where
    no : 18 ≤ 17 → ⊥
    no l = omega arith

parentless : Refuses merging_without_a_pointer
parentless w f z =
    let t = f.top one_tree in
    let i = index_first f one_tree t.0 3 (over first_only) first_only t.1 refl refl in
    let here = second_in f (place one_tree i.0) 1 2 left.1 (capped right) i.3 refl refl refl in
    let p = (homed_is f (place one_tree i.0) 2 (capped right) (f.homed _ 2 here) refl).parent refl in
    let above = run_on _ _ 3 (over first_only) [] refl (run_at f (place one_tree (suc i.0)) 3 (subst (λ h. head (w.chain (place one_tree h)) ≡ Some 3) i.1 t.1)) in
    let only : w.chain (place one_tree (suc i.0)) ≡ 3 ∷ [] = above.1 ∙ ap (λ c. 3 ∷ c) (run_ends _ above.0 [] above.4).0 in
    elim (subst (λ c. In p.0 c) only p.2) [
      | inl e ↦ none_some (ap (λ (z : Node). z.merging_child) (some_is (ap (nodes_of merging_without_a_pointer) (sym e) ∙ p.3)) ∙ p.4)
      | inr e ↦ absurd e
    ]

pointed_to_twice : Refuses two_pointers
pointed_to_twice w f z =
    let t = f.top one_tree in
    let n : Node = merging 2 (over (both ++ (key 9, 2) ∷ [])) in
    let i = index_first f one_tree t.0 3 n (both ++ (key 9, 2) ∷ []) t.1 refl refl in
    let c = i.4 (key 9) 2 (inr (inr (inl refl))) in
    keys_apart 8 9 refl (ap (λ (z : Node). z.lo) (some_is c.live) ∙ c.key)

-- two trees receive one page, whatever stands before it in the other
two_trees : (before : Node) → Refuses (image (all_in_one ∷ (2, capped right) ∷ (3, merging 2 (over both)) ∷ (4, before) ∷ (5, merging 2 (over (([], 4) ∷ (key 8, 2) ∷ []))) ∷ []) ((one_tree, 3) ∷ (other_tree, 5) ∷ []))
two_trees before w f z =
    let t = f.top one_tree in
    let u = f.top other_tree in
    let n : Node = merging 2 (over both) in
    let m : Node = merging 2 (over (([], 4) ∷ (key 8, 2) ∷ [])) in
    let i = index_first f one_tree t.0 3 n both t.1 refl refl in
    let j = index_first f other_tree u.0 5 m (([], 4) ∷ (key 8, 2) ∷ []) u.1 refl refl in
    let c = i.4 (key 8) 2 (inr (inl refl)) in
    let d = j.4 (key 8) 2 (inr (inl refl)) in
    trees_apart i.0 j.0 (some_is (sym c.homed ∙ d.homed))

of_two_trees : Refuses in_another_tree
of_two_trees = two_trees (leaf [] (key 8) (Some 2) [])

received_twice : Refuses received_by_two_trees
received_twice = two_trees (leaf [] [] None [])

of_two_levels : Refuses in_another_level
of_two_levels w f z =
    let t = f.top one_tree in
    let n : Node = merging 2 (over (([], 6) ∷ (key 8, 2) ∷ [])) in
    let m : Node = merging 2 (over (([], 3) ∷ (key 8, 2) ∷ [])) in
    let i = index_first f one_tree t.0 7 n (([], 6) ∷ (key 8, 2) ∷ []) t.1 refl refl in
    let j = index_first f one_tree i.0 6 m (([], 3) ∷ (key 8, 2) ∷ []) i.3 refl refl in
    let c = i.4 (key 8) 2 (inr (inl refl)) in
    let d = j.4 (key 8) 2 (inr (inl refl)) in
    let e : place one_tree i.0 ≡ place one_tree j.0 = some_is (sym c.homed ∙ d.homed) in
    no i.0 j.0 (ap (λ (z : Place). z.height) e) j.1
  where
    no : (a b : ℕ) → a ≡ b → a ≡ suc b → ⊥
    no a b e g = omega arith

out_of_the_chain : Refuses pointer_out_of_the_chain
out_of_the_chain w f z =
    let t = f.top one_tree in
    let n : Node = over (both ++ (key 9, 7) ∷ []) in
    let i = index_first f one_tree t.0 3 n (both ++ (key 9, 7) ∷ []) t.1 refl refl in
    let c = i.4 (key 9) 7 (inr (inr (inl refl))) in
    let s = second_on f (place one_tree i.0) 1 2 left.1 right i.3 refl refl refl in
    let two : w.chain (place one_tree i.0) ≡ 1 ∷ 2 ∷ [] = s.1 ∙ ap (λ c. 1 ∷ 2 ∷ c) (run_ends _ s.0 [] s.4).0 in
    elim (homed_is f (place one_tree i.0) 7 (leaf (key 9) [] None (selves 2 9)) c.homed refl).stands [
      | inl a ↦ elim (subst (λ c. In 7 c) two a) [ inl e ↦ apart 7 1 refl e | inr e ↦ elim e [ inl e ↦ apart 7 2 refl e | inr e ↦ absurd e ] ]
      | inr e ↦ cc
    ]

beside_a_leaf : Refuses index_beside_a_leaf
beside_a_leaf w f z =
    let t = f.top one_tree in
    let n : Node = index (key 8) [] None ((key 8, 1) ∷ []) in
    let here = second_in f (place one_tree t.0) 1 2 left.1 n t.1 refl refl refl in
    let low = leaf_low t.0 [] (key 8) (selves 8 0) (holds_at f (place one_tree t.0) 1 left.1 (head_in _ 1 t.1) refl) in
    subst (λ h. Holds h (key 8) [] (Index ((key 8, 1) ∷ []))) low (holds_at f (place one_tree t.0) 2 n here refl)

child_without_a_pointer : Refuses merging_child_without_a_pointer
child_without_a_pointer w f z =
    let t = f.top one_tree in
    let n : Node = merging 9 (over both) in
    let i = index_first f one_tree t.0 3 n both t.1 refl refl in
    let c = f.child (place one_tree (suc i.0)) 3 n i.2 refl 9 refl in
    apart 9 2 refl (later_both c.0 9 c.1)

first_within : (h : ℕ) (lo hi : Key) (e : Key × Key) (es : List (Key × Key)) → Holds h lo hi (Leaf (e ∷ es)) → Within lo hi e.0
first_within zero lo hi e es k = k.1.0
first_within (suc h) lo hi e es k = absurd k

beyond : Refuses beyond_the_bounds
unfolding key_cmp
beyond w f z =
    let t = f.top one_tree in
    let k = first_within t.0 [] (key 8) (key 9, key 9) [] (holds_at f (place one_tree t.0) 1 (leaf [] (key 8) (Some 2) (selves 1 9)) (head_in _ 1 t.1) refl) in
    elim k.1 [ inl e ↦ cc | inr e ↦ cc ]

-- an index begins where its first pointer does
first_is : (h : ℕ) (lo hi : Key) (es : List (Key × ℕ)) → Holds h lo hi (Index es) → first_key es ≡ Some lo
first_is zero lo hi es k = absurd k
first_is (suc h) lo hi es k = k.2

no_pointers : Refuses without_pointers
no_pointers w f z =
    let t = f.top one_tree in
    none_some (first_is t.0 [] [] [] (holds_at f (place one_tree t.0) 3 (over []) (head_in _ 3 t.1) refl))

first_above : Refuses first_key_above
first_above w f z =
    let t = f.top one_tree in
    key_some 4 (some_is (first_is t.0 [] [] ((key 4, 1) ∷ []) (holds_at f (place one_tree t.0) 3 (over ((key 4, 1) ∷ [])) (head_in _ 3 t.1) refl)))

received_order : Refuses received_not_ascending
unfolding key_cmp
received_order w f z =
    let t = f.top one_tree in
    let n : Node = merging 2 (over both) in
    let i = index_first f one_tree t.0 3 n both t.1 refl refl in
    let c = i.4 (key 8) 2 (inr (inl refl)) in
    let d : Node = capped (leaf (key 8) [] None ((key 9, key 9) ∷ (key 8, key 8) ∷ [])) in
    leaf_sorted i.0 (key 8) [] ((key 9, key 9) ∷ (key 8, key 8) ∷ []) (homed_is f (place one_tree i.0) 2 d c.homed refl).sound.holds

pub refused_images : RefusedImages
refused_images = record {
  no_root = no_root;
  itself = itself;
  gap = gap;
  early = early;
  nothing = nothing;
  key_differs = key_differs;
  no_child = no_child;
  first_child = first_child_merges;
  child_of_its_own = child_of_its_own;
  many = many;
  many_of_a_child = many_of_a_child;
  order = order;
  late = late;
  shared_root = shared_root;
  out_of_the_chain = out_of_the_chain;
  beside_a_leaf = beside_a_leaf;
  child_without_a_pointer = child_without_a_pointer;
  beyond = beyond;
  no_pointers = no_pointers;
  first_above = first_above;
  falls = falls;
  unbounded = unbounded;
  root_merges = root_merges;
  parentless = parentless;
  pointed_to_twice = pointed_to_twice;
  received_twice = received_twice;
  of_two_trees = of_two_trees;
  of_two_levels = of_two_levels;
  received_order = received_order;
}
