-- What the pages say of a tree's pairs: at a key, in order, and that they say one thing.
use Rattle.std.proofs.Common.{◌≢◌, ◌≡◌, ℕ, zero, suc, ◌≤◌, cond, T, List, [], ◌∷◌, ◌++◌, Option, Some, None, MatchOption, is_eq, is_lt, sym, refl, ap, ◌∙◌, subst, inl, inr, ◌⊎◌, append-nil, arith, ◌+◌, ◌-◌}
use Rattle.std.specs.List.{AllByRecursion}
use Rattle.std.specs.Ordering.{eq_by_cmp}
use Rattle.std.specs.FinMap.Entries.{find, is_sorted, below_all}
use Rattle.sled_nodes.proofs.Basics.{some_is, left_of, right_of, both_of, none_some}
use Rattle.sled_store.specs.In.{In}
use Rattle.sled_nodes.specs.Node.{pairs, pointers}
use Rattle.sled_nodes.specs.Order.{Key, key_cmp, Below, UpTo}
use Rattle.sled_store.specs.State.{Nodes}
use Rattle.sled_nodes.specs.declared.node.Data.{Data}
use Rattle.sled_nodes.specs.declared.node.Data.TheVariants.{Leaf, Index}
use Rattle.sled_nodes.specs.declared.node.Node.{Node}
use Rattle.tree_laws.specs.Forest.{first_child, Holds, Forest, Place, place, Run, WellFormed, node_pairs, head, Tree}
use Rattle.tree_laws.specs.theory.Laws.{RangeLaw, FindLaw, SortedLaw, OneLaw}
use Rattle.tree_laws.proofs.Order.{below_upto-trans}
use Rattle.tree_laws.proofs.Pairs.{not_below_empty, leaf_within, above, each_weaker, pairs_before, pairs_from, Leaves}
use Rattle.tree_laws.proofs.Runs.{rises_on, In_split, In-left, In-right}
use Rattle.tree_laws.proofs.Replace.{pairs_of, pairs-three, head_in}
use Rattle.tree_laws.proofs.Cover.{parted, holds_at, child_below, later_in}

find-below : (k : Key) (xs ys : List (Key × Key)) → AllByRecursion (λ e. Below e.0 k) xs → find key_cmp k (xs ++ ys) ≡ find key_cmp k ys
find-below k [] ys a = refl
find-below k (x ∷ xs) ys a = ap (λ o. cond (is_eq o) (Some x.1) (find key_cmp k (xs ++ ys))) (above x.0 k a.0) ∙ find-below k xs ys a.1

find-above : (k : Key) (ms ys : List (Key × Key)) → AllByRecursion (λ e. Below k e.0) ys → find key_cmp k (ms ++ ys) ≡ find key_cmp k ms
find-above k [] [] a = refl
find-above k [] (y ∷ ys) a = ap (λ o. cond (is_eq o) (Some y.1) (find key_cmp k ys)) a.0 ∙ find-above k [] ys a.1
find-above k (m ∷ ms) ys a = ap (λ r. cond (eq_by_cmp key_cmp k m.0) (Some m.1) r) (find-above k ms ys a)

leaves : {nodes : Nodes} {roots : Tree → Option ℕ} {w : Forest} (f : WellFormed nodes roots w) (t : Tree) (qs : List ℕ) → ((q : ℕ) → In q qs → In q (w.chain (place t 0))) → Leaves nodes qs
leaves f t qs there q d i live = holds_at f (place t 0) q d (there q i) live

-- what lies behind a page is at or above its end
behind_end : (nodes : Nodes) (n : Node) (ys : List ℕ) (hi : Key) → Leaves nodes ys → (n.next ≡ None) ⊎ Below n.lo n.hi → Run nodes ys n.next n.hi None hi → AllByRecursion (λ e. (n.hi ≢ []) × UpTo n.hi e.0) (pairs_of nodes ys)
behind_end nodes n [] hi s o r = tt
behind_end nodes n (q ∷ qs) hi s o r =
    let up = rises_on nodes (q ∷ qs) n None hi q (inl refl) o r in
    each_weaker (λ e. UpTo n.hi e.0) (λ e. (n.hi ≢ []) × UpTo n.hi e.0) (λ e u. (λ none. not_below_empty n.lo (subst (λ k. Below n.lo k) none up), u)) _ (pairs_from nodes (q ∷ qs) _ None _ hi s r)

pub range_law : RangeLaw
range_law nodes roots w f t p n i live =
    let s = In_split (w.chain (place t 0)) p i in
    let r = parted f (place t 0) p n s.0 s.1 s.2 live in
    let in_xs : (q : ℕ) → In q s.0 → In q (w.chain (place t 0)) = λ q j. subst (λ c. In q c) (sym s.2) (In-left s.0 (p ∷ s.1) q j) in
    let in_ys : (q : ℕ) → In q s.1 → In q (w.chain (place t 0)) = λ q j. subst (λ c. In q c) (sym s.2) (In-right s.0 (p ∷ s.1) q (inr j)) in (
      pairs_of nodes s.0,
      pairs_of nodes s.1,
      ap (pairs_of nodes) s.2 ∙ pairs-three nodes s.0 (p ∷ []) s.1 ∙ ap (λ z. pairs_of nodes s.0 ++ (z ++ pairs_of nodes s.1)) (ap (λ z. node_pairs z ++ []) live ∙ append-nil (pairs n.content)),
      pairs_before nodes s.0 _ p _ _ (leaves f t s.0 in_xs) r.0,
      leaf_within n.lo n.hi n.content (holds_at f (place t 0) p n i live),
      behind_end nodes n s.1 [] (leaves f t s.1 in_ys) r.1 r.2,
    )

pub find_law : FindLaw
find_law nodes roots w f t p n k i live within =
    let r = range_law nodes roots w f t p n i live in
    let low = each_weaker (λ e. Below e.0 n.lo) (λ e. Below e.0 k) (λ e h. below_upto-trans e.0 n.lo k h within.0) _ r.3 in
    let high = each_weaker (λ e. (n.hi ≢ []) × UpTo n.hi e.0) (λ e. Below k e.0) (λ e u. elim within.1 [ inl none ↦ absurd (u.0 none) | inr b ↦ below_upto-trans k n.hi e.0 b u.1 ]) _ r.5 in
    ap (find key_cmp k) r.2 ∙ find-below k r.0 _ low ∙ find-above k (pairs n.content) r.1 high

all_above : {X : Type 0} (a : Key) (ys : List (Key × X)) → AllByRecursion (λ e. Below a e.0) ys → T (below_all key_cmp a ys)
all_above a [] h = tt
all_above a (y ∷ ys) h = both_of _ _ (subst (λ o. T (is_lt o)) (sym h.0) tt) (all_above a ys h.1)

below-append : {X : Type 0} (a : Key) (xs ys : List (Key × X)) → T (below_all key_cmp a xs) → T (below_all key_cmp a ys) → T (below_all key_cmp a (xs ++ ys))
below-append a [] ys p q = q
below-append a (x ∷ xs) ys p q = both_of _ _ (left_of _ _ p) (below-append a xs ys (right_of _ _ p) q)

pub sorted-append : {X : Type 0} (k : Key) (xs ys : List (Key × X)) → T (is_sorted key_cmp xs) → T (is_sorted key_cmp ys) → AllByRecursion (λ e. Below e.0 k) xs → AllByRecursion (λ e. UpTo k e.0) ys → T (is_sorted key_cmp (xs ++ ys))
sorted-append k [] ys s u a b = u
sorted-append k (x ∷ xs) ys s u a b =
    both_of _ _ (below-append x.0 xs ys (left_of _ _ s) (all_above x.0 ys (each_weaker (λ e. UpTo k e.0) (λ e. Below x.0 e.0) (λ e h. below_upto-trans x.0 k e.0 a.0 h) ys b)))
    (sorted-append k xs ys (right_of _ _ s) u a.1 b)

leaf_sorted : (lo hi : Key) (c : Data) → Holds 0 lo hi c → T (is_sorted key_cmp (pairs c))
leaf_sorted lo hi (Leaf es) h = h.0
leaf_sorted lo hi (Index es) h = absurd h

one_sorted : (nodes : Nodes) (p : ℕ) (n : Node) → nodes p ≡ Some n → Holds 0 n.lo n.hi n.content → T (is_sorted key_cmp (pairs_of nodes (p ∷ [])))
one_sorted nodes p n live h = subst (λ o. T (is_sorted key_cmp (node_pairs o ++ []))) (sym live) (subst (λ l. T (is_sorted key_cmp l)) (sym (append-nil (pairs n.content))) (leaf_sorted n.lo n.hi n.content h))

run_sorted : (nodes : Nodes) (ps : List ℕ) (from to : Option ℕ) (lo hi : Key) → Leaves nodes ps → Run nodes ps from lo to hi → T (is_sorted key_cmp (pairs_of nodes ps))
run_sorted nodes [] from to lo hi s r = tt
run_sorted nodes (p ∷ ps) from to lo hi s r =
    let mine = one_sorted nodes p r.0 r.1.live (s p r.0 (inl refl) r.1.live) in
    let late : Leaves nodes ps = λ z d i. s z d (inr i) in
    go ps r.2 late mine (run_sorted nodes ps _ to _ hi late r.2)
  where
    go : (qs : List ℕ) → Run nodes qs r.0.next r.0.hi to hi → Leaves nodes qs → T (is_sorted key_cmp (pairs_of nodes (p ∷ []))) → T (is_sorted key_cmp (pairs_of nodes qs)) → T (is_sorted key_cmp (pairs_of nodes (p ∷ qs)))
    go [] u l a b = a
    go (q ∷ qs) u l a b =
        let one : Run nodes (p ∷ []) from lo (Some q) r.0.hi = (r.0, r.1, (u.1.here, refl)) in
        let only : Leaves nodes (p ∷ []) = λ z d i. s z d (elim i [ inl e ↦ inl e | inr e ↦ absurd e ]) in
        subst (λ l. T (is_sorted key_cmp (l ++ pairs_of nodes (q ∷ qs)))) (append-nil (node_pairs (nodes p)))
        (sorted-append r.0.hi (pairs_of nodes (p ∷ [])) (pairs_of nodes (q ∷ qs)) a b (pairs_before nodes (p ∷ []) from q lo r.0.hi only one) (pairs_from nodes (q ∷ qs) _ to _ hi l u))

pub sorted_law : SortedLaw
sorted_law nodes roots w f t = elim (f.run (place t 0)) [
  | inl e ↦ subst (λ c. T (is_sorted key_cmp (pairs_of nodes c))) (sym e) tt
  | inr r ↦ run_sorted nodes (w.chain (place t 0)) _ _ _ _ (leaves f t (w.chain (place t 0)) (λ q i. i)) r
]

-- where a chain begins decides it
one_run : (nodes : Nodes) (ps qs : List ℕ) (from : Option ℕ) (lo hi lo' hi' : Key) → Run nodes ps from lo None hi → Run nodes qs from lo' None hi' → ps ≡ qs
one_run nodes [] [] from lo hi lo' hi' r s = refl
one_run nodes [] (q ∷ qs) from lo hi lo' hi' r s = none_some (sym r.0 ∙ s.1.here)
one_run nodes (p ∷ ps) [] from lo hi lo' hi' r s = none_some (sym s.0 ∙ r.1.here)
one_run nodes (p ∷ ps) (q ∷ qs) from lo hi lo' hi' r s =
    let e : p ≡ q = some_is (sym r.1.here ∙ s.1.here) in
    let n : s.0 ≡ r.0 = some_is (sym s.1.live ∙ ap nodes (sym e) ∙ r.1.live) in
    let rest = one_run nodes ps qs r.0.next r.0.hi hi s.0.hi hi' r.2 (subst (λ (z : Node). Run nodes qs z.next s.0.hi None hi') n s.2) in
    λ i. e i ∷ rest i

no_head : (ps : List ℕ) → head ps ≡ None → ps ≡ []
no_head [] e = refl
no_head (p ∷ ps) e = cc

module _ {nodes : Nodes} {roots : Tree → Option ℕ} {w : Forest} (f : WellFormed nodes roots w) where
  -- below a page that begins a level another begins the level below
  pub child_of : (t : Tree) (h p : ℕ) (n : Node) → head (w.chain (place t (suc h))) ≡ Some p → nodes p ≡ Some n → (c : ℕ) × (first_child (pointers n.content) ≡ Some c) × (head (w.chain (place t h)) ≡ Some c)
  child_of t h p n e live =
      let g = first (suc_holds (holds_at f (place t (suc h)) p n (head_in _ p e) live)) in
      (g.0, g.1, f.down t h p n e live ∙ g.1)
    where
      suc_holds : Holds (suc h) n.lo n.hi n.content → Holds (suc h) n.lo n.hi n.content
      suc_holds s = s

      first : Holds (suc h) n.lo n.hi n.content → (c : ℕ) × (first_child (pointers n.content) ≡ Some c)
      first = go n.content
        where
          go : (c : Data) → Holds (suc h) n.lo n.hi c → (d : ℕ) × (first_child (pointers c) ≡ Some d)
          go (Leaf es) s = absurd s
          go (Index []) s = none_some s.2
          go (Index (e ∷ es)) s = (e.1, refl)

  empty_level : (t : Tree) (g h : ℕ) → w.chain (place t g) ≡ [] → g ≤ h → w.chain (place t h) ≡ []
  empty_level t g h e l = climb (h - g) h (omega arith)
    where
      climb : (k h : ℕ) → h ≡ g + k → w.chain (place t h) ≡ []
      climb zero h s = let a : h ≡ g = omega arith in ap (λ z. w.chain (place t z)) a ∙ e
      climb (suc k) h s = ap (λ z. w.chain (place t z)) up ∙ no_head _ (over (head (w.chain (place t (suc (g + k))))) refl (climb k (g + k) refl))
        where
          up : h ≡ suc (g + k)
          up = omega arith

          over : (o : Option ℕ) → head (w.chain (place t (suc (g + k)))) ≡ o → w.chain (place t (g + k)) ≡ [] → o ≡ None
          over None a b = refl
          over (Some p) a b =
              let i = head_in _ p a in
              let d = f.page _ p (f.homed _ p i) in
              let c = child_of t (g + k) p d.0 a d.1.live in
              no (sym (ap head b) ∙ c.2)
            where
              no : {c : ℕ} {P : Type 0} → None ≡ Some c → P
              no e = cc

two : (lo hi : Key) (k : ℕ) (c : Data) → Holds 0 lo hi c → Holds (suc k) lo hi c → ⊥
two lo hi k (Leaf es) a b = b
two lo hi k (Index es) a b = a

module _ {nodes : Nodes} {roots : Tree → Option ℕ} {w v : Forest} (f : WellFormed nodes roots w) (g : WellFormed nodes roots v) where
  node_of : (x : Place) (p : ℕ) → head (w.chain x) ≡ Some p → (n : Node) × (nodes p ≡ Some n)
  node_of x p e = let d = f.page x p (f.homed x p (head_in _ p e)) in (d.0, d.1.live)

  same_height : (t : Tree) (h k p : ℕ) → head (w.chain (place t h)) ≡ Some p → head (v.chain (place t k)) ≡ Some p → h ≡ k
  same_height t zero zero p a b = refl
  same_height t zero (suc k) p a b =
      let n = node_of (place t 0) p a in
      absurd (two n.0.lo n.0.hi k n.0.content (holds_at f (place t 0) p n.0 (head_in _ p a) n.1) (holds_at g (place t (suc k)) p n.0 (head_in _ p b) n.1))
  same_height t (suc h) zero p a b =
      let n = node_of (place t (suc h)) p a in
      absurd (two n.0.lo n.0.hi h n.0.content (holds_at g (place t 0) p n.0 (head_in _ p b) n.1) (holds_at f (place t (suc h)) p n.0 (head_in _ p a) n.1))
  same_height t (suc h) (suc k) p a b =
      let n = node_of (place t (suc h)) p a in
      let c = child_of f t h p n.0 a n.1 in
      let d = child_of g t k p n.0 b n.1 in
      ap suc (same_height t h k c.0 c.2 (d.2 ∙ sym d.1 ∙ c.1))

  -- from the top down each level begins alike
  levels : (t : Tree) (top r : ℕ) → head (w.chain (place t top)) ≡ Some r → head (v.chain (place t top)) ≡ Some r → (k h : ℕ) → top ≡ h + k → (c : ℕ) × (head (w.chain (place t h)) ≡ Some c) × (head (v.chain (place t h)) ≡ Some c)
  levels t top r a b zero h e = let s : top ≡ h = omega arith in (r, ap (λ z. head (w.chain (place t z))) (sym s) ∙ a, ap (λ z. head (v.chain (place t z))) (sym s) ∙ b)
  levels t top r a b (suc k) h e =
      let up = levels t top r a b k (suc h) (omega arith) in
      let n = node_of (place t (suc h)) up.0 up.1 in
      let c = child_of f t h up.0 n.0 up.1 n.1 in
      let d = child_of g t h up.0 n.0 up.2 n.1 in
      (c.0, c.2, d.2 ∙ sym d.1 ∙ c.1)

  same_heads : (t : Tree) (h : ℕ) → head (w.chain (place t h)) ≡ head (v.chain (place t h))
  same_heads t h = go (roots t) (f.top t) (g.top t)
    where
      go : (o : Option ℕ) → MatchOption o ((g : ℕ) → w.chain (place t g) ≡ []) (λ q. (g : ℕ) × (head (w.chain (place t g)) ≡ Some q) × (w.chain (place t (suc g)) ≡ []))
          → MatchOption o ((g : ℕ) → v.chain (place t g) ≡ []) (λ q. (g : ℕ) × (head (v.chain (place t g)) ≡ Some q) × (v.chain (place t (suc g)) ≡ [])) → head (w.chain (place t h)) ≡ head (v.chain (place t h))
      go None a b = ap head (a h ∙ sym (b h))
      go (Some r) a b =
          let s : a.0 ≡ b.0 = same_height t a.0 b.0 r a.1 b.1 in
          elim (split a.0) [
            | inl low ↦ let l = levels t a.0 r a.1 (ap (λ z. head (v.chain (place t z))) s ∙ b.1) (a.0 - h) h (omega arith) in l.1 ∙ sym l.2
            | inr high ↦ ap head (empty_level f t (suc a.0) h a.2 high ∙ sym (empty_level g t (suc b.0) h b.2 (omega arith)))
          ]
        where
          split : (z : ℕ) → (h ≤ z) ⊎ (suc z ≤ h)
          split z = grind arith

  same_chain : (x : Place) → w.chain x ≡ v.chain x
  same_chain x =
      let e = same_heads x.tree x.height in
      elim (f.run x) [
        | inl a ↦ a ∙ sym (no_head _ (sym e ∙ ap head a))
        | inr a ↦ elim (g.run x) [
          | inl b ↦ no_head _ (e ∙ ap head b) ∙ sym b
          | inr b ↦ one_run nodes _ _ _ _ _ _ _ a (subst (λ o. Run nodes (v.chain x) o [] None []) (sym e) b)
        ]
      ]

module _ {nodes : Nodes} {roots : Tree → Option ℕ} {w v : Forest} (f : WellFormed nodes roots w) (g : WellFormed nodes roots v) where
  -- a home in the one is the home in the other
  home_on : (p : ℕ) (x : Place) → w.home p ≡ Some x → v.home p ≡ Some x
  home_on p x e =
      let h = f.page x p e in
      elim h.1.stands [
        | inl i ↦ g.homed x p (subst (λ c. In p c) (same_chain f g x) i)
        | inr t ↦
            let q = h.1.parent t in
            let b = child_below f (place x.tree (suc x.height)) q.0 q.1 p q.2 q.3 q.4 in
            (g.pointer x.tree x.height q.0 q.1 (subst (λ c. In q.0 c) (same_chain f g (place x.tree (suc x.height))) q.2) q.3 b.2 p (later_in q.1.content b.2 p b.3)).homed
      ]

pub one_law : OneLaw
one_law nodes roots w v f g = λ i. record { chain = λ x. same_chain f g x i; home = λ p. homes p i }
  where
    homes : (p : ℕ) → w.home p ≡ v.home p
    homes p = go (w.home p) (v.home p) refl refl
      where
        go : (a b : Option Place) → w.home p ≡ a → v.home p ≡ b → w.home p ≡ v.home p
        go None None i j = i ∙ sym j
        go (Some x) b i j = i ∙ sym (home_on f g p x i)
        go None (Some y) i j = home_on g f p y j ∙ sym j
