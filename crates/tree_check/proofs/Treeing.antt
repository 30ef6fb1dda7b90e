-- A tree, pages by pages, and tree by tree.
use Rattle.std.proofs.Common.{Vec, Global, ◌≡◌, ◌≢◌, ℕ, zero, suc, ◌+◌, ◌-◌, ◌≤◌, ◌<◌, Bool, true, false, cond, nat_eq, List, [], ◌∷◌, length, get_or, take, Option, Some, None, sym, refl, ap, ◌∙◌, subst, inl, inr, ◌⊎◌, arith}
use Rattle.std.proofs.lemmas.Bool.{eqb-true}
use Rattle.std.specs.BTreeSet.{BTreeSet, contains, IsEmpty}
use Rattle.std.specs.BTreeMap.{is_at}
use Rattle.std.specs.List.{list_any}
use Rattle.std.specs.Map.{lookup}
use Rattle.std.specs.Ordering.{nat_cmp}
use Rattle.std.specs.FinMap.Entries.{find, is_sorted}
use Rattle.sled_nodes.proofs.Basics.{none_some, some_is, false_true}
use Rattle.sled_store.specs.In.{In}
use Rattle.sled_nodes.specs.Node.{pointers}
use Rattle.sled_nodes.specs.Order.{Key, key_cmp}
use Rattle.sled_store.specs.State.{State, Nodes, nodes_of}
use Rattle.sled_nodes.specs.declared.node.Node.{Node}
use Rattle.sled_store.specs.declared.page.View.{View}
use Rattle.tree_laws.specs.Forest.{WellFormed, Tree, Place, head, first_child, Run}
use Rattle.sled_store.specs.Store.{IsRoots}
use Rattle.sled_store.proofs.Lists.{map_in}
use Rattle.tree_laws.specs.Crashes.{IsValid}
use Rattle.tree_laws.specs.theory.Laws.{no_forest}
use Rattle.tree_laws.proofs.Empty.{no_trees, no_sizes}
use Rattle.tree_laws.proofs.Matching.{itself}
use Rattle.tree_check.specs.declared.levels.Level.{Level}
use Rattle.tree_check.specs.theory.Tree.{IsPointerTo, IsAtHeight, IsTreeFrom}
use Rattle.tree_check.specs.theory.Walk.{Levels, level_of, ReadsChain, IsReceived, FindsReceived, LeadsTo, HasMergingChild, LeadsDown, pids, height_in, home_in, IsNewTree, FindsLevel, FindsTree, WalksTree, Verifies}
use Rattle.tree_check.proofs.Listed.{in_map}
use Rattle.tree_check.proofs.Descending.{with_level, level_here, level_above, one_level, still_top}
use Rattle.tree_check.proofs.Planting.{planted, formed, sized, homes}
use Rattle.tree_check.proofs.Rooted.{absent, one_root_more}

abbrev pub level_at : ℕ → ℕ → Level
level_at tree h = record { tree = tree; height = h }

-- a height is that of a level
height_of : (tree g : ℕ) (o : Option Level) → height_in tree o ≡ Some g → o ≡ Some (level_at tree g)
height_of tree g None e = none_some e
height_of tree g (Some z) e = go (nat_eq z.tree tree) refl e
  where
    go : (b : Bool) → nat_eq z.tree tree ≡ b → cond b (Some z.height) None ≡ Some g → Some z ≡ Some (level_at tree g)
    go true h e = ap (λ t. Some (level_at t z.height)) (eqb-true z.tree tree h) ∙ ap (λ k. Some (level_at tree k)) (some_is e)
    go false h e = none_some e

height_is : (tree g : ℕ) → height_in tree (Some (level_at tree g)) ≡ Some g
height_is tree g = ap (λ b. cond b (Some g) None) (itself tree)

level_home : (tree : ℕ) (levels : Levels) (p g : ℕ) → level_of levels p ≡ Some (level_at tree g) → home_in tree levels p ≡ Some g
level_home tree levels p g e = ap (height_in tree) e ∙ height_is tree g

home_level : (tree : ℕ) (levels : Levels) (p g : ℕ) → home_in tree levels p ≡ Some g → level_of levels p ≡ Some (level_at tree g)
home_level tree levels p g e = height_of tree g (level_of levels p) e

level_height : (tree h g : ℕ) (z : Level) → z ≡ level_at tree g → z ≡ level_at tree h → g ≡ h
level_height tree h g z a b = ap (λ (y : Level). y.height) (sym a ∙ b)

-- a chain that goes on has a first page
chain_head : (nodes : Nodes) (ps : List ℕ) (first : ℕ) → Run nodes ps (Some first) [] None [] → head ps ≡ Some first
chain_head nodes [] first r = none_some (sym r.0)
chain_head nodes (p ∷ ps) first r = sym r.1.here

module _ {s : State} {tree h first : ℕ} {chain : ℕ → List ℕ} {above pages : List View} {children : ℕ → Bool} {mid middle new : Levels}
    (is : IsTreeFrom (nodes_of s) (suc h) chain (home_in tree mid)) (here : chain (suc h) ≡ pids above)
    (live : (v : View) → In v above → nodes_of s v.pid ≡ Some v.node)
    (down : (p : ℕ) (n : Node) → head (pids above) ≡ Some p → nodes_of s p ≡ Some n → Some first ≡ first_child (pointers n.content))
    (has : (c : ℕ) → children c ≡ true → HasMergingChild above c)
    (read : ReadsChain s children (level_at tree h) first pages None [] mid middle)
    (lead : (v : View) → In v above → (k : Key) (c : ℕ) → In (k, c) (pointers v.node.content) → LeadsTo s v (level_at tree h) new k c)
    (also : FindsReceived s above (level_at tree h) middle new) where
  abbrev more : ℕ → List ℕ
  more = with_level chain h (pids pages)

  begins : head (pids pages) ≡ Some first
  begins = chain_head (nodes_of s) (pids pages) first read.run

  kept : (p g : ℕ) → home_in tree mid p ≡ Some g → home_in tree new p ≡ Some g
  kept p g e = level_home tree new p g (also.kept p _ (read.kept p _ (home_level tree mid p g e)))

  -- the parent of a page
  parent_of : (c : ℕ) → HasMergingChild above c → (q : ℕ) × (m : Node) × In q (more (suc h)) × (nodes_of s q ≡ Some m) × (m.merging_child ≡ Some c)
  parent_of c v = (v.0.pid, v.0.node, subst (λ ps. In v.0.pid ps) (sym (level_above chain h (pids pages) (suc h) (omega arith) ∙ here)) (map_in (λ (x : View). x.pid) above v.0 v.1), live v.0 v.1, v.2)

  chained : (p : ℕ) → In p (pids pages) → IsAtHeight (nodes_of s) more p h
  chained p i =
      let v = in_map (λ (x : View). x.pid) pages p i in
      let c = read.each v.0 v.1 in
      subst (λ z. IsAtHeight (nodes_of s) more z h) v.2 (record {
        node = v.0.node;
        live = c.live;
        page = c.page;
        stands = inl (subst (λ ps. In v.0.pid ps) (sym (level_here chain h (pids pages))) (map_in (λ (x : View). x.pid) pages v.0 v.1));
        parent = λ m. parent_of v.0.pid (has v.0.pid (c.parent m));
      })

  received : (p : ℕ) (v : View) → In v above → IsReceived s v (level_at tree h) p → IsAtHeight (nodes_of s) more p h
  received p v i r = record { node = r.node; live = r.live; page = r.page; stands = inr r.merging; parent = λ m. parent_of p (v, i, r.child) }

  adds : (p g : ℕ) → home_in tree new p ≡ Some g → (home_in tree mid p ≡ Some g) ⊎ ((g ≡ h) × IsAtHeight (nodes_of s) more p h)
  adds p g e = elim (also.adds p _ (home_level tree new p g e)) [
    | inl f ↦ elim (read.adds p _ f) [
      | inl old ↦ inl (level_home tree mid p g old)
      | inr m ↦ inr (level_height tree h g _ refl m.1, chained p m.0)
    ]
    | inr m ↦ inr (level_height tree h g _ refl m.0, received p m.1 m.2 m.3)
  ]

  seated : (p : ℕ) → In p (pids pages) → home_in tree new p ≡ Some h
  seated p i =
      let v = in_map (λ (x : View). x.pid) pages p i in
      level_home tree new p h (also.kept p _ (subst (λ z. level_of middle z ≡ Some (level_at tree h)) v.2 (read.each v.0 v.1).found))

  leads : (p : ℕ) (n : Node) → In p (chain (suc h)) → nodes_of s p ≡ Some n → (k : Key) (c : ℕ) → In (k, c) (pointers n.content) → IsPointerTo (nodes_of s) (home_in tree new) n h k c
  leads p n i at k c j =
      let v = in_map (λ (x : View). x.pid) above p (subst (λ ps. In p ps) here i) in
      let same : v.0.node ≡ n = some_is (sym (live v.0 v.1) ∙ (ap (nodes_of s) v.2 ∙ at)) in
      let l = lead v.0 v.1 k c (subst (λ (z : Node). In (k, c) (pointers z.content)) (sym same) j) in
      record {
        node = l.node;
        live = l.live;
        homed = level_home tree new c h l.found;
        key = l.key;
        merged = λ m. ap (λ (z : Node). z.merging_child) (sym same) ∙ l.merged m;
        few = λ e. l.few (ap (λ (z : Node). z.merging_child) same ∙ e);
      }

  pub level_in : IsTreeFrom (nodes_of s) h more (home_in tree new)
  level_in = one_level is kept adds seated
      (inr (subst (λ o. Run (nodes_of s) (pids pages) o [] None []) (sym begins) read.run))
      leads
      (λ p n e at. begins ∙ down p n (ap head (sym here) ∙ e) at)

-- the first page of a pages that leads down
leads_down : (s : State) (above : List View) (first p : ℕ) (n : Node) → LeadsDown above first → ((v : View) → In v above → nodes_of s v.pid ≡ Some v.node)
    → head (pids above) ≡ Some p → nodes_of s p ≡ Some n → Some first ≡ first_child (pointers n.content)
leads_down s [] first p n d live e at = none_some e
leads_down s (v ∷ vs) first p n d live e at =
    let same : v.node ≡ n = some_is (sym (live v (inl refl)) ∙ (ap (nodes_of s) (some_is e) ∙ at)) in
    sym d.is ∙ ap (λ (z : Node). first_child (pointers z.content)) same

-- the uppermost pages
pub walk_first : (s : State) (root tree top : ℕ) (children : ℕ → Bool) (above : List View) (old new : Levels) → IsNewTree tree old → ((c : ℕ) → children c ≡ true → ⊥)
    → ReadsChain s children (level_at tree top) root above None [] old new → WalksTree s root tree top above old new
walk_first s root tree top children above old new is_new none read = record {
  chain = with_level (λ g. []) top (pids above);
  is = level_in {above = []} {new = new} nothing refl (λ v i. absurd i) (λ p n e at. none_some e) no_child read (λ v i. absurd i) (record { kept = λ q z e. e; adds = λ q z e. inl e });
  top = record { height = top; above = omega arith; begins = ap head (level_here (λ g. []) top (pids above)) ∙ chain_head (nodes_of s) (pids above) root read.run; none = level_above (λ g. []) top (pids above) (suc top) (omega arith) };
  here = level_here (λ g. []) top (pids above);
  live = λ v i. (read.each v i).live;
  adds = record { kept = read.kept; adds = λ q z e. elim (read.adds q z e) [ inl h ↦ inl h | inr m ↦ inr (ap (λ (y : Level). y.tree) m.1) ] };
}
  where
    no_child : (c : ℕ) → children c ≡ true → HasMergingChild [] c
    no_child c e = absurd (none c e)

    unseated : (p g : ℕ) → home_in tree old p ≡ Some g → ⊥
    unseated p g e = let low = is_new p (level_at tree g) (home_level tree old p g e) in omega (arith, low)

    nothing : IsTreeFrom (nodes_of s) (suc top) (λ g. []) (home_in tree old)
    nothing = record {
      homed = λ g p le i. absurd i;
      page = λ p g e. absurd (unseated p g e);
      run = λ g le. inl refl;
      pointer = λ g p n le i. absurd i;
      down = λ g p n le e. none_some e;
    }

-- one pages down
pub walk_down : (s : State) (root tree h : ℕ) (above pages : List View) (old mid new : Levels) → WalksTree s root tree (suc h) above old mid → FindsLevel s above (level_at tree h) pages mid new → WalksTree s root tree h pages old new
walk_down s root tree h above pages old mid new w f = record {
  chain = with_level w.chain h (pids pages);
  is = level_in w.is w.here w.live (λ p n e at. leads_down s above f.first p n f.down w.live e at) f.has f.chain f.lead f.received;
  top = still_top w.chain h (pids pages) root w.top;
  here = level_here w.chain h (pids pages);
  live = λ v i. (f.chain.each v i).live;
  adds = record {
    kept = λ q z e. f.received.kept q z (f.chain.kept q z (w.adds.kept q z e));
    adds = λ q z e. elim (f.received.adds q z e) [
      | inl m ↦ elim (f.chain.adds q z m) [ inl o ↦ w.adds.adds q z o | inr o ↦ inr (ap (λ (y : Level). y.tree) o.1) ]
      | inr m ↦ inr (ap (λ (y : Level). y.tree) m.0)
    ];
  };
}

pub walk_ends : (s : State) (root tree : ℕ) (above : List View) (old new : Levels) → WalksTree s root tree 0 above old new → FindsTree s root tree old new
walk_ends s root tree above old new w = record { chain = w.chain; is = w.is; top = w.top; adds = w.adds }

-- no tree at all
pub verify_first : (s : State) (levels : Levels) → ((p : ℕ) → level_of levels p ≡ None) → Verifies s [] 0 levels
verify_first s levels empty = record {
  forest = no_forest;
  formed = no_trees _ _ (λ t. refl);
  sized = no_sizes _;
  seen = λ p x e. none_some e;
  below = λ p z e. none_some (sym (empty p) ∙ e);
}

-- one tree more
pub verify_more : (s : State) (roots : List (Key × ℕ)) (i : ℕ) (e : Key × ℕ) (levels new : Levels) → i < length roots → is_sorted key_cmp roots ≡ true → e ≡ get_or roots i e
    → Verifies s (take i roots) i levels → FindsTree s e.1 i levels new → Verifies s (take (i + 1) roots) (i + 1) new
verify_more s roots i e levels new less sorted is v t = record {
  forest = planted v.formed v.sized none apart t.is t.top rooted;
  formed = formed v.formed v.sized none apart t.is t.top rooted;
  sized = sized v.formed v.sized none apart t.is t.top rooted;
  seen = λ p x h. elim (homes v.formed v.sized none apart t.is t.top rooted p x h) [
    | inl g ↦ (level_at i g.0, home_level i new p g.0 g.2)
    | inr old ↦ let z = v.seen p x old in (z.0, t.adds.kept p z.0 z.1)
  ];
  below = λ p z h. elim (t.adds.adds p z h) [
    | inl old ↦ let low = v.below p z old in omega (arith, low)
    | inr same ↦ omega (arith, same)
  ];
}
  where
    none : find key_cmp e.0 (take i roots) ≡ None
    none = absent roots i e less sorted is

    rooted : (u : Tree) → ((u ≡ e.0) × (find key_cmp u (take (i + 1) roots) ≡ Some e.1)) ⊎ ((u ≢ e.0) × (find key_cmp u (take (i + 1) roots) ≡ find key_cmp u (take i roots)))
    rooted u = one_root_more roots i e less sorted is u

    apart : (p g : ℕ) → home_in i new p ≡ Some g → v.forest.home p ≡ None
    apart p g h = go (v.forest.home p) refl
      where
        go : (o : Option Place) → v.forest.home p ≡ o → o ≡ None
        go None f = refl
        go (Some x) f =
            let z = v.seen p x f in
            let same : z.0 ≡ level_at i g = some_is (sym (t.adds.kept p z.0 z.1) ∙ home_level i new p g h) in
            let low = v.below p z.0 z.1 in
            let tree : z.0.tree ≡ i = ap (λ (y : Level). y.tree) same in
            absurd (omega (arith, low, tree))

-- all trees
pub verify_ends : (s : State) (roots : List (Key × ℕ)) (n : ℕ) (levels : Levels) → length roots ≤ n → ((u : Tree) → s.roots u ≡ find key_cmp u roots) → Verifies s (take n roots) n levels → IsValid s
verify_ends s roots n levels all is v = record {
  forest = v.forest;
  formed = subst (λ (names : Tree → Option ℕ). WellFormed (nodes_of s) names v.forest) (λ i u. (ap (find key_cmp u) (take_all roots n all) ∙ sym (is u)) i) v.formed;
  sized = v.sized;
}
  where
    take_all : (xs : List (Key × ℕ)) (n : ℕ) → length xs ≤ n → take n xs ≡ xs
    take_all [] zero l = refl
    take_all [] (suc n) l = refl
    take_all (x ∷ xs) zero l = absurd (omega (arith, l))
    take_all (x ∷ xs) (suc n) l = ap (λ r. x ∷ r) (take_all xs n (omega (arith, l)))

none_in : (children : BTreeSet ℕ) → children.keys ≡ [] → (c : ℕ) → contains nat_cmp children c ≡ true → ⊥
none_in children e c h = false_true (sym (ap (list_any (is_at (nat_cmp c))) e) ∙ h)

-- the same, as the code has it
pub walk_begins : (s : State) (root tree top : ℕ) (children : BTreeSet ℕ) (above : List View) (old new : Levels) → IsNewTree tree old → IsEmpty children
    → ReadsChain s (contains nat_cmp children) (level_at tree top) root above None [] old new → WalksTree s root tree top above old new
walk_begins s root tree top children above old new is_new empty read = walk_first s root tree top (contains nat_cmp children) above old new is_new (none_in children empty) read

pub walk_starts : (s : State) (root tree top : ℕ) (above : List View) (old new : Levels) → WalksTree s root tree top above old new → WalksTree s root tree (top - 0) above old new
walk_starts s root tree top above old new w =
    let same : top ≡ top - 0 = omega arith in
    subst (λ h. WalksTree s root tree h above old new) same w

pub walk_goes : (s : State) (root tree top passed : ℕ) (above slice : List View) (found now : Vec View Global) (old mid new : Levels) → passed < top → WalksTree s root tree (top - passed) above old mid → slice ≡ above
    → FindsLevel s slice (level_at tree (top - passed - 1)) found.items mid new → now ≡ found → WalksTree s root tree (top - (passed + 1)) now.items old new
walk_goes s root tree top passed above slice found now old mid new less w is f same =
    let down : top - passed ≡ suc (top - passed - 1) = omega (arith, less) in
    let next : top - passed - 1 ≡ top - (passed + 1) = omega (arith, less) in
    subst (λ (v : Vec View Global). WalksTree s root tree (top - (passed + 1)) v.items old new) (sym same)
    (subst (λ h. WalksTree s root tree h found.items old new) next
    (walk_down s root tree (top - passed - 1) above found.items old mid new (subst (λ h. WalksTree s root tree h above old mid) down w) (subst (λ vs. FindsLevel s vs (level_at tree (top - passed - 1)) found.items mid new) is f)))

pub verify_begins : (s : State) (levels : Levels) → levels.entries ≡ [] → Verifies s [] 0 levels
verify_begins s levels empty = verify_first s levels (λ p. ap (lookup (is_at (nat_cmp p))) empty)

pub verify_is : (s : State) (list roots : List (Key × ℕ)) (n : ℕ) (levels : Levels) → list ≡ roots → length list ≤ n → IsRoots s roots → Verifies s (take n list) n levels → IsValid s
verify_is s list roots n levels same all is v = verify_ends s list n levels all (λ u. is.is u ∙ ap (find key_cmp u) (sym same)) v

pub verify_next : (s : State) (roots : List (Key × ℕ)) (i : ℕ) (e : Key × ℕ) (levels new : Levels) → i < length roots → is_sorted key_cmp roots ≡ true → e ≡ get_or roots i e
    → Verifies s (take i roots) i levels → FindsTree s (get_or roots i e).1 i levels new → Verifies s (take (i + 1) roots) (i + 1) new
verify_next s roots i e levels new less sorted is v t = verify_more s roots i e levels new less sorted is v (subst (λ (z : Key × ℕ). FindsTree s z.1 i levels new) (sym is) t)
