-- A state of one tree is well formed where each page of its levels, and each received page, is as it should be.
use Rattle.std.proofs.Common.{◌≡◌, ◌≢◌, ℕ, zero, suc, ◌≤◌, Bool, true, false, cond, nat_eq, List, [], ◌∷◌, Option, Some, None, MatchOption, option_map, sym, refl, ap, ◌∙◌, subst, inl, inr, ◌⊎◌, arith}
use Rattle.std.specs.List.{AllByRecursion}
use Rattle.std.specs.Str.{bytes_eq}
use Rattle.std.specs.Bool.{Decides}
use Rattle.std.proofs.lemmas.Slice.Eq.{bytes_eq-Decides}
use Rattle.std.proofs.lemmas.Bool.Decides.{nat_tests}
use Rattle.sled_nodes.proofs.Basics.{some_is, false_true, none_some}
use Rattle.sled_store.specs.In.{In}
use Rattle.sled_nodes.specs.Node.{pointers, count}
use Rattle.sled_nodes.specs.Order.{Key}
use Rattle.sled_store.specs.State.{Nodes}
use Rattle.sled_nodes.specs.declared.node.Node.{Node}
use Rattle.tree_laws.specs.Forest.{Tree, Forest, Place, place, head, first_child, later, Run, IsHomed, IsPointer, WellFormed, IsSized}
use Rattle.tree_laws.proofs.Replace.{place_is, head_in}

-- the pages of the level h, where the levels are these, the leaves first
abbrev pub level : List (List ℕ) → ℕ → List ℕ
level [] h = []
level (ps ∷ levels) zero = ps
level (ps ∷ levels) (suc h) = level levels h

-- the height that the page p has by the list
abbrev pub height_of : List (ℕ × ℕ) → ℕ → Option ℕ
height_of [] p = None
height_of (e ∷ homes) p = cond (nat_eq e.0 p) (Some e.1) (height_of homes p)

-- the forest of one tree with these levels, and these heights of pages
abbrev pub forest_of : Tree → List (List ℕ) → List (ℕ × ℕ) → Forest
forest_of t levels homes = record { chain = λ x. cond (bytes_eq x.tree t) (level levels x.height) []; home = λ p. option_map (place t) (height_of homes p) }

-- each page of each level is so
abbrev pub Each : (ℕ → ℕ → Type 0) → List (List ℕ) → Type 0
Each P [] = Unit {0}
Each P (ps ∷ levels) = AllByRecursion (P 0) ps × Each (λ h. P (suc h)) levels

all_in : {A : Type 0} (P : A → Type 0) (xs : List A) (x : A) → AllByRecursion P xs → In x xs → P x
all_in P [] x ps i = absurd i
all_in P (y ∷ xs) x ps (inl e) = subst P (sym e) ps.0
all_in P (y ∷ xs) x ps (inr i) = all_in P xs x ps.1 i

each_in : (P : ℕ → ℕ → Type 0) (levels : List (List ℕ)) (h p : ℕ) → Each P levels → In p (level levels h) → P h p
each_in P [] h p e i = absurd i
each_in P (ps ∷ levels) zero p e i = all_in (P 0) ps p e.0 i
each_in P (ps ∷ levels) (suc h) p e i = each_in (λ h. P (suc h)) levels h p e.1 i

home_in : (t : Tree) (P : ℕ → ℕ → Type 0) (homes : List (ℕ × ℕ)) (p : ℕ) (x : Place) → AllByRecursion (λ e. P e.0 e.1) homes → option_map (place t) (height_of homes p) ≡ Some x → (h : ℕ) × (x ≡ place t h) × P p h
home_in t P [] p x a e = none_some e
home_in t P (d ∷ homes) p x a e = go (nat_eq d.0 p) refl e (home_in t P homes p x a.1)
  where
    same : nat_eq d.0 p ≡ true → d.0 ≡ p
    same h = grind (arith, nat_tests)

    go : (o : Bool) → nat_eq d.0 p ≡ o → option_map (place t) (cond o (Some d.1) (height_of homes p)) ≡ Some x → (option_map (place t) (height_of homes p) ≡ Some x → (h : ℕ) × (x ≡ place t h) × P p h) → (h : ℕ) × (x ≡ place t h) × P p h
    go true g e more = (d.1, sym (some_is e), subst (λ q. P q d.1) (same g) a.0)
    go false g e more = more e

-- what is asked of a page of the level h
pub record IsStanding (nodes : Nodes) (w : Forest) (t : Tree) (h p : ℕ) : Type 0 where
  pub node : Node
  pub live : nodes p ≡ Some node
  pub homed : w.home p ≡ Some (place t h)
  pub pointer : (g : ℕ) → h ≡ suc g → AllByRecursion (λ e. IsPointer nodes w node t g e.0 e.1) (pointers node.content)
  pub child : (c : ℕ) → node.merging_child ≡ Some c → (k : Key) × In (k, c) (later (pointers node.content))
  pub down : (g : ℕ) → h ≡ suc g → head (w.chain (place t h)) ≡ Some p → head (w.chain (place t g)) ≡ first_child (pointers node.content)
  pub small : (c : ℕ) (d : Node) → node.merging_child ≡ Some c → nodes c ≡ Some d → count d.content ≤ 17

-- what is asked of a page with a home
pub record IsAtHome (nodes : Nodes) (w : Forest) (t : Tree) (p h : ℕ) : Type 0 where
  pub node : Node
  pub is : IsHomed nodes w p (place t h) node
  pub fits : count node.content ≤ 33

pub record IsForest (nodes : Nodes) (roots : Tree → Option ℕ) (t : Tree) (r : ℕ) (levels : List (List ℕ)) (homes : List (ℕ × ℕ)) : Type 0 where
  pub standing : Each (IsStanding nodes (forest_of t levels homes) t) levels
  pub at_home : AllByRecursion (λ e. IsAtHome nodes (forest_of t levels homes) t e.0 e.1) homes
  pub runs : AllByRecursion (λ ps. Run nodes ps (head ps) [] None []) levels
  pub top : (h : ℕ) × (head (level levels h) ≡ Some r) × (level levels (suc h) ≡ [])
  pub rooted : (u : Tree) → ((u ≡ t) × (roots u ≡ Some r)) ⊎ ((u ≢ t) × (roots u ≡ None))

module _ {nodes : Nodes} {roots : Tree → Option ℕ} {t : Tree} {r : ℕ} {levels : List (List ℕ)} {homes : List (ℕ × ℕ)} (f : IsForest nodes roots t r levels homes) where
  abbrev w : Forest
  w = forest_of t levels homes

  chain_here : (h : ℕ) → w.chain (place t h) ≡ level levels h
  chain_here h = go (bytes_eq t t) (bytes_eq-Decides t t)
    where
      go : (o : Bool) → Decides o (t ≡ t) → cond o (level levels h) [] ≡ level levels h
      go true d = refl
      go false d = false_true (d.1 refl)

  chain_there : (x : Place) → x.tree ≢ t → w.chain x ≡ []
  chain_there x off = go (bytes_eq x.tree t) (bytes_eq-Decides x.tree t)
    where
      go : (o : Bool) → Decides o (x.tree ≡ t) → cond o (level levels x.height) [] ≡ []
      go true d = absurd (off (d.0 refl))
      go false d = refl

  same : (u : Tree) → (u ≡ t) ⊎ (u ≢ t)
  same u = elim (f.rooted u) [ inl e ↦ inl e.0 | inr e ↦ inr e.0 ]

  -- a page of a chain stands in a level of the tree
  stands_in : (x : Place) (p : ℕ) → In p (w.chain x) → (x ≡ place t x.height) × IsStanding nodes w t x.height p
  stands_in x p i = elim (same x.tree) [
    | inl e ↦
        let at : x ≡ place t x.height = place_is x (place t x.height) e refl in
        (at, each_in (IsStanding nodes w t) levels x.height p f.standing (subst (λ c. In p c) (ap w.chain at ∙ chain_here x.height) i))
    | inr off ↦ absurd (subst (λ c. In p c) (chain_there x off) i)
  ]

  run_of : (ls : List (List ℕ)) (h : ℕ) → AllByRecursion (λ ps. Run nodes ps (head ps) [] None []) ls → (level ls h ≡ []) ⊎ Run nodes (level ls h) (head (level ls h)) [] None []
  run_of [] h a = inl refl
  run_of (ps ∷ ls) zero a = inr a.0
  run_of (ps ∷ ls) (suc h) a = run_of ls h a.1

  tree_of : (u : Tree) (h p : ℕ) → In p (w.chain (place u h)) → u ≡ t
  tree_of u h p i = ap (λ (z : Place). z.tree) (stands_in (place u h) p i).0

  node_is : (h p : ℕ) (n : Node) (s : IsStanding nodes w t h p) → nodes p ≡ Some n → s.node ≡ n
  node_is h p n s live = some_is (sym s.live ∙ live)

  pub formed : WellFormed nodes roots w
  formed = record {
    homed = λ x p i. let s = stands_in x p i in s.1.homed ∙ ap Some (sym s.0);
    page = λ x p e. let a = home_in t (IsAtHome nodes w t) homes p x f.at_home e in (a.2.node, subst (λ z. IsHomed nodes w p z a.2.node) (sym a.1) a.2.is);
    run = λ x. elim (same x.tree) [
      | inl e ↦ subst (λ c. (c ≡ []) ⊎ Run nodes c (head c) [] None []) (sym (ap w.chain (place_is x (place t x.height) e refl) ∙ chain_here x.height)) (run_of levels x.height f.runs)
      | inr off ↦ inl (chain_there x off)
    ];
    pointer = λ u h p n i live k c j.
        let s = (stands_in (place u (suc h)) p i).1 in
        subst (λ z. IsPointer nodes w n z h k c) (sym (tree_of u (suc h) p i))
        (all_in (λ e. IsPointer nodes w n t h e.0 e.1) (pointers n.content) (k, c) (subst (λ (z : Node). AllByRecursion (λ e. IsPointer nodes w z t h e.0 e.1) (pointers z.content)) (node_is (suc h) p n s live) (s.pointer h refl)) j);
    child = λ x p n i live c e.
        let s = (stands_in x p i).1 in
        let is = node_is x.height p n s live in
        subst (λ (z : Node). (k : Key) × In (k, c) (later (pointers z.content))) is (s.child c (ap (λ (z : Node). z.merging_child) is ∙ e));
    down = λ u h p n e live.
        let i = head_in _ p e in
        let s = (stands_in (place u (suc h)) p i).1 in
        let at = tree_of u (suc h) p i in
        subst (λ z. head (w.chain (place z h)) ≡ first_child (pointers n.content)) (sym at)
        (s.down h refl (subst (λ z. head (w.chain (place z (suc h))) ≡ Some p) at e) ∙ ap (λ (z : Node). first_child (pointers z.content)) (node_is (suc h) p n s live));
    top = λ u. elim (f.rooted u) [
      | inl e ↦ subst (λ z. MatchOption z ((h : ℕ) → w.chain (place u h) ≡ []) (λ r. (h : ℕ) × (head (w.chain (place u h)) ≡ Some r) × (w.chain (place u (suc h)) ≡ []))) (sym e.1)
          (subst (λ z. (h : ℕ) × (head (w.chain (place z h)) ≡ Some r) × (w.chain (place z (suc h)) ≡ [])) (sym e.0) (f.top.0, ap head (chain_here f.top.0) ∙ f.top.1, chain_here (suc f.top.0) ∙ f.top.2))
      | inr e ↦ subst (λ z. MatchOption z ((h : ℕ) → w.chain (place u h) ≡ []) (λ r. (h : ℕ) × (head (w.chain (place u h)) ≡ Some r) × (w.chain (place u (suc h)) ≡ []))) (sym e.1) (λ h. chain_there (place u h) e.0)
    ];
  }

  pub sized : IsSized nodes w
  sized = record {
    fits = λ x p n e live.
        let a = home_in t (IsAtHome nodes w t) homes p x f.at_home e in
        subst (λ (z : Node). count z.content ≤ 33) (some_is (sym a.2.is.live ∙ live)) a.2.fits;
    child = λ x p c n d i live e at.
        let s = (stands_in x p i).1 in
        s.small c d (ap (λ (z : Node). z.merging_child) (node_is x.height p n s live) ∙ e) at;
  }
