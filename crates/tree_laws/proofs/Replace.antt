-- One page of a chain is replaced, with pages that come behind it and pages that go.
use Rattle.std.proofs.Common.{◌≡◌, ◌≢◌, ℕ, suc, Bool, true, false, List, [], ◌∷◌, ◌++◌, Option, Some, None, MatchOption, arith, sym, refl, ap, ◌∙◌, subst, inl, inr, ◌⊎◌, flat_map}
use Rattle.std.specs.Str.{bytes_eq}
use Rattle.std.specs.Bool.{Decides}
use Rattle.std.proofs.lemmas.Slice.Eq.{bytes_eq-Decides}
use Rattle.sled_store.specs.In.{In}
use Rattle.sled_nodes.specs.Node.{Within, pointers}
use Rattle.sled_nodes.specs.Order.{Key, Below}
use Rattle.sled_store.specs.State.{Nodes}
use Rattle.sled_nodes.specs.declared.node.Node.{Node}
use Rattle.tree_laws.specs.Forest.{Holds, first_child, later, IsNodeAt, Forest, Place, place, Run, IsHomed, IsPointer, WellFormed, contents, node_pairs, head, Tree}
use Rattle.tree_laws.specs.Snapshot.{IsInChain}
use Rattle.tree_laws.specs.theory.Snapshot.{KeepsNodes}
use Rattle.tree_laws.proofs.Order.{below_irrefl, below_upto-trans}
use Rattle.tree_laws.proofs.Pairs.{pairs_before, pairs_above, Leaves}
use Rattle.std.specs.List.{AllByRecursion}
use Rattle.std.proofs.lemmas.List.Concat.{flat_map-append}
use Rattle.sled_nodes.proofs.Basics.{some_is, same_or_not}
use Rattle.tree_laws.proofs.Runs.{In-left, In-right, In_cases, run_frame, run_parts, run_join, run_from, run_to, rises_on}

pub same_tree : (t u : Tree) → (t ≡ u) ⊎ (t ≢ u)
same_tree t u = decided (bytes_eq t u) (bytes_eq-Decides t u)
  where
    decided : (b : Bool) → Decides b (t ≡ u) → (t ≡ u) ⊎ (t ≢ u)
    decided true d = inl (d.0 refl)
    decided false d = inr (λ e. let h = d.1 e in cc)

pub place_is : (x y : Place) → x.tree ≡ y.tree → x.height ≡ y.height → x ≡ y
place_is x y a b = λ i. record { tree = a i; height = b i }

pub place_below : (t u : Tree) (h g : ℕ) → place t (suc h) ≡ place u (suc g) → place t h ≡ place u g
place_below t u h g e = place_is (place t h) (place u g) (ap (λ (z : Place). z.tree) e) (lower h g (ap (λ (z : Place). z.height) e))
  where
    lower : (h g : ℕ) → suc h ≡ suc g → h ≡ g
    lower h g e = omega arith

pub same_place : (x y : Place) → (x ≡ y) ⊎ (x ≢ y)
same_place x y =
    elim (same_tree x.tree y.tree) [
      | inl a ↦ elim (same_or_not x.height y.height) [ inl b ↦ inl (place_is x y a b) | inr b ↦ inr (λ e. b (ap (λ z. z.height) e)) ]
      | inr a ↦ inr (λ e. a (ap (λ z. z.tree) e))
    ]

-- a page that comes into the chain: it had no place
pub record IsAdded (nodes : Nodes) (w v : Forest) (x : Place) (q : ℕ) : Type 0 where
  pub node : Node
  pub live : nodes q ≡ Some node
  pub was : (y : Place) → w.home q ≢ Some y
  pub now : v.home q ≡ Some x
  pub sound : IsNodeAt x.height node
  pub merging : node.merging ≡ false
  pub child : node.merging_child ≡ None
  pub pointer : (t : Tree) (h : ℕ) → x ≡ place t (suc h) → (k : Key) (c : ℕ) → In (k, c) (pointers node.content) → IsPointer nodes w node t h k c

pub record Replaces (nodes new : Nodes) (w v : Forest) (x : Place) (p : ℕ) (n m : Node) (xs gone added ys : List ℕ) : Type 0 where
  pub before : w.chain x ≡ xs ++ (p ∷ (gone ++ ys))
  pub after : v.chain x ≡ xs ++ (p ∷ (added ++ ys))
  pub elsewhere : (y : Place) → y ≢ x → v.chain y ≡ w.chain y
  pub was : nodes p ≡ Some n
  pub now : new p ≡ Some m
  pub others : (q : ℕ) → q ≢ p → new q ≡ nodes q
  pub stays : (q : ℕ) (y : Place) → w.home q ≡ Some y → v.home q ≡ Some y
  pub comes : (q : ℕ) (y : Place) → v.home q ≡ Some y → (w.home q ≡ Some y) ⊎ (In q added × (y ≡ x))
  pub adds : (q : ℕ) → In q added → IsAdded nodes w v x q
  pub goes : (q : ℕ) → In q gone → (d : Node) × (nodes q ≡ Some d) × (d.merging ≡ true)
  pub run : (to : Option ℕ) (hi : Key) → Run nodes (p ∷ gone) (Some p) n.lo to hi → Run new (p ∷ added) (Some p) n.lo to hi
  pub lo : m.lo ≡ n.lo
  pub merging_was : n.merging ≡ false
  pub merging : m.merging ≡ false
  pub merging_child : m.merging_child ≡ n.merging_child
  pub sound : IsNodeAt x.height m
  pub first : first_child (pointers m.content) ≡ first_child (pointers n.content)
  pub child : (c : ℕ) → m.merging_child ≡ Some c → (k : Key) × In (k, c) (later (pointers m.content))
  pub pointer : (t : Tree) (h : ℕ) → x ≡ place t (suc h) → (k : Key) (c : ℕ) → In (k, c) (pointers m.content) → IsPointer nodes w m t h k c

pub not_both : {P : Type 0} (b : Bool) → b ≡ false → b ≡ true → P
not_both b e f = cc

head-append : (xs ys zs : List ℕ) (p : ℕ) → head (xs ++ (p ∷ ys)) ≡ head (xs ++ (p ∷ zs))
head-append [] ys zs p = refl
head-append (x ∷ xs) ys zs p = refl

not_empty : {P : Type 0} (xs ys : List ℕ) (p : ℕ) → xs ++ (p ∷ ys) ≡ [] → P
not_empty [] ys p e = cc
not_empty (x ∷ xs) ys p e = cc

pub head_in : (ps : List ℕ) (p : ℕ) → head ps ≡ Some p → In p ps
head_in [] p e = cc
head_in (q ∷ ps) p e = inl cc

-- a page behind the first of a run begins above it
pub behind_first : (nodes : Nodes) (p : ℕ) (ps : List ℕ) (from to : Option ℕ) (lo hi : Key) → Run nodes (p ∷ ps) from lo to hi → (q : ℕ) (d : Node) → In q ps → nodes q ≡ Some d → Below lo d.lo
behind_first nodes p ps from to lo hi r q d i live =
    subst (λ k. Below k d.lo) (sym r.1.lo_is) (below_upto-trans r.0.lo r.0.hi d.lo (rises_on nodes ps r.0 to hi q i r.1.rises r.2) (run_from nodes ps _ to _ hi r.2 q d i live))

abbrev pub pairs_of : Nodes → List ℕ → List (Key × Key)
pairs_of nodes ps = flat_map (λ p. node_pairs (nodes p)) ps

pub pairs_frame : (nodes new : Nodes) (ps : List ℕ) → ((q : ℕ) → In q ps → new q ≡ nodes q) → pairs_of new ps ≡ pairs_of nodes ps
pairs_frame nodes new [] h = refl
pairs_frame nodes new (p ∷ ps) h = let a = ap node_pairs (h p (inl refl)) in let b = pairs_frame nodes new ps (λ q i. h q (inr i)) in cc

pub pairs-three : (nodes : Nodes) (xs ms ys : List ℕ) → pairs_of nodes (xs ++ (ms ++ ys)) ≡ pairs_of nodes xs ++ (pairs_of nodes ms ++ pairs_of nodes ys)
pairs-three nodes xs ms ys = flat_map-append _ xs (ms ++ ys) ∙ ap (λ z. pairs_of nodes xs ++ z) (flat_map-append _ ms ys)

-- two chains that differ only behind p have the same pages elsewhere
in_other : (q : ℕ) (xs gone added ys : List ℕ) (p : ℕ) (c d : List ℕ) → c ≡ xs ++ (p ∷ (gone ++ ys)) → d ≡ xs ++ (p ∷ (added ++ ys)) → In q d → In q c ⊎ In q added
in_other q xs gone added ys p c d a b i =
    elim (In_cases xs _ q (subst (λ c. In q c) b i)) [
      | inl j ↦ inl (put (In-left xs _ q j))
      | inr j ↦ elim j [
        | inl e ↦ inl (put (In-right xs _ q (inl e)))
        | inr k ↦ elim (In_cases added ys q k) [ inl l ↦ inr l | inr l ↦ inl (put (In-right xs _ q (inr (In-right gone ys q l)))) ]
      ]
    ]
  where
    put : In q (xs ++ (p ∷ (gone ++ ys))) → In q c
    put = subst (λ c. In q c) (sym a)

module _ {nodes new : Nodes} {roots : Tree → Option ℕ} {w v : Forest} {x : Place} {p : ℕ} {n m : Node} {xs gone added ys : List ℕ} (r : Replaces nodes new w v x p n m xs gone added ys) (f : WellFormed nodes roots w) where
  p_in : In p (w.chain x)
  p_in = subst (λ c. In p c) (sym r.before) (In-right xs _ p (inl refl))

  p_in_new : In p (v.chain x)
  p_in_new = subst (λ c. In p c) (sym r.after) (In-right xs _ p (inl refl))

  pub p_home : w.home p ≡ Some x
  p_home = f.homed x p p_in

  in_new : (q : ℕ) → In q (v.chain x) → In q (w.chain x) ⊎ In q added
  in_new q = in_other q xs gone added ys p _ _ r.before r.after

  in_old : (q : ℕ) → In q (w.chain x) → In q (v.chain x) ⊎ In q gone
  in_old q = in_other q xs added gone ys p _ _ r.after r.before

  heads : (y : Place) → head (v.chain y) ≡ head (w.chain y)
  heads y = elim (same_place y x) [
    | inl e ↦ subst (λ z. head (v.chain z) ≡ head (w.chain z)) (sym e) (ap head r.after ∙ head-append xs _ _ p ∙ ap head (sym r.before))
    | inr e ↦ ap head (r.elsewhere y e)
  ]

  -- a page of a chain that is none of those added was in it
  pub chained_before : (y : Place) (q : ℕ) → In q (v.chain y) → In q (w.chain y) ⊎ (In q added × (y ≡ x))
  chained_before y q i = elim (same_place y x) [
    | inl e ↦ elim (in_new q (subst (λ z. In q (v.chain z)) e i)) [ inl a ↦ inl (subst (λ z. In q (w.chain z)) (sym e) a) | inr b ↦ inr (b, e) ]
    | inr e ↦ inl (subst (λ c. In q c) (r.elsewhere y e) i)
  ]

  chained_after : (y : Place) (q : ℕ) → In q (w.chain y) → In q (v.chain y) ⊎ In q gone
  chained_after y q i = elim (same_place y x) [
    | inl e ↦ elim (in_old q (subst (λ z. In q (w.chain z)) e i)) [ inl a ↦ inl (subst (λ z. In q (v.chain z)) (sym e) a) | inr b ↦ inr b ]
    | inr e ↦ inl (subst (λ c. In q c) (sym (r.elsewhere y e)) i)
  ]

  homed_on : (y : Place) (q : ℕ) → In q (v.chain y) → v.home q ≡ Some y
  homed_on y q i = elim (chained_before y q i) [
    | inl a ↦ r.stays q y (f.homed y q a)
    | inr b ↦ subst (λ z. v.home q ≡ Some z) (sym b.1) (r.adds q b.0).now
  ]

  -- who has q for its merging child still has it
  parent_on : (y : Place) (q c : ℕ) (d : Node) → In q (w.chain y) → nodes q ≡ Some d → d.merging_child ≡ Some c → In q (v.chain y) × ((e : Node) × (new q ≡ Some e) × (e.merging_child ≡ Some c))
  parent_on y q c d i live is =
      let calm : d.merging ≡ true → In q (v.chain y) = λ t. let h = f.page y q (f.homed y q i) in
      let same : h.0 ≡ d = some_is (sym h.1.live ∙ live) in
      let none : d.merging_child ≡ None = subst (λ (z : Node). z.merging_child ≡ None) same (h.1.calm (subst (λ (z : Node). z.merging ≡ true) (sym same) t)) in
      cc in (
        elim (chained_after y q i) [ inl a ↦ a | inr g ↦ let e = r.goes q g in calm (subst (λ (z : Node). z.merging ≡ true) (some_is (sym e.1 ∙ live)) e.2) ],
        elim (same_or_not q p) [
          | inl e ↦ (m, ap new e ∙ r.now, r.merging_child ∙ subst (λ (z : Node). z.merging_child ≡ Some c) (some_is (sym live ∙ ap nodes e ∙ r.was)) is)
          | inr e ↦ (d, r.others q e ∙ live, is)
        ],
      )

  page_on : (y : Place) (q : ℕ) → v.home q ≡ Some y → (d : Node) × IsHomed new v q y d
  page_on y q h = elim (r.comes q y h) [
    | inl a ↦ elim (same_or_not q p) [
      | inl e ↦
          let is : x ≡ y = some_is (sym p_home ∙ ap w.home (sym e) ∙ a) in (
            m,
            record {
              live = ap new e ∙ r.now;
              sound = subst (λ (z : Place). IsNodeAt z.height m) is r.sound;
              stands = inl (subst (λ z. In q (v.chain z)) is (subst (λ z. In z (v.chain x)) (sym e) p_in_new));
              calm = λ t. not_both _ r.merging t;
              parent = λ t. not_both _ r.merging t;
            },
          )
      | inr e ↦
          let i = f.page y q a in (
            i.0,
            record {
              live = r.others q e ∙ i.1.live;
              sound = i.1.sound;
              stands = elim i.1.stands [
                | inl j ↦ elim (chained_after y q j) [ inl k ↦ inl k | inr g ↦ let d = r.goes q g in inr (subst (λ (z : Node). z.merging ≡ true) (some_is (sym d.1 ∙ i.1.live)) d.2) ]
                | inr t ↦ inr t
              ];
              calm = i.1.calm;
              parent = λ t. let u = i.1.parent t in let o = parent_on _ u.0 q u.1 u.2 u.3 u.4 in (u.0, o.1.0, o.0, o.1.1, o.1.2);
            },
          )
    ]
    | inr b ↦
        let a = r.adds q b.0 in (
          a.node,
          record {
            live = r.others q (λ e. a.was x (ap w.home e ∙ p_home)) ∙ a.live;
            sound = subst (λ (z : Place). IsNodeAt z.height a.node) (sym b.1) a.sound;
            stands = inl (subst (λ z. In q (v.chain z)) (sym b.1) (subst (λ c. In q c) (sym r.after) (In-right xs _ q (inr (In-left added ys q b.0)))));
            calm = λ t. not_both _ a.merging t;
            parent = λ t. not_both _ a.merging t;
          },
        )
  ]

  -- the chain at x before the change, in its parts
  split_run : Run nodes xs (head (w.chain x)) [] (Some p) n.lo × Run nodes (p ∷ (gone ++ ys)) (Some p) n.lo None []
  split_run =
      let whole : Run nodes (xs ++ (p ∷ (gone ++ ys))) (head (w.chain x)) [] None [] =
      elim (f.run x) [ inl e ↦ not_empty xs _ p (sym r.before ∙ e) | inr a ↦ subst (λ c. Run nodes c (head (w.chain x)) [] None []) r.before a ] in
      let a = run_parts nodes xs _ _ _ _ _ whole in
      let l = a.3.1 in
      let from : a.0 ≡ Some p = l.here in
      let key : a.1 ≡ n.lo = l.lo_is ∙ ap (λ (z : Node). z.lo) (some_is (sym l.live ∙ r.was)) in (
        subst (λ g. Run nodes xs (head (w.chain x)) [] g n.lo) from (subst (λ k. Run nodes xs (head (w.chain x)) [] a.0 k) key a.2),
        subst (λ g. Run nodes (p ∷ (gone ++ ys)) g n.lo None []) from (subst (λ k. Run nodes (p ∷ (gone ++ ys)) a.0 k None []) key a.3),
      )

  off_early : (q : ℕ) → In q xs → q ≢ p
  off_early q i is = below_irrefl n.lo (run_to nodes xs _ p _ _ split_run.0 q n i (ap nodes is ∙ r.was))

  off_late : (q : ℕ) → In q ys → q ≢ p
  off_late q i is = below_irrefl n.lo (behind_first nodes p (gone ++ ys) _ _ _ _ split_run.1 q n (In-right gone ys q i) (ap nodes is ∙ r.was))

  run_here : Run new (v.chain x) (head (v.chain x)) [] None []
  run_here =
      let b = run_parts nodes (p ∷ gone) ys _ _ _ _ split_run.1 in
      let all : Run new (xs ++ (p ∷ (added ++ ys))) (head (w.chain x)) [] None [] =
      run_join new xs _ _ _ _ _ _ _ (run_frame nodes new xs _ _ _ _ (λ q i. r.others q (off_early q i)) split_run.0)
      (run_join new (p ∷ added) ys _ _ _ _ _ _ (r.run b.0 b.1 b.2) (run_frame nodes new ys _ _ _ _ (λ q i. r.others q (off_late q i)) b.3)) in
      subst (λ h. Run new (v.chain x) h [] None []) (sym (heads x)) (subst (λ c. Run new c (head (w.chain x)) [] None []) (sym r.after) all)

  pub off_place : (y : Place) → y ≢ x → (q : ℕ) → In q (w.chain y) → q ≢ p
  off_place y e q i is = e (some_is (sym (f.homed y q i) ∙ ap w.home is ∙ p_home))

  run_on : (y : Place) → (v.chain y ≡ []) ⊎ Run new (v.chain y) (head (v.chain y)) [] None []
  run_on y = elim (same_place y x) [
    | inl e ↦ subst (λ z. (v.chain z ≡ []) ⊎ Run new (v.chain z) (head (v.chain z)) [] None []) (sym e) (inr run_here)
    | inr e ↦ subst (λ c. (c ≡ []) ⊎ Run new c (head c) [] None []) (sym (r.elsewhere y e))
        (elim (f.run y) [
          | inl a ↦ inl a
          | inr a ↦ inr (run_frame nodes new (w.chain y) _ _ _ _ (λ q i. r.others q (off_place y e q i)) a)
        ])
  ]

  -- a pointer of any node reads the same
  pointed : (d : Node) (t : Tree) (h : ℕ) (k : Key) (c : ℕ) → IsPointer nodes w d t h k c → IsPointer new v d t h k c
  pointed d t h k c i = elim (same_or_not c p) [
    | inl e ↦
        let is : i.node ≡ n = some_is (sym i.live ∙ ap nodes e ∙ r.was) in
        record {
          node = m;
          live = ap new e ∙ r.now;
          homed = r.stays c _ i.homed;
          key = r.lo ∙ ap (λ (z : Node). z.lo) (sym is) ∙ i.key;
          merged = λ u. not_both _ r.merging u;
        }
    | inr e ↦ record { node = i.node; live = r.others c e ∙ i.live; homed = r.stays c _ i.homed; key = i.key; merged = i.merged }
  ]

  pointer_new : (t : Tree) (h q : ℕ) (d : Node) → In q (v.chain (place t (suc h))) → new q ≡ Some d → (k : Key) (c : ℕ) → In (k, c) (pointers d.content) → IsPointer new v d t h k c
  pointer_new t h q d i live k c j = elim (chained_before _ q i) [
    | inl a ↦ elim (same_or_not q p) [
      | inl e ↦
          let is : d ≡ m = some_is (sym live ∙ ap new e ∙ r.now) in
          let here : x ≡ place t (suc h) = some_is (sym p_home ∙ ap w.home (sym e) ∙ f.homed _ q a) in
          subst (λ (z : Node). IsPointer new v z t h k c) (sym is) (pointed m t h k c (r.pointer t h here k c (subst (λ (z : Node). In (k, c) (pointers z.content)) is j)))
      | inr e ↦
          let old : nodes q ≡ Some d = sym (r.others q e) ∙ live in
          pointed d t h k c (f.pointer t h q d a old k c j)
    ]
    | inr b ↦
        let a = r.adds q b.0 in
        let off : q ≢ p = λ e. a.was x (ap w.home e ∙ p_home) in
        let is : d ≡ a.node = some_is (sym live ∙ r.others q off ∙ a.live) in
        subst (λ (z : Node). IsPointer new v z t h k c) (sym is) (pointed a.node t h k c (a.pointer t h (sym b.1) k c (subst (λ (z : Node). In (k, c) (pointers z.content)) is j)))
  ]

  child_new : (y : Place) (q : ℕ) (d : Node) → In q (v.chain y) → new q ≡ Some d → (c : ℕ) → d.merging_child ≡ Some c → (k : Key) × In (k, c) (later (pointers d.content))
  child_new y q d i live c j = elim (chained_before y q i) [
    | inl a ↦ elim (same_or_not q p) [
      | inl e ↦
          let is : d ≡ m = some_is (sym live ∙ ap new e ∙ r.now) in
          subst (λ (z : Node). (k : Key) × In (k, c) (later (pointers z.content))) (sym is) (r.child c (subst (λ (z : Node). z.merging_child ≡ Some c) is j))
      | inr e ↦ f.child y q d a (sym (r.others q e) ∙ live) c j
    ]
    | inr b ↦
        let a = r.adds q b.0 in
        let off : q ≢ p = λ e. a.was x (ap w.home e ∙ p_home) in
        let is : d ≡ a.node = some_is (sym live ∙ r.others q off ∙ a.live) in
        let none : d.merging_child ≡ None = subst (λ (z : Node). z.merging_child ≡ None) (sym is) a.child in
        absurd (apart (sym none ∙ j))
  ]
    where
      apart : {c : ℕ} → None ≡ Some c → ⊥
      apart e = cc

  down_new : (t : Tree) (h q : ℕ) (d : Node) → head (v.chain (place t (suc h))) ≡ Some q → new q ≡ Some d → head (v.chain (place t h)) ≡ first_child (pointers d.content)
  down_new t h q d i live =
      let was : head (w.chain (place t (suc h))) ≡ Some q = sym (heads _) ∙ i in
      heads (place t h) ∙ elim (same_or_not q p) [
        | inl e ↦
            let is : d ≡ m = some_is (sym live ∙ ap new e ∙ r.now) in
            f.down t h q n was (ap nodes e ∙ r.was) ∙ sym r.first ∙ ap (λ (z : Node). first_child (pointers z.content)) (sym is)
        | inr e ↦ f.down t h q d was (sym (r.others q e) ∙ live)
      ]

  empty_on : (y : Place) → w.chain y ≡ [] → v.chain y ≡ []
  empty_on y e = elim (same_place y x) [
    | inl is ↦ not_empty xs _ p (sym r.before ∙ subst (λ z. w.chain z ≡ []) is e)
    | inr off ↦ r.elsewhere y off ∙ e
  ]

  top_new : (t : Tree) (o : Option ℕ) → MatchOption o ((h : ℕ) → w.chain (place t h) ≡ []) (λ g. (h : ℕ) × (head (w.chain (place t h)) ≡ Some g) × (w.chain (place t (suc h)) ≡ []))
      → MatchOption o ((h : ℕ) → v.chain (place t h) ≡ []) (λ g. (h : ℕ) × (head (v.chain (place t h)) ≡ Some g) × (v.chain (place t (suc h)) ≡ []))
  top_new t None u = λ h. empty_on _ (u h)
  top_new t (Some g) u = (u.0, heads _ ∙ u.1, empty_on _ u.2)

  pub replaced_kept : WellFormed new roots v
  replaced_kept = record {
    homed = homed_on;
    page = λ y q h. page_on y q h;
    run = run_on;
    pointer = pointer_new;
    child = child_new;
    down = down_new;
    top = λ t. top_new t (roots t) (f.top t);
  }

  pub pairs_else : (t : Tree) → place t 0 ≢ x → contents new v t ≡ contents nodes w t
  pairs_else t off = ap (pairs_of new) (r.elsewhere _ off) ∙ pairs_frame nodes new (w.chain (place t 0)) (λ q i. r.others q (off_place _ off q i))

  pub pairs_old : (t : Tree) → place t 0 ≡ x → contents nodes w t ≡ pairs_of nodes xs ++ (pairs_of nodes (p ∷ gone) ++ pairs_of nodes ys)
  pairs_old t is = ap (λ z. pairs_of nodes (w.chain z)) is ∙ ap (pairs_of nodes) r.before ∙ pairs-three nodes xs (p ∷ gone) ys

  pub pairs_new : (t : Tree) → place t 0 ≡ x → contents new v t ≡ pairs_of nodes xs ++ (pairs_of new (p ∷ added) ++ pairs_of nodes ys)
  pairs_new t is =
      let a = pairs_frame nodes new xs (λ q i. r.others q (off_early q i)) in
      let b = pairs_frame nodes new ys (λ q i. r.others q (off_late q i)) in
      ap (λ z. pairs_of new (v.chain z)) is ∙ ap (pairs_of new) r.after ∙ pairs-three new xs (p ∷ added) ys ∙ ap (λ z. z ++ (pairs_of new (p ∷ added) ++ pairs_of new ys)) a ∙ ap (λ z. pairs_of nodes xs ++ (pairs_of new (p ∷ added) ++ z)) b

  -- where the pages in the middle have the pairs that they had, no tree's pairs change
  pub pairs_kept : pairs_of new (p ∷ added) ≡ pairs_of nodes (p ∷ gone) → (t : Tree) → contents new v t ≡ contents nodes w t
  pairs_kept same t = elim (same_place (place t 0) x) [
    | inl is ↦ pairs_new t is ∙ ap (λ z. pairs_of nodes xs ++ (z ++ pairs_of nodes ys)) same ∙ sym (pairs_old t is)
    | inr off ↦ pairs_else t off
  ]

  leaves : (t : Tree) → place t 0 ≡ x → (qs : List ℕ) → ((q : ℕ) → In q qs → In q (w.chain x)) → Leaves nodes qs
  leaves t is qs there q d i live =
      let h = f.page (place t 0) q (f.homed (place t 0) q (subst (λ z. In q (w.chain z)) (sym is) (there q i))) in
      subst (λ (z : Node). Holds 0 z.lo z.hi z.content) (some_is (sym h.1.live ∙ live)) h.1.sound.holds

  pub pairs_low : (t : Tree) → place t 0 ≡ x → AllByRecursion (λ e. Below e.0 n.lo) (pairs_of nodes xs)
  pairs_low t is = pairs_before nodes xs _ p _ _ (leaves t is xs (λ q i. subst (λ c. In q c) (sym r.before) (In-left xs _ q i))) split_run.0

  pub pairs_high : (t : Tree) → place t 0 ≡ x → (k : Key) → Within n.lo n.hi k → AllByRecursion (λ e. Below k e.0) (pairs_of nodes (gone ++ ys))
  pairs_high t is k h =
      let l = split_run.1 in
      let node : l.0 ≡ n = some_is (sym l.1.live ∙ r.was) in
      pairs_above nodes l.0 (gone ++ ys) _ _ k (leaves t is (gone ++ ys) (λ q i. subst (λ c. In q c) (sym r.before) (In-right xs _ q (inr i)))) l.1.rises l.2
      (subst (λ (z : Node). Within z.lo z.hi k) (sym node) h)

  off_merging : (q : ℕ) (d : Node) → nodes q ≡ Some d → d.merging ≡ true → q ≢ p
  off_merging q d live t e = not_both d.merging (subst (λ (z : Node). z.merging ≡ false) (some_is (sym r.was ∙ ap nodes (sym e) ∙ live)) r.merging_was) t

  stood_on : (y : Place) (q : ℕ) (d : Node) → In q (w.chain y) → nodes q ≡ Some d → IsInChain new v y d.lo q
  stood_on y q d i live = elim (chained_after y q i) [
    | inl a ↦ elim (same_or_not q p) [
      | inl e ↦ (m, ap new e ∙ r.now, r.lo ∙ ap (λ (z : Node). z.lo) (some_is (sym r.was ∙ ap nodes (sym e) ∙ live)), inl a)
      | inr e ↦ (d, r.others q e ∙ live, refl, inl a)
    ]
    | inr g ↦
        let c = r.goes q g in
        let t : d.merging ≡ true = subst (λ (z : Node). z.merging ≡ true) (some_is (sym c.1 ∙ live)) c.2 in
        (d, r.others q (off_merging q d live t) ∙ live, refl, inr t)
  ]

  pub replaced_keeps : (mine : List ℕ) → ((q : ℕ) → In q added → In q mine) → KeepsNodes mine None nodes new w v
  replaced_keeps mine own = record {
    stood = λ y q d k i live. stood_on y q d i live;
    capped = λ q d live t. inl (r.others q (off_merging q d live t) ∙ live);
    stray = λ q s o. (
      r.others q (λ e. s x (ap w.home e ∙ p_home)),
      λ y h. elim (r.comes q y h) [ inl a ↦ s y a | inr b ↦ o (own q b.0) ],
    );
    left = λ y q d live t out i. elim (chained_before y q i) [
      | inl a ↦ out a
      | inr b ↦ let a = r.adds q b.0 in not_both a.node.merging a.merging (subst (λ (z : Node). z.merging ≡ true) (some_is (sym live ∙ a.live)) t)
    ];
    wakes = λ y q d e i was not_merging now t. elim (same_or_not q p) [
      | inl g ↦ not_both e.merging (subst (λ (z : Node). z.merging ≡ false) (some_is (sym r.now ∙ ap new (sym g) ∙ now)) r.merging) t
      | inr g ↦ not_both e.merging (subst (λ (z : Node). z.merging ≡ false) (some_is (sym was ∙ sym (r.others q g) ∙ now)) not_merging) t
    ];
    child = λ y q c d k i was is. let o = parent_on y q c d i was is in inl o;
  }
