-- What a call in flight knows of its stage survives the actions of others.
use Rattle.std.proofs.Common.{◌≡◌, ◌≢◌, ◌≤◌, ℕ, suc, Bool, true, false, List, [], ◌∷◌, ◌++◌, Option, Some, None, MatchOption, option_map, sym, refl, ap, ◌∙◌, subst, inl, inr, ◌⊎◌, le_trans}
use Rattle.std.proofs.lemmas.Bool.{false_from_ne_true}
use Rattle.std.specs.declared.ops.Bound.{Bound}
use Rattle.sled_nodes.proofs.Basics.{none_some, some_is}
use Rattle.sled_store.specs.In.{In}
use Rattle.sled_nodes.specs.Node.{Within, count}
use Rattle.sled_nodes.specs.Order.{Key}
use Rattle.sled_store.specs.State.{Nodes}
use Rattle.sled_nodes.specs.declared.node.Node.{Node}
use Rattle.sled_store.specs.declared.page.Page.{Page}
use Rattle.tree_laws.specs.Forest.{Tree, Forest, Place, place, head, WellFormed}
use Rattle.sled_store.specs.declared.page.View.{View}
use Rattle.tree_laws.specs.Snapshot.{Snapshot, HasForest, nodes_at, IsReadAs, StoodInChain, IsAtVersion}
use Rattle.tree_laws.specs.theory.Snapshot.{Guarantee, GrowsByReceiving}
use Rattle.tree_laws.specs.Stages.{IsParent, IsBelowParent, IsReached, IsWalking, IsPlace, IsSplitting, IsOwn, IsReplacing, IsUnder, IsPosting, IsHoisting, IsSwapping, IsFreeing, IsIntending, IsFrozen, IsChild, IsWanted, IsMerger, IsMerging, IsReadingChild, child_of, IsCapping, IsSeeking, IsReceiving, IsOut, IsConfirming}
use Rattle.tree_laws.specs.theory.StageLaws.{StageStays}
use Rattle.tree_laws.specs.declared.flight.Reached.{Reached}
use Rattle.tree_laws.specs.declared.flight.Reached.TheVariants as reached
use Rattle.tree_laws.specs.declared.flight.Walk.{Walk}
use Rattle.tree_laws.specs.declared.flight.Posting.{Posting}
use Rattle.tree_laws.specs.declared.flight.Posting.TheVariants as posting
use Rattle.tree_laws.specs.declared.flight.Split.{Split}
use Rattle.tree_laws.specs.declared.flight.InstallLeft.{InstallLeft}
use Rattle.tree_laws.specs.declared.flight.Post.{Post}
use Rattle.tree_laws.specs.declared.flight.Hoist.{Hoist}
use Rattle.tree_laws.specs.declared.flight.SwapRoot.{SwapRoot}
use Rattle.tree_laws.specs.declared.flight.Orphan.{Orphan}
use Rattle.tree_laws.specs.declared.flight.Merge.{Merge}
use Rattle.tree_laws.specs.declared.flight.Cap.{Cap}
use Rattle.tree_laws.specs.declared.flight.Seek.{Seek}
use Rattle.tree_laws.specs.declared.flight.Receive.{Receive}
use Rattle.tree_laws.specs.declared.flight.Confirm.{Confirm}
use Rattle.tree_laws.specs.declared.flight.Stage.TheVariants as stage
use Rattle.tree_laws.proofs.Replace.{not_both, head_in}
use Rattle.tree_laws.proofs.Cover.{one_cover, one_later, later_in, pointer_within, holds_at}
use Rattle.tree_laws.proofs.Receive.{followed}
use Rattle.tree_laws.proofs.Roots.{top_awake}
use Rattle.tree_laws.proofs.Stable.{view_law, stood_law, now_law, had_number, not_lost, is_number, no_page}
use Rattle.tree_laws.proofs.Known.{fresh_node, fresh_in, seen_kept, acting_kept}

-- who has q for its merging child covers where q begins
parent_covers : {nodes : Nodes} {roots : Tree → Option ℕ} {w : Forest} (f : WellFormed nodes roots w) (t : Tree) (h r q : ℕ) (d e : Node) → In r (w.chain (place t (suc h))) → nodes r ≡ Some d → d.merging_child ≡ Some q → nodes q ≡ Some e → Within d.lo d.hi e.lo
parent_covers f t h r q d e i live is there =
    let b = f.child (place t (suc h)) r d i live q is in
    let j = later_in d.content b.0 q b.1 in
    let a = f.pointer t h r d i live b.0 q j in
    subst (λ k. Within d.lo d.hi k) (sym a.key ∙ ap (λ (z : Node). z.lo) (some_is (sym a.live ∙ there)))
    (pointer_within h d.lo d.hi d.content (holds_at f (place t (suc h)) r d i live) b.0 q j)

module _ {mine : List ℕ} {lost : Option Tree} {old new : Snapshot} {w v : Forest} (is : HasForest old w) (g : Guarantee mine lost old w new v) where
  -- a page that has a version that was given had it before
  pub was_fresh : (look : View) → IsReadAs old look.pid look.version look.node → IsAtVersion new look → IsAtVersion old look
  was_fresh look view f = elim (g.fresh look.pid f.page f.live) [
    | inl was ↦ record { page = f.page; live = was; same = f.same }
    | inr unused ↦ not_both (old.versions f.page.version) unused (ap old.versions f.same ∙ view.given)
  ]

  fresh_was : (look : View) → IsReadAs old look.pid look.version look.node → IsAtVersion old look → nodes_at old look.pid ≡ Some look.node
  fresh_was look view f = ap (option_map (λ (z : Page). z.node)) f.live ∙ ap Some (view.speaks f.page f.live f.same)

  pub own_kept : (pid version : ℕ) (n : Node) → ¬ (In pid mine) → IsOwn old w pid version n → IsOwn new v pid version n
  own_kept pid version n off k = record { live = g.own pid k.stray off ∙ k.live; stray = (g.keeps.stray pid k.stray off).1 }

  pub parent_kept : (t : Tree) (number h : ℕ) (look : View) → IsParent old w t number h look → IsParent new v t number h look
  parent_kept t number h look k = record { seen = seen_kept g (place t (suc h)) number look k.seen; es = k.es; content = k.content }

  stood_kept : (x : Place) (number : ℕ) (lo : Key) (p : ℕ) → StoodInChain old w x number lo p → StoodInChain new v x number lo p
  stood_kept = stood_law mine lost old new w v g

  view_kept : (look : View) → IsReadAs old look.pid look.version look.node → IsReadAs new look.pid look.version look.node
  view_kept look = view_law mine lost old new w v g look.pid look.version look.node

  -- while an open index keeps its version, a page under it stays in the chain, and does not begin to merge
  pub under_kept : (t : Tree) (number h : ℕ) (parent : View) (at : Key) (q : ℕ) → IsParent old w t number h parent
      → (old.numbers t ≡ Some number → IsAtVersion old parent → IsUnder old w (place t h) parent at q) → new.numbers t ≡ Some number → IsAtVersion new parent → IsUnder new v (place t h) parent at q
  under_kept t number h parent at q above under named f =
      let seen = above.seen in
      let before = had_number g t number seen.stood.tree named in
      let fresh = was_fresh parent seen.view f in
      let u = under before fresh in
      let p_in = fresh_in seen fresh before in
      let p_is = fresh_node seen fresh in
      let m = g.keeps.stood (place t h) q u.node (not_lost g t number named) u.chained u.live in
      let up : m.0.merging ≡ true → ⊥ = λ y.
      let r = g.keeps.wakes (place t h) q u.node m.0 u.chained u.live u.not_merging m.1 y in
      let same : parent.pid ≡ r.0 = one_cover is.formed (place t (suc h)) parent.pid r.0 parent.node r.1 at p_in r.2 p_is r.3 u.covers
      (subst (λ z. Within r.1.lo r.1.hi z) u.lo (parent_covers is.formed t h r.0 q r.1 u.node r.2 r.3 r.4 u.live)) in
      let n_is : r.1 ≡ parent.node = some_is (sym r.3 ∙ ap (nodes_at old) (sym same) ∙ p_is) in
      none_some (sym (subst (λ (z : Node). z.merging_child ≡ None) (sym n_is) seen.is_open.free) ∙ r.4) in
      record { covers = u.covers; node = m.0; chained = elim m.3 [ inl i ↦ i | inr y ↦ absurd (up y) ]; live = m.1; lo = m.2 ∙ u.lo; not_merging = false_from_ne_true m.0.merging up }

  below_kept : (t : Tree) (number h : ℕ) (aim : Bound Key) (parent : View) (lo : Key) → IsBelowParent old w t number h aim parent lo → IsBelowParent new v t number h aim parent lo
  below_kept t number h aim parent lo k = record { above = parent_kept t number h parent k.above; under = k.under; within = k.within; fits = k.fits }

  reached_kept : (t : Tree) (number h : ℕ) (aim : Bound Key) (by : Reached) (lo : Key) (p : ℕ) → IsReached old w t number h aim by lo p → IsReached new v t number h aim by lo p
  reached_kept t number h aim reached.Root lo p k = k
  reached_kept t number h aim (reached.FirstPointer parent) lo p k = below_kept t number h aim parent lo k
  reached_kept t number h aim (reached.LaterPointer parent) lo p k = (below_kept t number h aim parent lo k.0, k.1)
  reached_kept t number h aim (reached.Next parent) lo p k = (below_kept t number h aim parent lo k.0, k.1)

  pub walking_kept : (t : Tree) (number : ℕ) (aim : Bound Key) (a : Walk) → IsWalking old w t number aim a → IsWalking new v t number aim a
  walking_kept t number aim a k = record {
    height = k.height;
    lo = k.lo;
    stood = stood_kept (place t k.height) number k.lo a.cursor k.stood;
    is_reached = reached_kept t number k.height aim a.reached k.lo a.cursor k.is_reached;
  }

  pub place_kept : (t : Tree) (number h : ℕ) (page : View) (posting : Posting) → IsPlace old w t number h page posting → IsPlace new v t number h page posting
  place_kept t number h page (posting.Parent parent) k = (parent_kept t number h parent k.0, k.1, k.2)
  place_kept t number h page posting.Root k = k
  place_kept t number h page posting.Nowhere k = k

  pub splitting_kept : (t : Tree) (number : ℕ) (a : Split) → IsSplitting old w t number a → IsSplitting new v t number a
  splitting_kept t number a k = record { height = k.height; seen = seen_kept g (place t k.height) number a.page k.seen; posted = place_kept t number k.height a.page a.posting k.posted }

  pub replacing_kept : (t : Tree) (number : ℕ) (a : InstallLeft) → ¬ (In a.right mine) → IsReplacing old w t number a → IsReplacing new v t number a
  replacing_kept t number a off k = record {
    height = k.height;
    seen = seen_kept g (place t k.height) number a.page k.seen;
    posted = place_kept t number k.height a.page a.posting k.posted;
    right = k.right;
    own = own_kept a.right a.version k.right off k.own;
    split = k.split;
    begins = k.begins;
  }

  pub posting_kept : (t : Tree) (number : ℕ) (a : Post) → IsPosting old w t number a → IsPosting new v t number a
  posting_kept t number a k = record {
    height = k.height;
    above = parent_kept t number k.height a.parent k.above;
    fits = k.fits;
    beyond = k.beyond;
    under = under_kept t number k.height a.parent a.at a.pid k.above k.under;
  }

  pub hoisting_kept : (t : Tree) (number : ℕ) (a : Hoist) → IsHoisting old w t number a → IsHoisting new v t number a
  hoisting_kept t number a k = record {
    height = k.height;
    stood = stood_kept (place t k.height) number [] a.left k.stood;
    beyond = k.beyond;
    beside = λ named root.
        let before = had_number g t number k.stood.tree named in
        elim (g.rooted t a.left root) [
          | inl was ↦
              let f = is.formed in
              let top = subst (λ o. MatchOption o ((z : ℕ) → w.chain (place t z) ≡ []) (λ q. (z : ℕ) × (head (w.chain (place t z)) ≡ Some q) × (w.chain (place t (suc z)) ≡ []))) was (f.top t) in
              let home = f.homed (place t top.0) a.left (head_in _ a.left top.1) in
              let n = f.page (place t top.0) a.left home in
              let asleep : n.0.merging ≡ true → ⊥ = λ y. top_awake f t top.0 a.left n.0 top.2 home n.1.live y in
              let same : place t top.0 ≡ place t k.height = some_is (sym home ∙ f.homed (place t k.height) a.left (now_law old w (place t k.height) number [] a.left k.stood before n.0 n.1.live (false_from_ne_true n.0.merging asleep)).0) in
              let over : w.chain (place t (suc k.height)) ≡ [] = ap (λ (z : Place). w.chain (place t (suc z.height))) (sym same) ∙ top.2 in
              let b = k.beside before was in
              let m = g.keeps.stood (place t k.height) a.right b.0 (not_lost g t number named) b.1 b.2 in
              (m.0, elim m.3 [ inl i ↦ i | inr y ↦ absurd (wakes b m.0 m.1 y over) ], m.1, m.2 ∙ b.3)
          | inr fresh ↦ elim k.stood.now [
            | inl e ↦ absurd (e before)
            | inr o ↦ elim o [
              | inl e ↦ none_some (sym e ∙ fresh.1.1)
              | inr b ↦ elim b.3 [
                | inl i ↦ absurd (fresh.0 (place t k.height) (is.formed.homed (place t k.height) a.left i))
                | inr y ↦ not_both b.0.merging (subst (λ (z : Node). z.merging ≡ false) (some_is (sym fresh.1.1 ∙ b.1)) fresh.1.2) y
              ]
            ]
          ]
        ];
  }
    where
      wakes : (r : (d : Node) × In a.right (w.chain (place t k.height)) × (nodes_at old a.right ≡ Some d) × (d.lo ≡ a.at)) (m : Node) → nodes_at new a.right ≡ Some m → m.merging ≡ true → w.chain (place t (suc k.height)) ≡ [] → ⊥
      wakes r m live y over = go r.0.merging refl
        where
          go : (b : Bool) → r.0.merging ≡ b → ⊥
          go true e = top_awake is.formed t k.height a.right r.0 over (is.formed.homed (place t k.height) a.right r.1) r.2 e
          go false e = let q = g.keeps.wakes (place t k.height) a.right r.0 m r.1 r.2 e live y in subst (λ l. In q.0 l) over q.2

  pub swapping_kept : (t : Tree) (number : ℕ) (a : SwapRoot) → ¬ (In a.new mine) → IsSwapping old w t number a → IsSwapping new v t number a
  swapping_kept t number a off k = record { at = k.at; right = k.right; hoisting = hoisting_kept t number (record { left = a.old; at = k.at; right = k.right }) k.hoisting; root = k.root; over = k.over; own = own_kept a.new a.version k.root off k.own }

  pub freeing_kept : (a : Orphan) → ¬ (In a.pid mine) → IsFreeing old w a → IsFreeing new v a
  freeing_kept a off k = record { node = k.node; own = own_kept a.pid a.version k.node off k.own }

  -- the child of an intention takes in no page while the parent has its version: that page's parent would be this one
  small_kept : GrowsByReceiving (nodes_at old) (nodes_at new) w → (t : Tree) (number : ℕ) (a : Merge) → IsIntending old w t number a → new.numbers t ≡ Some number → IsAtVersion new a.parent → (m : Node) → nodes_at new a.child ≡ Some m → count m.content ≤ 17
  small_kept grows t number a k named f m live =
      let seen = k.above.seen in
      let before = had_number g t number seen.stood.tree named in
      let fresh = was_fresh a.parent seen.view f in
      let u = k.under before fresh in
      let p_in = fresh_in seen fresh before in
      let p_is = fresh_node seen fresh in
      let fits = k.small before fresh u.node u.live in
      elim (grows.grows (place t k.height) a.child u.node m u.chained u.live live) [
        | inl le ↦ le_trans le fits
        | inr e ↦ elim e [
          | inl le ↦ le
          | inr r ↦ absurd (not_received p_in p_is u.node u.chained u.live r.0 r.1 r.2 r.3 r.4)
        ]
      ]
    where
      not_received : In a.parent.pid (w.chain (place t (suc k.height))) → nodes_at old a.parent.pid ≡ Some a.parent.node → (d : Node) → In a.child (w.chain (place t k.height)) → nodes_at old a.child ≡ Some d → (e : ℕ) (b : Node) → d.next ≡ Some e → nodes_at old e ≡ Some b → b.merging ≡ true → ⊥
      not_received p_in p_is d c_in c_is e b next e_is capped =
          let f = is.formed in
          let h = k.height in
          let z = followed f (place t h) a.child e d c_in c_is next in
          let e_in : In e (w.chain (place t h)) = subst (λ l. In e l) (sym z.2) (at z.0 z.1) in
          let i = f.page (place t h) e (f.homed (place t h) e e_in) in
          let r = i.1.parent (subst (λ (z : Node). z.merging ≡ true) (some_is (sym e_is ∙ i.1.live)) capped) in
          let same = one_later f t h z.0 z.1 a.child e d b z.2 c_is e_is a.parent.pid r.0 a.parent.node r.1 k.key p_in r.2 p_is r.3 k.pointer r.4 in
          none_some (sym (subst (λ (y : Node). y.merging_child ≡ None) (some_is (sym p_is ∙ ap (nodes_at old) same ∙ r.3)) k.above.seen.is_open.free) ∙ r.4)
        where
          at : (xs ys : List ℕ) → In e (xs ++ (a.child ∷ (e ∷ ys)))
          at [] ys = inr (inl refl)
          at (x ∷ xs) ys = inr (at xs ys)

  pub intending_kept : GrowsByReceiving (nodes_at old) (nodes_at new) w → (t : Tree) (number : ℕ) (a : Merge) → IsIntending old w t number a → IsIntending new v t number a
  intending_kept grows t number a k = record {
    height = k.height;
    above = parent_kept t number k.height a.parent k.above;
    key = k.key;
    pointer = k.pointer;
    under = under_kept t number k.height a.parent k.key a.child k.above k.under;
    small = small_kept grows t number a k;
    before = k.before;
  }

  -- the facts of a merge

  gone_kept : (c : ℕ) → old.pids c ≡ true → nodes_at old c ≡ None → nodes_at new c ≡ None
  gone_kept c page e = ap (option_map (λ (z : Page). z.node)) (g.gone c page (no_page (old.state.pages c) e))

  pub frozen_kept : (c version : ℕ) (d : Node) → IsFrozen old c version d → IsFrozen new c version d
  frozen_kept c version d k = record {
    page = g.pids c k.page;
    capped = k.capped;
    now = elim k.now [
      | inl e ↦ inl (g.gone c k.page e)
      | inr live ↦ elim (g.frozen c _ live k.capped) [ inl e ↦ inr e | inr e ↦ inl e ]
    ];
  }

  pub out_kept : (x : Place) (c version : ℕ) (d : Node) → IsOut old w x c version d → IsOut new v x c version d
  out_kept x c version d k = record {
    frozen = frozen_kept c version d k.frozen;
    out = elim k.frozen.now [
      | inl e ↦ inl (ap (option_map (λ (z : Page). z.node)) (g.gone c k.frozen.page e))
      | inr live ↦ elim k.out [
        | inl e ↦ none_some (sym e ∙ ap (option_map (λ (z : Page). z.node)) live)
        | inr out ↦ inr (g.keeps.left x c d (ap (option_map (λ (z : Page). z.node)) live) k.frozen.capped out)
      ]
    ];
  }

  -- who has a merging child has it still, or the child is merging
  child_kept : (t : Tree) (h c : ℕ) → lost ≢ Some t → IsChild old w t h c → ((d : Node) × (nodes_at old c ≡ Some d) × (d.merging ≡ true)) ⊎ IsChild new v t h c
  child_kept t h c held k = elim (g.keeps.child (place t (suc h)) k.parent c k.node held k.chained k.live k.child) [
    | inl a ↦ inr (record { parent = k.parent; node = a.1.0; chained = a.0; live = a.1.1; child = a.1.2 })
    | inr a ↦ inl (a.0, a.1, a.2)
  ]

  merging_still : (c : ℕ) → ((d : Node) × (nodes_at old c ≡ Some d) × (d.merging ≡ true)) → (nodes_at new c ≡ None) ⊎ ((d : Node) × (nodes_at new c ≡ Some d) × (d.merging ≡ true))
  merging_still c a = elim (g.keeps.capped c a.0 a.1 a.2) [ inl e ↦ inr (a.0, e, a.2) | inr e ↦ inl e ]

  pub wanted_kept : (t : Tree) (number h c : ℕ) → IsWanted old w t number h c → IsWanted new v t number h c
  wanted_kept t number h c k = record {
    page = g.pids c k.page;
    tree = g.given number k.tree;
    now = elim (is_number (new.numbers t) number) [
      | inr e ↦ inl e
      | inl named ↦ inr (elim k.now [
        | inl e ↦ absurd (e (had_number g t number k.tree named))
        | inr a ↦ elim a [
          | inl e ↦ inl (gone_kept c k.page e)
          | inr b ↦ elim b [
            | inl d ↦ elim (merging_still c d) [ inl e ↦ inl e | inr e ↦ inr (inl e) ]
            | inr d ↦ elim (child_kept t h c (not_lost g t number named) d) [
              | inl e ↦ elim (merging_still c e) [ inl z ↦ inl z | inr z ↦ inr (inl z) ]
              | inr e ↦ inr (inr e)
            ]
          ]
        ]
      ])
    ];
  }

  pub merger_kept : (t : Tree) (number h c : ℕ) (look : View) → IsMerger old w t number h c look → IsMerger new v t number h c look
  merger_kept t number h c look k = record {
    view = view_kept look k.view;
    stood = stood_kept (place t (suc h)) number look.node.lo look.pid k.stood;
    not_merging = k.not_merging;
    child = k.child;
    es = k.es;
    content = k.content;
  }

  pub merging_kept : (t : Tree) (number height : ℕ) (a : Merge) → IsMerging old w t number height a → IsMerging new v t number height a
  merging_kept t number height a k = record {
    merger = merger_kept t number height a.child a.parent k.merger;
    wanted = wanted_kept t number height a.child k.wanted;
    lo = k.lo;
    low = k.low;
    c_stood = stood_kept (place t height) number k.lo a.child k.c_stood;
    left_stood = stood_kept (place t height) number k.low a.before k.left_stood;
    below = k.below;
  }

  pub reading_kept : (t : Tree) (number : ℕ) (a : Merge) → IsReadingChild old w t number a → IsReadingChild new v t number a
  reading_kept t number a k = record { height = k.height; merging = merging_kept t number k.height a k.merging }

  pub capping_kept : (t : Tree) (number : ℕ) (a : Cap) → IsCapping old w t number a → IsCapping new v t number a
  capping_kept t number a k = record {
    height = k.height;
    merging = merging_kept t number k.height a.merge k.merging;
    view = view_kept (child_of a) k.view;
    tree = g.given number k.tree;
    is_open = k.is_open;
    wanted = λ named f.
        let before = had_number g t number k.tree named in
        let fresh = was_fresh (child_of a) k.view f in
        elim (child_kept t k.height a.merge.child (not_lost g t number named) (k.wanted before fresh)) [
          | inl c ↦ not_both a.node.merging k.is_open.not_merging (subst (λ (z : Node). z.merging ≡ true) (some_is (sym c.1 ∙ fresh_was (child_of a) k.view fresh)) c.2)
          | inr c ↦ c
        ];
  }

  pub seeking_kept : (t : Tree) (number : ℕ) (a : Seek) → IsSeeking old w t number a → IsSeeking new v t number a
  seeking_kept t number a k = record {
    height = k.height;
    merging = merging_kept t number k.height a.merge k.merging;
    frozen = frozen_kept a.merge.child a.version a.node k.frozen;
    lo = k.lo;
    stood = stood_kept (place t k.height) number k.lo a.cursor k.stood;
    before = k.before;
  }

  pub receiving_kept : (t : Tree) (number : ℕ) (a : Receive) → IsReceiving old w t number a → IsReceiving new v t number a
  receiving_kept t number a k = record {
    height = k.height;
    merging = merging_kept t number k.height a.merge k.merging;
    seen = seen_kept g (place t k.height) number a.left k.seen;
    next = k.next;
    before = k.before;
    frozen = frozen_kept a.merge.child a.version a.node k.frozen;
    fits = k.fits;
  }

  pub confirming_kept : (t : Tree) (number : ℕ) (a : Confirm) → IsConfirming old w t number a → IsConfirming new v t number a
  confirming_kept t number a k = record {
    height = k.height;
    node = k.node;
    merger = merger_kept t number k.height a.child a.parent k.merger;
    received = out_kept (place t k.height) a.child a.version k.node k.received;
  }

pub stage_stays : StageStays
stage_stays mine lost old w new v o t number aim stage.Root off k = tt
stage_stays mine lost old w new v o t number aim (stage.Walk a) off k = walking_kept o.is o.goes t number aim a k
stage_stays mine lost old w new v o t number aim (stage.Act look) off k = (acting_kept o.goes t number aim look k.0, k.1)
stage_stays mine lost old w new v o t number aim (stage.Give a) off k = acting_kept o.goes t number aim a.leaf k
stage_stays mine lost old w new v o t number aim (stage.Split a) off k = splitting_kept o.is o.goes t number a k
stage_stays mine lost old w new v o t number aim (stage.InstallLeft a) off k = replacing_kept o.is o.goes t number a (off a.right (inl refl)) k
stage_stays mine lost old w new v o t number aim (stage.Post a) off k = posting_kept o.is o.goes t number a k
stage_stays mine lost old w new v o t number aim (stage.Hoist a) off k = hoisting_kept o.is o.goes t number a k
stage_stays mine lost old w new v o t number aim (stage.SwapRoot a) off k = swapping_kept o.is o.goes t number a (off a.new (inl refl)) k
stage_stays mine lost old w new v o t number aim (stage.Free a) off k = freeing_kept o.is o.goes a (off a.pid (inl refl)) k
stage_stays mine lost old w new v o t number aim (stage.Intend a) off k = intending_kept o.is o.goes o.grows t number a k
stage_stays mine lost old w new v o t number aim (stage.Child a) off k = reading_kept o.is o.goes t number a k
stage_stays mine lost old w new v o t number aim (stage.Cap a) off k = capping_kept o.is o.goes t number a k
stage_stays mine lost old w new v o t number aim (stage.Seek a) off k = seeking_kept o.is o.goes t number a k
stage_stays mine lost old w new v o t number aim (stage.Receive a) off k = receiving_kept o.is o.goes t number a k
stage_stays mine lost old w new v o t number aim (stage.Confirm a) off k = confirming_kept o.is o.goes t number a k
