-- A step of a call that sees pages as they are now: it reads one and goes on with fewer steps, or repairs one, and sees them so again.
use Rattle.std.proofs.Common.{◌≡◌, ◌≢◌, ℕ, zero, suc, ◌+◌, ◌*◌, ◌≤◌, ◌<◌, Bool, true, false, not, [], length, Option, Some, None, Result, Ok, Err, MatchOption, option_map, sym, refl, ap, ◌∙◌, subst, inl, inr, ◌⊎◌, arith, le_refl}
use Rattle.sled_nodes.proofs.Basics.{some_is, true_false, same_or_not}
use Rattle.sled_nodes.specs.Among.{is_up_to}
use Rattle.sled_nodes.specs.Halves.{right_half, after_receiving}
use Rattle.sled_nodes.specs.Node.{value_at, after_link, after_intention}
use Rattle.sled_nodes.specs.Order.{Key}
use Rattle.sled_nodes.specs.declared.error.Error.{Error}
use Rattle.sled_nodes.specs.declared.link.Link.{Link}
use Rattle.sled_nodes.specs.declared.link.Link.TheVariants.{Set, Del, ParentMergeIntention, ParentMergeConfirm, ChildMergeCap}
use Rattle.sled_nodes.specs.declared.node.Node.{Node}
use Rattle.sled_store.specs.In.{In}
use Rattle.sled_store.specs.State.{State, nodes_of, PageBecomes, RootBecomes, after}
use Rattle.sled_store.specs.Store.{Store, now, view_of, swaps_as, frees_as}
use Rattle.sled_store.specs.theory.Facts.{now_acted, now_acts, now_allocates, put_here, put_elsewhere}
use Rattle.sled_store.specs.declared.page.Page.{Page}
use Rattle.sled_store.specs.declared.page.View.{View}
use Rattle.sled_model.specs.Answer.{key_of}
use Rattle.sled_model.specs.Maps.{Merge as Operator}
use Rattle.sled_model.specs.State.{IsOnKey}
use Rattle.sled_model.specs.declared.decision.Effect.{Effect}
use Rattle.sled_model.specs.declared.decision.Effect.TheVariants as effect
use Rattle.tree_laws.specs.Forest.{Tree, Forest, Place, place}
use Rattle.tree_laws.specs.Paths.{tree_pages, pages_below}
use Rattle.tree_laws.specs.Snapshot.{Snapshot, snapshot_of, HasForest}
use Rattle.tree_laws.specs.Stages.{IsStage}
use Rattle.tree_laws.specs.declared.flight.Posting.{Posting}
use Rattle.tree_laws.specs.declared.flight.Posting.TheVariants as posting
use Rattle.tree_laws.specs.declared.flight.Reached.TheVariants as reached
use Rattle.tree_laws.specs.declared.flight.Stage.{Stage}
use Rattle.tree_laws.specs.declared.flight.Stage.TheVariants as stage
use Rattle.tree_laws.proofs.Flags.{index_at}
use Rattle.tree_laws.proofs.Known.{as_page, root_in}
use Rattle.tree_laws.proofs.Looking.{pages_law, ahead_at, ahead_few}
use Rattle.tree_laws.proofs.Order.{least}
use Rattle.tree_laws.proofs.Reading.{one_law}
use Rattle.tree_laws.proofs.Replace.{not_both}
use Rattle.sled_tree.proofs.Replying.{links_law}
use Rattle.sled_tree.specs.Change.{link_of, decision_at}
use Rattle.sled_tree.specs.Course.{Course, IsAimed}
use Rattle.sled_tree.specs.Follows.{FollowsPage, TakesWay, OrRefused, links_by, after_install_left, after_swap_root, read_again, sought_again, follows_as, follows_root, follows_post, follows_split}
use Rattle.sled_tree.specs.Passing.{IsUnchanged}
use Rattle.sled_tree.specs.Stages.{changes_at}
use Rattle.sled_tree.specs.declared.flight.Sequel.{Sequel}
use Rattle.sled_tree.specs.declared.flight.Sequel.TheVariants.{Go, Decided, Refused}
use Rattle.tree_progress.specs.Alone.{StayInTree}
use Rattle.tree_progress.specs.Laws.{Lowers}
use Rattle.tree_progress.specs.Steps.{HasHalves}
use Rattle.tree_progress.specs.ToDo.{to_do}
use Rattle.tree_progress.proofs.Arriving.{node_of, arrives}
use Rattle.tree_progress.proofs.Capping.{cap_lowers}
use Rattle.tree_progress.proofs.Changing.{level_low}
use Rattle.tree_progress.proofs.Counting.{pages_levels}
use Rattle.tree_progress.proofs.Confirming.{confirm_lowers}
use Rattle.tree_progress.proofs.Fresh.{IsComing, IsFresh, fresh_posting, toward}
use Rattle.tree_progress.proofs.Hoisting.{swap_lowers}
use Rattle.tree_progress.proofs.Intending.{intend_lowers}
use Rattle.tree_progress.proofs.Posting.{post_lowers}
use Rattle.tree_progress.proofs.Receiving.{receiving_lowers}
use Rattle.tree_progress.proofs.Seeking.{child_at, seeks_from, reads_child, reads_before}
use Rattle.tree_progress.proofs.Shapes.{shape_of}
use Rattle.tree_progress.proofs.Splitting.{install_lowers}
use Rattle.tree_progress.proofs.Staying.{stray_stays, stray_counts}
use Rattle.tree_progress.proofs.Stepping.{fresh_out}
use Rattle.tree_progress.proofs.Sums.{over}

-- the call ends
abbrev pub is_over : Sequel → Type 0
is_over (Go b) = ⊥
is_over (Decided reply) = Unit {0}
is_over (Refused e) = Unit {0}

-- it ends; or it read a page, or what no tree has came or went; or it repaired one
abbrev pub goes : Snapshot → Snapshot → Forest → Course → ℕ → Sequel → Type 0
goes m m' v j n next = is_over next
    ⊎ (((to_do m'.state j.tree.name ≡ to_do m.state j.tree.name) × (tree_pages m'.state j.tree.name ≡ tree_pages m.state j.tree.name) × toward m' v j n next)
    ⊎ ((to_do m'.state j.tree.name + 1 ≤ to_do m.state j.tree.name) × (tree_pages m'.state j.tree.name ≤ tree_pages m.state j.tree.name + 1) × toward m' v j (2 * tree_pages m'.state j.tree.name + 4) next))

-- a call on a key aims at or above the least key
pub aims_low : (j : Course) → IsOnKey j.call → IsAimed j → is_up_to j.aim [] ≡ true
aims_low j on_key aimed = ap (λ z. is_up_to z []) (aimed.key on_key) ∙ ap not (least (key_of j.call))

-- a change of a page that stands as it was read is made
made : {change : Node → Node} {pid version : ℕ} {old new : Store} {next : Sequel} {took : ℕ → Sequel} {late : Option ℕ → Sequel} (node : Node) → (now old).pages pid ≡ Some (record { version = version; node = node }) → TakesWay change pid version old new next took late
    → (given : ℕ) × (now new ≡ after (PageBecomes pid (Some (record { version = given; node = change node }))) (now old)) × (next ≡ took given)
made {change} {pid} {version} {old} {new} node here (inl k) =
    let same : k.1.is.0 ≡ node = ap (λ (z : Page). z.node) (some_is (sym k.1.is.1 ∙ here)) in
    (k.0, now_acts (PageBecomes pid (Some (record { version = k.0; node = change k.1.is.0 }))) k.0 old new k.1.is.2 ∙ ap (λ z. after (PageBecomes pid (Some (record { version = k.0; node = change z }))) (now old)) same, k.2)
made {version = version} node here (inr k) = absurd (k.1.is.2 (k.1.is.1 ∙ ap (option_map (λ (z : Page). z.version)) here))

-- the page that a stage reads is there
read_page : {s : Store} {pid : ℕ} {found : View → Sequel → Type 0} {next : Sequel} (g : Page) → (now s).pages pid ≡ Some g → FollowsPage s pid found next → found (record { pid = pid; version = g.version; node = g.node }) next ⊎ ((e : Error) × (next ≡ Refused e))
read_page {s} {pid} {found} {next} g here k = elim k.is [
  | inl a ↦ inl (subst (λ o. MatchOption (view_of pid o) (next ≡ Go stage.Root) (λ v. found v next)) here a.1)
  | inr b ↦ inr (b.0, b.1)
]

-- another page comes, goes or changes
elsewhere : (s new : State) (q : ℕ) (o : Option Page) (look : View) → new ≡ after (PageBecomes q o) s → look.pid ≢ q → IsUnchanged s look → IsUnchanged new look
elsewhere s new q o look e off k = ap (λ (z : State). z.pages look.pid) e ∙ put_elsewhere s.pages q look.pid o off ∙ k

over_rises : (f : ℕ → ℕ) (h n : ℕ) → h ≤ n → over f h ≤ over f n
over_rises f h zero l = let e : h ≡ 0 = omega arith in subst (λ z. over f z ≤ 0) (sym e) (le_refl 0)
over_rises f h (suc n) l = elim (same_or_not h (suc n)) [
  | inl e ↦ subst (λ z. over f z ≤ over f (suc n)) (sym e) (le_refl (over f (suc n)))
  | inr off ↦ more (over f h) (over f n) (f n) (over_rises f h n (omega arith))
]
  where
    more : (x y z : ℕ) → x ≤ y → x ≤ z + y
    more x y z l = omega arith

-- a tree has no fewer pages than its levels up to one that has a page
pub below_total : {m : Snapshot} {w : Forest} (is : HasForest m w) (t : Tree) (root : ℕ) → m.state.roots t ≡ Some root → (h p : ℕ) → In p (w.chain (place t h)) → pages_below w t (suc h) ≤ tree_pages m.state t
below_total {m} {w} is t root e h p i =
    let a = shape_of m.state w is.formed is.below t root e in
    sum _ _ _ (below_is (suc h)) (pages_levels m.state t (λ h. w.chain (place t h)) root a.0 e a.1) (over_rises (λ h. length (w.chain (place t h))) (suc h) (suc a.0) (low h a.0 (level_low is.formed t root a.0 a.1 h p i)))
  where
    below_is : (n : ℕ) → pages_below w t n ≡ over (λ h. length (w.chain (place t h))) n
    below_is zero = refl
    below_is (suc n) = ap (λ z. length (w.chain (place t n)) + z) (below_is n)

    low : (h k : ℕ) → h < suc k → suc h ≤ suc k
    low h k l = omega arith

    sum : (x y u : ℕ) {v : ℕ} → x ≡ u → y ≡ v → u ≤ v → x ≤ y
    sum x y u a b c = omega arith

module _ (j : Course) (old new : Store) (numbers : Tree → Option ℕ) (given : ℕ → Bool) (w v : Forest) (is : HasForest (snapshot_of old numbers given) w) (is_new : HasForest (snapshot_of new numbers given) v) (stays : StayInTree (nodes_of (now new)) w v)
    (number : ℕ) (named : numbers j.tree.name ≡ Some number) where
  abbrev t : Tree
  t = j.tree.name

  abbrev m : Snapshot
  m = snapshot_of old numbers given

  abbrev m' : Snapshot
  m' = snapshot_of new numbers given

  root : (r : ℕ) × ((now old).roots t ≡ Some r)
  root = is.rooted t number named

  root_new : (r : ℕ) × ((now new).roots t ≡ Some r)
  root_new = is_new.rooted t number named

  -- what was read changes nothing
  read : (n : ℕ) (next : Sequel) → new ≡ old → toward m w j n next → goes m m' v j n next
  read n next e k = inr (inl (ap (λ (s : Store). to_do (now s) t) e, ap (λ (s : Store). tree_pages (now s) t) e, go new (sym e) v is_new))
    where
      go : (s : Store) → old ≡ s → (v : Forest) → HasForest (snapshot_of s numbers given) v → toward (snapshot_of s numbers given) v j n next
      go s e = subst (λ (s : Store). (v : Forest) → HasForest (snapshot_of s numbers given) v → toward (snapshot_of s numbers given) v j n next) e (λ v f. subst (λ (z : Forest). toward m z j n next) (one_law (nodes_of (now old)) (now old).roots w v is.formed f.formed) k)

  read_or_refused : (n : ℕ) (next : Sequel) {found : Type 0} → new ≡ old → (found → toward m w j n next) → found ⊎ ((e : Error) × (next ≡ Refused e)) → goes m m' v j n next
  read_or_refused n next e on (inl k) = read n next e (on k)
  read_or_refused n next e on (inr k) = subst (λ z. goes m m' v j n z) (sym k.1) (inl tt)

  or_refused : (n : ℕ) (next : Sequel) {comes : Type 0} → (comes → goes m m' v j n next) → OrRefused old new next comes → goes m m' v j n next
  or_refused n next on (inl k) = on k
  or_refused n next on (inr k) = subst (λ z. goes m m' v j n z) (sym k.1) (inl tt)

  -- a page that no tree has comes or goes
  passes : (n q : ℕ) (o : Option Page) (next : Sequel) → now new ≡ after (PageBecomes q o) (now old) → ((x : Place) → ¬ (In q (w.chain x))) → toward m' v j n next → goes m m' v j n next
  passes n q o next e out k = inr (inl (
    ap (λ z. to_do z t) e ∙ stray_stays (now old) w is.formed is.below q o out t,
    ap (λ z. tree_pages z t) e ∙ stray_counts (now old) w is.formed is.below q o out t root.0 root.1,
    k,
  ))

  -- a page of the tree is repaired
  repairs : (n by : ℕ) (next : Sequel) (s : State) → now new ≡ s → 1 ≤ by → Lowers (now old) s t by → toward m' v j (2 * tree_pages (now new) t + 4) next → goes m m' v j n next
  repairs n by next s e one l k = inr (inr (less _ _ _ (ap (λ z. to_do z t) e) l.here, subst (λ z. tree_pages z t ≤ tree_pages (now old) t + 1) (sym e) l.pages, k))
    where
      less : (x y z : ℕ) → x ≡ z → z + by ≤ y → x + 1 ≤ y
      less x y z e l = omega arith

  -- the page of a view is one that was given before
  off_fresh : (q : ℕ) → old.pids q ≡ false → (look : View) → IsUnchanged (now old) look → look.pid ≢ q
  off_fresh q fresh look here e = true_false (sym (is.pids look.pid _ here) ∙ ap old.pids e ∙ fresh)

  posting_elsewhere : (q : ℕ) (o : Option Page) (p : ℕ) (at : Key) (posts : Posting) → now new ≡ after (PageBecomes q o) (now old) → ((look : View) → IsUnchanged (now old) look → look.pid ≢ q) → fresh_posting (now old) t p at posts → fresh_posting (now new) t p at posts
  posting_elsewhere q o p at (posting.Parent parent) e off k = (elsewhere (now old) (now new) q o parent e (off parent k.0) k.0, k.1, k.2)
  posting_elsewhere q o p at posting.Root e off k = ap (λ (s : State). s.roots t) e ∙ k
  posting_elsewhere q o p at posting.Nowhere e off k = tt

  -- an index stands where it stood
  stays_chained : (h p : ℕ) (d : Node) → In p (w.chain (place t h)) → nodes_of (now new) p ≡ Some d → d.merging ≡ false → In p (v.chain (place t h))
  stays_chained h p d i is calm =
      elim (stays (place t h) p i) [ inl a ↦ a | inr e ↦ not_both d.merging calm (subst (λ (z : Node). z.merging ≡ true) (some_is (sym e.1 ∙ is)) e.2) ]

  two : 2 ≤ 2
  two = omega arith

  under : (x : ℕ) → (2 * x + 2 < 2 * x + 4) × (2 * x + 3 < 2 * x + 4) × (1 < 2 * x + 4) × (2 < 2 * x + 4)
  under x = (omega arith, omega arith, omega arith, omega arith)

  -- the root is read
  at_root : (n : ℕ) (next : Sequel) → is_up_to j.aim [] ≡ true → 2 * tree_pages (now old) t + 2 ≤ n → new ≡ old → follows_root j old ((now old).roots t) next → goes m m' v j n next
  at_root n next low few e k =
      let b = pages_law (now old) w is.formed is.below t root.0 root.1 in
      let c = root_in is.formed t root.0 root.1 in
      let g = as_page m root.0 c.1 c.3 in
      let look : View = record { pid = root.0; version = g.0.version; node = g.0.node } in
      let a = ahead_at is.formed t b.0 root.0 b.1 in
      let coming : IsComing m w t j.aim n look.pid look.node reached.Root = record {
        height = b.0;
        here = record { chained = b.1; live = node_of m.state look g.1; awake = ap (λ (z : Node). z.merging) g.2 ∙ c.5 };
        begins = ap (is_up_to j.aim) (ap (λ (z : Node). z.lo) g.2 ∙ c.4) ∙ low;
        is_reached = root.1;
        ahead = a.0;
        is_ahead = a.1;
        few = less _ _ b.2 (ahead_few is.formed t b.0 root.0 a.0 a.1) few;
      } in
      read_or_refused n next e (arrives is j n look reached.Root g.1 coming next) (read_page g.0 g.1 (subst (λ o. follows_root j old o next) root.1 k))
    where
      less : (x y : ℕ) {z : ℕ} → y ≡ z → x ≤ z → 2 * y + 2 ≤ n → 2 * x + 2 ≤ n
      less x y e l u = omega arith

  -- a change of a leaf ends the call
  linked : (n : ℕ) (look : View) (next : Sequel) → IsUnchanged (now old) look → changes_at j (stage.Act look) → (operator : Option Operator) → links_by operator j old new look next → goes m m' v j n next
  linked n look next here none operator k = go (decision_at operator j.call look.node.content).effect refl (key_of j.call) k
    where
      over : (link : Link) → TakesWay (after_link link) look.pid look.version old new next (λ _. Decided (decision_at operator j.call look.node.content).reply) (λ _. Go stage.Root) → goes m m' v j n next
      over link y = subst (λ z. goes m m' v j n z) (sym (made look.node here y).2) (inl tt)

      go : (e : Effect) → (decision_at operator j.call look.node.content).effect ≡ e → (key : Key) → MatchOption (link_of e key) ((new ≡ old) × (next ≡ Go stage.Root)) (λ link. TakesWay (after_link link) look.pid look.version old new next (λ _. Decided (decision_at operator j.call look.node.content).reply) (λ _. Go stage.Root)) → goes m m' v j n next
      go effect.Nothing e key y = absurd (links_law operator j.call (value_at look.node.content (key_of j.call)) none e)
      go (effect.Set value) e key y = over (Set key value) y
      go effect.Remove e key y = over (Del key) y

  pub lands : (n : ℕ) (a : Stage) (next : Sequel) → (a ≡ stage.Root → is_up_to j.aim [] ≡ true) → IsStage m w t number j.aim a → changes_at j a → HasHalves (nodes_of (now old)) a → IsFresh m w j n a → follows_as j old a next new → goes m m' v j n next
  lands n stage.Root next low k c h f x = at_root n next (low refl) f x.0 x.1
  lands n (stage.Walk a) next low k c h f x =
      let g = as_page m a.cursor f.0 f.1.here.live in
      read_or_refused n next x.0 (arrives is j n (record { pid = a.cursor; version = g.0.version; node = g.0.node }) a.reached g.1 (subst (λ (z : Node). IsComing m w t j.aim n a.cursor z a.reached) (sym g.2) f.1) next) (read_page g.0 g.1 x.1)
  lands n (stage.Act look) next low k c h f x = or_refused n next (λ y. linked n look next f c y.operator y.is) x
  lands n (stage.Give a) next low k c h f x = absurd x
  lands n (stage.Split a) next low k c h f x = or_refused n next go x
    where
      go : follows_split old new a next → goes m m' v j n next
      go (inr y) = absurd (y.0 (f.2, (f.3.not_merging, f.3.free)))
      go (inl y) =
          let q : ℕ = y.1.right in
          let e = now_allocates _ q y.1.version old new y.1.made in
          let off = off_fresh q y.1.made.fresh_pid in
          passes n q _ next e (fresh_out is q y.1.made.fresh_pid)
          (subst (λ z. toward m' v j n z) (sym y.1.is) (1, f.0, (elsewhere (now old) (now new) q _ a.page e (off a.page f.1) f.1, posting_elsewhere q _ a.page.pid (right_half a.page.node).lo a.posting e off f.4)))
  lands n (stage.InstallLeft a) next low k c h f x = or_refused n next go x
    where
      go : TakesWay (λ _. a.left) a.page.pid a.page.version old new next (λ _. after_install_left a a.posting) (λ _. Go (stage.Free (record { pid = a.right; version = a.version }))) → goes m m' v j n next
      go y =
          let d = made a.page.node f.0 y in
          repairs n 3 next _ d.1 (omega arith) (install_lowers m w t number a a.page.node d.0 is named k f.0 h.0 h.1 h.2) (subst (λ z. toward m' v j (2 * tree_pages (now new) t + 4) z) (sym d.2) (on d.0 d.1 a.posting f.1))
        where
          on : (given : ℕ) → now new ≡ after (PageBecomes a.page.pid (Some (record { version = given; node = a.left }))) (now old) → (posts : Posting) → fresh_posting (now old) t a.page.pid a.at posts → toward m' v j (2 * tree_pages (now new) t + 4) (after_install_left a posts)
          on given e (posting.Parent parent) p = (1, (under _).2, (elsewhere (now old) (now new) a.page.pid _ parent e p.1 p.0, p.2))
          on given e posting.Root p = (2, (under _).3, (two, ap (λ (s : State). s.roots t) e ∙ p))
          on given e posting.Nowhere p = (2 * tree_pages (now new) t + 2, (under _).0, le_refl _)
  lands n (stage.Post a) next low k c h f x = or_refused n next go x
    where
      go : follows_post old new a next → goes m m' v j n next
      go (inr y) = absurd (y.0 f.1)
      go (inl y) =
          let d = made a.parent.node f.0 y.1 in
          repairs n 3 next _ d.1 (omega arith) (post_lowers m w t number a a.parent.node d.0 is named k f.0 y.0) (subst (λ z. toward m' v j (2 * tree_pages (now new) t + 4) z) (sym d.2) (2 * tree_pages (now new) t + 2, (under _).0, le_refl _))
  lands n (stage.Hoist a) next low k c h f x = or_refused n next (λ y. passes n y.root _ next (now_allocates y.node y.root y.version old new y.made) (fresh_out is y.root y.made.fresh_pid)
      (subst (λ z. toward m' v j n z) (sym y.is) (1, f.0, ap (λ (s : State). s.roots t) (now_allocates y.node y.root y.version old new y.made) ∙ f.1))) x
  lands n (stage.SwapRoot a) next low k c h f x = or_refused n next (λ y. go y.answer y.swaps.is y.is) x
    where
      go : (answer : Result (Unit {0}) (Option ℕ)) → swaps_as t (Some a.old) (Some a.new) old new answer → next ≡ after_swap_root a answer → goes m m' v j n next
      go (Err present) y e = absurd (y.2 (y.1 ∙ f))
      go (Ok done) y e = repairs n 4 next _ (ap now y.1 ∙ now_acted (RootBecomes t (Some a.new)) old) (omega arith) (swap_lowers m w t number a is named f k) (subst (λ z. toward m' v j (2 * tree_pages (now new) t + 4) z) (sym e) (2 * tree_pages (now new) t + 2, (under _).0, le_refl _))
  lands n (stage.Free a) next low k c h f x = or_refused n next (λ y. go y.answer y.frees.is y.is) x
    where
      out : (z : Place) → ¬ (In a.pid (w.chain z))
      out z i = k.own.stray z (is.formed.homed z a.pid i)

      less : (x y : ℕ) → y ≡ x → 2 * x + 3 ≤ n → 2 * y + 2 < n
      less x y e l = omega arith

      go : (answer : Result (Unit {0}) (Option ℕ)) → frees_as a.pid a.version old new answer → next ≡ Go stage.Root → goes m m' v j n next
      go (Err present) y e = read n next y.0 (subst (λ z. toward m w j n z) (sym e) (2 * tree_pages (now old) t + 2, less _ _ refl f, le_refl _))
      go (Ok done) y e =
          let s = ap now y.1 ∙ now_acted (PageBecomes a.pid None) old in
          passes n a.pid None next s out (subst (λ z. toward m' v j n z) (sym e) (2 * tree_pages (now new) t + 2, less _ _ (ap (λ z. tree_pages z t) s ∙ stray_counts (now old) w is.formed is.below a.pid None out t root.0 root.1) f, le_refl _))
  lands n (stage.Intend a) next low k c h f x = or_refused n next go x
    where
      go : TakesWay (after_link (ParentMergeIntention a.child)) a.parent.pid a.parent.version old new next
          (λ given. Go (stage.Child (record { parent = record { pid = a.parent.pid; version = given; node = record (a.parent.node) { merging_child = Some a.child } }; child = a.child; before = a.before }))) (λ _. Go stage.Root) → goes m m' v j n next
      go y =
          let d = made a.parent.node f.above.now y in
          let u = k.under named (record { page = record { version = a.parent.version; node = a.parent.node }; live = f.above.now; same = refl }) in
          let l = intend_lowers m w t number a a.parent.node u.node d.0 is named k f.above.now u.live in
          let es = index_at is.formed t f.height a.parent.pid a.parent.node f.above.chained (node_of m.state a.parent f.above.now) in
          let node_is : after_link (ParentMergeIntention a.child) a.parent.node ≡ record (a.parent.node) { merging_child = Some a.child } = ap (λ o. record (a.parent.node) { merging_child = o }) (ap (λ z. after_intention z a.child a.parent.node.merging_child) es.1) in
          let parent : View = record { pid = a.parent.pid; version = d.0; node = record (a.parent.node) { merging_child = Some a.child } } in
          let here : IsUnchanged (now new) parent = ap (λ (s : State). s.pages a.parent.pid) d.1 ∙ put_here (now old).pages a.parent.pid _ ∙ ap (λ z. Some (record { version = d.0; node = z })) node_is in
          let chained = stays_chained (suc f.height) a.parent.pid parent.node f.above.chained (node_of (now new) parent here) k.above.seen.is_open.not_merging in
          repairs n 1 next _ d.1 (omega arith) (record { here = l.small (f.small u.node u.live); pages = l.pages; others = l.others })
          (subst (λ z. toward m' v j (2 * tree_pages (now new) t + 4) z) (sym d.2)
          (2 * pages_below v t (suc f.height) + 3, fits _ _ _ (below_total is_new t root_new.0 root_new.1 (suc f.height) a.parent.pid chained), record { height = f.height; merging = record { above = record { now = here; chained = chained }; child = refl; before = f.before }; few = le_refl _ }))
        where
          fits : (x l y : ℕ) → l + x ≤ y → 2 * x + 3 < 2 * y + 4
          fits x l y u = omega arith
  lands n (stage.Child a) next low k c h f x =
      let d = child_at is j f.height a f.merging in
      let g = as_page m a.child d.2.node d.2.live in
      read_or_refused n next x.0 (reads_child is j n a f (record { pid = a.child; version = g.0.version; node = g.0.node }) next refl g.1) (read_page g.0 g.1 x.1)
  lands n (stage.Cap a) next low k c h f x = or_refused n next go x
    where
      off : a.merge.parent.pid ≢ a.merge.child
      off e =
          let d = child_at is j f.height a.merge f.merging in
          next_up f.height (ap (λ (z : Place). z.height) (some_is (sym (is.formed.homed (place t (suc f.height)) a.merge.parent.pid f.merging.above.chained) ∙ ap w.home e ∙ d.2.homed)))
        where
          next_up : (h : ℕ) → suc h ≡ h → ⊥
          next_up h e = omega arith

      go : TakesWay (after_link ChildMergeCap) a.merge.child a.version old new next
          (λ given. Go (stage.Seek (record { merge = a.merge; version = given; node = record (a.node) { merging = true }; cursor = a.merge.before }))) (read_again a.merge) → goes m m' v j n next
      go y =
          let d = made a.node f.child y in
          let here : IsUnchanged (now new) a.merge.parent = elsewhere (now old) (now new) a.merge.child _ a.merge.parent d.1 off f.merging.above.now in
          let chained = stays_chained (suc f.height) a.merge.parent.pid a.merge.parent.node f.merging.above.chained (node_of (now new) a.merge.parent here) k.merging.merger.not_merging in
          let live : nodes_of (now new) a.merge.child ≡ Some (record (a.node) { merging = true }) = ap (λ (s : State). nodes_of s a.merge.child) d.1 ∙ ap (option_map (λ (z : Page). z.node)) (put_here (now old).pages a.merge.child _) in
          repairs n 1 next _ d.1 (omega arith) (cap_lowers m w t number a a.node d.0 is named k f.child)
          (subst (λ z. toward m' v j (2 * tree_pages (now new) t + 4) z) (sym d.2)
          (seeks_from is_new j f.height _ d.0 a.merge (record { above = record { now = here; chained = chained }; child = f.merging.child; before = f.merging.before }) (record (a.node) { merging = true }) live
          (fits _ _ _ (below_total is_new t root_new.0 root_new.1 (suc f.height) a.merge.parent.pid chained))))
        where
          fits : (x l y : ℕ) → l + x ≤ y → 2 * x + 2 < 2 * y + 4
          fits x l y u = omega arith
  lands n (stage.Seek a) next low k c h f x =
      let g = as_page m a.cursor f.0 f.1.here.live in
      read_or_refused n next x.0 (reads_before is j n a f.0 f.1 (record { pid = a.cursor; version = g.0.version; node = g.0.node }) next refl g.1) (read_page g.0 g.1 x.1)
  lands n (stage.Receive a) next low k c h f x = or_refused n next go x
    where
      go : TakesWay (λ _. after_receiving a.left.node a.node) a.left.pid a.left.version old new next (λ _. Go (stage.Confirm (record { parent = a.merge.parent; child = a.merge.child; version = a.version }))) (sought_again a) → goes m m' v j n next
      go y =
          let d = made a.left.node f.0 y in
          repairs n 1 next _ d.1 (omega arith) (receiving_lowers m w t number a a.left.node d.0 is named k f.0)
          (subst (λ z. toward m' v j (2 * tree_pages (now new) t + 4) z) (sym d.2) (1, (under _).2, elsewhere (now old) (now new) a.left.pid _ a.merge.parent d.1 (λ e. f.2 (sym e)) f.1))
  lands n (stage.Confirm a) next low k c h f x = or_refused n next go x
    where
      go : TakesWay (after_link ParentMergeConfirm) a.parent.pid a.parent.version old new next (λ _. Go (stage.Free (record { pid = a.child; version = a.version }))) (λ _. Go stage.Root) → goes m m' v j n next
      go y =
          let d = made a.parent.node f y in
          repairs n 1 next _ d.1 (omega arith) (confirm_lowers m w t number a a.parent.node d.0 is named k f)
          (subst (λ z. toward m' v j (2 * tree_pages (now new) t + 4) z) (sym d.2) (2 * tree_pages (now new) t + 3, (under _).1, le_refl _))
