-- A call whose views may be of pages as they were: with nobody beside it, it soon sees them as they are, or changes one.
use Rattle.std.proofs.Common.{◌≡◌, ℕ, suc, ◌+◌, ◌*◌, ◌≤◌, ◌<◌, Bool, true, false, List, Option, Some, None, Result, Ok, Err, MatchOption, option_map, sym, refl, ap, ◌∙◌, subst, inl, inr, ◌⊎◌, arith, le_refl}
use Rattle.sled_nodes.proofs.Basics.{some_is}
use Rattle.sled_nodes.specs.Node.{count, after_link}
use Rattle.sled_nodes.specs.Order.{Key}
use Rattle.sled_nodes.specs.declared.error.Error.{Error}
use Rattle.sled_nodes.specs.declared.link.Link.{Link}
use Rattle.sled_nodes.specs.declared.link.Link.TheVariants.{Set, Del, ParentMergeIntention}
use Rattle.sled_nodes.specs.declared.node.Node.{Node}
use Rattle.sled_store.specs.In.{In}
use Rattle.sled_store.specs.State.{State, nodes_of, PageBecomes, RootBecomes, after}
use Rattle.sled_store.specs.Store.{Store, now, view_of, swaps_as}
use Rattle.sled_store.specs.theory.Facts.{now_acted, now_acts, now_allocates}
use Rattle.sled_store.specs.declared.page.Page.{Page}
use Rattle.sled_store.specs.declared.page.View.{View}
use Rattle.sled_model.specs.Answer.{key_of}
use Rattle.sled_model.specs.Maps.{Merge as Operator}
use Rattle.sled_model.specs.declared.decision.Effect.{Effect}
use Rattle.sled_model.specs.declared.decision.Effect.TheVariants as effect
use Rattle.tree_laws.specs.Forest.{Tree, Forest, Place, place}
use Rattle.tree_laws.specs.Paths.{tree_pages, pages_below, IsAhead}
use Rattle.tree_laws.specs.Snapshot.{Snapshot, snapshot_of, nodes_at, HasForest, IsOpen, LiesUnder}
use Rattle.tree_laws.specs.Stages.{IsStage, IsWalking, IsReadingChild, IsSeeking, parent_of, child_of}
use Rattle.tree_laws.specs.declared.flight.Merge.{Merge}
use Rattle.tree_laws.specs.declared.flight.Posting.{Posting}
use Rattle.tree_laws.specs.declared.flight.Posting.TheVariants as posting
use Rattle.tree_laws.specs.declared.flight.Reached.{Reached}
use Rattle.tree_laws.specs.declared.flight.Reached.TheVariants as reached
use Rattle.tree_laws.specs.declared.flight.Seek.{Seek}
use Rattle.tree_laws.specs.declared.flight.Stage.{Stage}
use Rattle.tree_laws.specs.declared.flight.Stage.TheVariants as stage
use Rattle.tree_laws.specs.declared.flight.Walk.{Walk}
use Rattle.tree_laws.proofs.Looking.{next_in, ahead_at, ahead_few, ahead_next}
use Rattle.tree_laws.proofs.Reading.{one_law}
use Rattle.tree_laws.proofs.Stable.{now_law}
use Rattle.sled_tree.specs.Change.{link_of, decision_at}
use Rattle.sled_tree.specs.Course.{Course}
use Rattle.sled_tree.specs.Follows.{FollowsPage, TakesWay, OrRefused, begun, onward, searched, links_by, after_install_left, after_swap_root, read_again, sought_again, follows_as, follows_read, follows_not_merging, follows_open, follows_here, follows_content, follows_post, follows_split, follows_child, follows_child_not_merging, follows_cursor, follows_cursor_not_merging, follows_met}
use Rattle.sled_tree.specs.Passing.{IsUnchanged}
use Rattle.sled_tree.specs.declared.flight.Sequel.{Sequel}
use Rattle.sled_tree.specs.declared.flight.Sequel.TheVariants.{Go, Decided, Refused}
use Rattle.tree_progress.specs.Laws.{Lowers}
use Rattle.tree_progress.specs.Steps.{HasHalves}
use Rattle.tree_progress.specs.ToDo.{to_do}
use Rattle.tree_progress.proofs.Arriving.{node_of, fewer, resumes, content}
use Rattle.tree_progress.proofs.Capping.{cap_lowers}
use Rattle.tree_progress.proofs.Confirming.{confirm_lowers}
use Rattle.tree_progress.proofs.Fresh.{IsFresh, toward}
use Rattle.tree_progress.proofs.Hoisting.{swap_lowers}
use Rattle.tree_progress.proofs.Intending.{intend_lowers}
use Rattle.tree_progress.proofs.Landing.{is_over, below_total}
use Rattle.tree_progress.proofs.Posting.{post_lowers}
use Rattle.tree_progress.proofs.Receiving.{receiving_lowers}
use Rattle.tree_progress.proofs.Splitting.{install_lowers}
use Rattle.tree_progress.proofs.Staying.{stray_stays, stray_counts}
use Rattle.tree_progress.proofs.Stepping.{fresh_out}

-- how many steps a call has at most that is at the root, until it changes a page or ends
abbrev pub root_steps : Snapshot → Course → ℕ
root_steps m j = 2 * tree_pages m.state j.tree.name + 2

-- .. and one at any stage
abbrev pub most_steps : Snapshot → Course → ℕ
most_steps m j = root_steps m j + 2 * tree_pages m.state j.tree.name + 6

-- the pages ahead of a cursor, wherever it stands
abbrev pub is_near : Snapshot → Forest → Course → ℕ → ℕ → Type 0
is_near m w j n p = (h : ℕ) → In p (w.chain (place j.tree.name h)) → (x : ℕ) × IsAhead w j.tree.name h p x × (2 * x + 4 + root_steps m j ≤ n)

-- with so many steps a call is at the root, has changed a page, or has ended
abbrev pub IsAdrift : Snapshot → Forest → Course → ℕ → Stage → Type 0
IsAdrift m w j n stage.Root = ⊥
IsAdrift m w j n (stage.Walk a) = (root_steps m j + 1 ≤ n) × is_near m w j n a.cursor
IsAdrift m w j n (stage.Act v) = root_steps m j + 1 ≤ n
IsAdrift m w j n (stage.Give a) = ⊥
IsAdrift m w j n (stage.Split a) = root_steps m j + 3 ≤ n
IsAdrift m w j n (stage.InstallLeft a) = root_steps m j + 2 ≤ n
IsAdrift m w j n (stage.Post a) = root_steps m j + 1 ≤ n
IsAdrift m w j n (stage.Hoist a) = root_steps m j + 3 ≤ n
IsAdrift m w j n (stage.SwapRoot a) = root_steps m j + 2 ≤ n
IsAdrift m w j n (stage.Free a) = ⊥
IsAdrift m w j n (stage.Intend a) = (root_steps m j + 1 ≤ n) × ((d : Node) → nodes_at m a.child ≡ Some d → count d.content ≤ 3)
IsAdrift m w j n (stage.Child a) = root_steps m j + 2 * tree_pages m.state j.tree.name + 5 ≤ n
IsAdrift m w j n (stage.Cap a) = IsUnchanged m.state (child_of a) ⊎ (root_steps m j + 2 * tree_pages m.state j.tree.name + 6 ≤ n)
IsAdrift m w j n (stage.Seek a) = (root_steps m j + 2 ≤ n) × is_near m w j n a.cursor
IsAdrift m w j n (stage.Receive a) = IsUnchanged m.state a.left ⊎ (root_steps m j + 2 * tree_pages m.state j.tree.name + 5 ≤ n)
IsAdrift m w j n (stage.Confirm a) = root_steps m j + 1 ≤ n

-- it sees pages as they are, or as they may have been
abbrev pub IsOnWay : Snapshot → Forest → Course → ℕ → Stage → Type 0
IsOnWay m w j n a = IsFresh m w j n a ⊎ IsAdrift m w j n a

abbrev pub on_way : Snapshot → Forest → Course → ℕ → Sequel → Type 0
on_way m w j n (Go b) = (k : ℕ) × (k < n) × IsOnWay m w j k b
on_way m w j n (Decided reply) = Unit {0}
on_way m w j n (Refused e) = Unit {0}

-- the call is not to take a child, and gives no pairs
abbrev pub is_calm : Stage → Type 0
is_calm (stage.Intend a) = ⊥
is_calm (stage.Give a) = ⊥
is_calm other = Unit {0}

abbrev pub next_is_calm : Sequel → Type 0
next_is_calm (Go b) = is_calm b
next_is_calm (Decided reply) = Unit {0}
next_is_calm (Refused e) = Unit {0}

-- it ends; or no page of a tree changed; or one was repaired
abbrev pub drifts : Snapshot → Snapshot → Forest → Course → ℕ → Sequel → Type 0
drifts m m' v j n next = is_over next
    ⊎ (((to_do m'.state j.tree.name ≡ to_do m.state j.tree.name) × (tree_pages m'.state j.tree.name ≡ tree_pages m.state j.tree.name) × on_way m' v j n next)
    ⊎ ((to_do m'.state j.tree.name + 1 ≤ to_do m.state j.tree.name) × (tree_pages m'.state j.tree.name ≤ tree_pages m.state j.tree.name + 1) × next_is_calm next))

-- what a read comes to
page_or_gone : {s : Store} {pid : ℕ} {found : View → Sequel → Type 0} {next : Sequel} → FollowsPage s pid found next
    → (next ≡ Go stage.Root) ⊎ (((g : Page) × ((now s).pages pid ≡ Some g) × found (record { pid = pid; version = g.version; node = g.node }) next) ⊎ ((e : Error) × (next ≡ Refused e)))
page_or_gone {s} {pid} {found} {next} k = elim k.is [
  | inl a ↦ go ((now s).pages pid) refl a.1
  | inr b ↦ inr (inr (b.0, b.1))
]
  where
    go : (o : Option Page) → (now s).pages pid ≡ o → MatchOption (view_of pid ((now s).pages pid)) (next ≡ Go stage.Root) (λ v. found v next) → (next ≡ Go stage.Root) ⊎ (((g : Page) × ((now s).pages pid ≡ Some g) × found (record { pid = pid; version = g.version; node = g.node }) next) ⊎ ((e : Error) × (next ≡ Refused e)))
    go None e k = inl (subst (λ o. MatchOption (view_of pid o) (next ≡ Go stage.Root) (λ v. found v next)) e k)
    go (Some g) e k = inr (inl (g, e, subst (λ o. MatchOption (view_of pid o) (next ≡ Go stage.Root) (λ v. found v next)) e k))

as_fresh : (m : Snapshot) (w : Forest) (j : Course) (n : ℕ) (next : Sequel) → toward m w j n next → on_way m w j n next
as_fresh m w j n (Go b) k = (k.0, k.1, inl k.2)
as_fresh m w j n (Decided reply) k = tt
as_fresh m w j n (Refused e) k = tt

module _ {m : Snapshot} {w : Forest} (is : HasForest m w) (j : Course) (number root : ℕ) (named : m.numbers j.tree.name ≡ Some number) (rooted : m.state.roots j.tree.name ≡ Some root) where
  abbrev t : Tree
  t = j.tree.name

  abbrev chain : ℕ → List ℕ
  chain h = w.chain (place t h)

  abbrev pages : ℕ
  pages = tree_pages m.state t

  -- back at the root
  back : (n : ℕ) → root_steps m j < n → on_way m w j n (Go stage.Root)
  back n l = (root_steps m j, l, inl (le_refl _))

  -- wherever a cursor stands, the pages ahead of it are pages of the tree
  pub near_any : (n p : ℕ) → root_steps m j + 2 * pages + 4 ≤ n → is_near m w j n p
  near_any n p l h i =
      let a = ahead_at is.formed t h p i in
      (a.0, a.1, sum _ _ (ahead_few is.formed t h p a.0 a.1) (below_total is t root rooted h p i))
    where
      sum : (x y : ℕ) → x ≤ y → y ≤ pages → 2 * x + 4 + root_steps m j ≤ n
      sum x y u v = omega (arith, l)

  -- any stage but these two is one of these
  pub adrift_any : (n : ℕ) → most_steps m j ≤ n → (a : Stage) → is_calm a → IsOnWay m w j n a
  adrift_any n l stage.Root c = inl (omega (arith, l))
  adrift_any n l (stage.Walk a) c = inr (omega (arith, l), near_any n a.cursor (omega (arith, l)))
  adrift_any n l (stage.Act v) c = inr (omega (arith, l))
  adrift_any n l (stage.Give a) c = absurd c
  adrift_any n l (stage.Split a) c = inr (omega (arith, l))
  adrift_any n l (stage.InstallLeft a) c = inr (omega (arith, l))
  adrift_any n l (stage.Post a) c = inr (omega (arith, l))
  adrift_any n l (stage.Hoist a) c = inr (omega (arith, l))
  adrift_any n l (stage.SwapRoot a) c = inr (omega (arith, l))
  adrift_any n l (stage.Free a) c = inl (omega (arith, l))
  adrift_any n l (stage.Intend a) c = absurd c
  adrift_any n l (stage.Child a) c = inr (omega (arith, l))
  adrift_any n l (stage.Cap a) c = inr (inr (omega (arith, l)))
  adrift_any n l (stage.Seek a) c = inr (omega (arith, l), near_any n a.cursor (omega (arith, l)))
  adrift_any n l (stage.Receive a) c = inr (inr (omega (arith, l)))
  adrift_any n l (stage.Confirm a) c = inr (omega (arith, l))

  calm_of : (n : Node) → (n.merging ≡ true → ⊥) → n.merging ≡ false
  calm_of n off = go n.merging refl
    where
      go : (b : Bool) → n.merging ≡ b → n.merging ≡ false
      go false e = e
      go true e = absurd (off e)

  -- one page on, less is ahead
  near_next : (h p q n x : ℕ) (d : Node) → In p (chain h) → IsAhead w t h p x → 2 * x + 4 + root_steps m j ≤ n → nodes_at m p ≡ Some d → d.next ≡ Some q → (k : ℕ) × (k < n) × (root_steps m j + 2 ≤ k) × is_near m w j k q
  near_next h p q n x d i a l live next =
      let b = ahead_next is.formed t h p q x d a live next in
      let c = next_in is.formed (place t h) p q d i live next in
      (2 * b.0 + 4 + root_steps m j, less b.0 b.1, more b.0, λ g at. let same : g ≡ h = ap (λ (z : Place). z.height) (some_is (sym (is.formed.homed (place t g) q at) ∙ is.formed.homed (place t h) q c.1)) in (b.0, subst (λ z. IsAhead w t z q b.0) (sym same) b.2, le_refl _))
    where
      less : (y : ℕ) → y < x → 2 * y + 4 + root_steps m j < n
      less y u = omega (arith, l)

      more : (y : ℕ) → root_steps m j + 2 ≤ 2 * y + 4 + root_steps m j
      more y = omega arith

  -- a page of a walk is read
  pub walk_read : (n : ℕ) (a : Walk) (look : View) (next : Sequel) → look.pid ≡ a.cursor → IsUnchanged m.state look → IsWalking m w t number j.aim a → root_steps m j + 1 ≤ n → is_near m w j n look.pid → follows_read j look a.reached next → on_way m w j n next
  walk_read n a look next at now k few near follows = elim follows [
    | inl e ↦ subst (λ z. on_way m w j n z) (sym e.1) home
    | inr b ↦ calm (calm_of look.node b.0) b.1
  ]
    where
      live : nodes_at m look.pid ≡ Some look.node
      live = node_of m.state look now

      home : on_way m w j n (Go stage.Root)
      home = back n (omega (arith, few))

      calm : look.node.merging ≡ false → follows_not_merging look.node.merging_child j look a.reached next → on_way m w j n next
      calm awake follows = go look.node.merging_child refl follows
        where
          i : In look.pid (chain k.height)
          i = subst (λ z. In z (chain k.height)) (sym at) (now_law m w (place t k.height) number k.lo a.cursor k.stood named look.node (ap (nodes_at m) (sym at) ∙ live) awake).0

          x : ℕ
          x = (near k.height i).0

          is_ahead : IsAhead w t k.height look.pid x
          is_ahead = (near k.height i).1

          room : 2 * x + 4 + root_steps m j ≤ n
          room = (near k.height i).2

          below : 2 * pages_below w t k.height + 3 < n
          below = sum _ (fewer is j k.height look.pid x is_ahead)
            where
              sum : (b : ℕ) → suc b ≤ x → 2 * b + 3 < n
              sum b u = omega (arith, room)

          two : (root_steps m j + 3 < n) × (root_steps m j + 1 < n)
          two = (sum (fewer is j k.height look.pid x is_ahead), sum' (fewer is j k.height look.pid x is_ahead))
            where
              sum : {b : ℕ} → suc b ≤ x → root_steps m j + 3 < n
              sum u = omega (arith, room)

              sum' : {b : ℕ} → suc b ≤ x → root_steps m j + 1 < n
              sum' u = omega (arith, room)

          on_content : IsOpen look.node → (under : LiesUnder j.aim look.node) → follows_content look.node.content j look next → on_way m w j n next
          on_content unheld under r = as_fresh m w j n next (content is j n look now k.height x i is_ahead (omega (arith, room)) unheld under next look.node.content refl r)

          begins : (parent : View) → count look.node.content ≤ 3 → (o : Option ℕ) → on_way m w j n (begun parent look.pid o)
          begins parent few None = home
          begins parent few (Some b) = (root_steps m j + 1, two.1, inr (le_refl _, λ d there. subst (λ (z : Node). count z.content ≤ 3) (some_is (sym live ∙ there)) few))

          here : IsOpen look.node → LiesUnder j.aim look.node → (by : Reached) → follows_here j look by next → on_way m w j n next
          here unheld under reached.Root r = on_content unheld under r
          here unheld under (reached.FirstPointer parent) r = on_content unheld under r
          here unheld under (reached.LaterPointer parent) r = elim r [
            | inl e ↦ subst (λ z. on_way m w j n z) (sym e.1.is) (begins parent e.0.1 e.1.before)
            | inr e ↦ on_content unheld under e.1
          ]
          here unheld under (reached.Next parent) r = elim r [
            | inl e ↦ subst (λ z. on_way m w j n z) (sym e) (root_steps m j + 1, two.1, inr (le_refl _))
            | inr e ↦ subst (λ z. on_way m w j n z) (sym e) tt
          ]

          further : (o : Option ℕ) → look.node.next ≡ o → (parent : Option View) → on_way m w j n (onward look o parent)
          further None e parent = home
          further (Some q) e None = (root_steps m j + 3, two.0, inr (le_refl _))
          further (Some q) e (Some parent) =
              let y = near_next k.height look.pid q n x look.node i is_ahead room live e in
              (y.0, y.1, inr (fits y.0 y.2, y.3))
            where
              fits : (y : ℕ) → root_steps m j + 2 ≤ y → root_steps m j + 1 ≤ y
              fits y l = omega arith

          opened : IsOpen look.node → follows_open j look a.reached next → on_way m w j n next
          opened unheld r = elim r [
            | inl e ↦ subst (λ z. on_way m w j n z) (sym e.1) (root_steps m j + 3, two.0, inr (le_refl _))
            | inr b ↦ elim b.1 [
              | inl c ↦ elim c.1 [
                | inl e ↦ subst (λ z. on_way m w j n z) (sym e) (further look.node.next refl (parent_of a.reached))
                | inr e ↦ subst (λ z. on_way m w j n z) (sym e) tt
              ]
              | inr d ↦ elim d.1 [
                | inl u ↦ here unheld u.0 a.reached u.1
                | inr off ↦ subst (λ z. on_way m w j n z) (sym off.1) home
              ]
            ]
          ]

          go : (o : Option ℕ) → look.node.merging_child ≡ o → follows_not_merging o j look a.reached next → on_way m w j n next
          go (Some c) e r = as_fresh m w j n next (resumes is j k.height n look c next now i e below r)
          go None e r = opened (record { not_merging = awake; free = e }) r

  -- the child of a merge is read
  pub child_read : (n : ℕ) (a : Merge) (look : View) (next : Sequel) → look.pid ≡ a.child → IsUnchanged m.state look → IsReadingChild m w t number a → root_steps m j + 2 * pages + 5 ≤ n → follows_child a look next → on_way m w j n next
  child_read n a look next at now k few follows = elim follows [
    | inl e ↦ subst (λ z. on_way m w j n z) (sym e.1) (root_steps m j + 2 * pages + 4, omega (arith, few), inr (omega arith, near_any _ a.before (le_refl _)))
    | inr b ↦ go look.node.merging_child refl (calm_of look.node b.0) b.1
  ]
    where
      live : nodes_at m look.pid ≡ Some look.node
      live = node_of m.state look now

      go : (o : Option ℕ) → look.node.merging_child ≡ o → look.node.merging ≡ false → follows_child_not_merging o a look next → on_way m w j n next
      go (Some c) e awake r =
          let i : In look.pid (chain k.height) = subst (λ z. In z (chain k.height)) (sym at) (now_law m w (place t k.height) number k.merging.lo a.child k.merging.c_stood named look.node (ap (nodes_at m) (sym at) ∙ live) awake).0 in
          let x = ahead_at is.formed t k.height look.pid i in
          as_fresh m w j n next (resumes is j k.height n look c next now i e (sum _ _ _ (fewer is j k.height look.pid x.0 x.1) (ahead_few is.formed t k.height look.pid x.0 x.1) (below_total is t root rooted k.height look.pid i)) r)
        where
          sum : (b x y : ℕ) → suc b ≤ x → x ≤ y → y ≤ pages → 2 * b + 3 < n
          sum b x y u v l = omega (arith, few)
      go None e awake r = subst (λ z. on_way m w j n z) (sym r) (0, omega (arith, few), inr (inl (subst (λ p. m.state.pages p ≡ Some (record { version = look.version; node = look.node })) at now)))

  -- a page before the child is read
  pub seek_read : (n : ℕ) (a : Seek) (look : View) (next : Sequel) → look.pid ≡ a.cursor → IsUnchanged m.state look → IsSeeking m w t number a → root_steps m j + 2 ≤ n → is_near m w j n look.pid → follows_cursor a look next → on_way m w j n next
  seek_read n a look next at now k few near follows = elim follows [
    | inl e ↦ subst (λ z. on_way m w j n z) (sym e.1) home
    | inr b ↦ calm (calm_of look.node b.0) b.1
  ]
    where
      live : nodes_at m look.pid ≡ Some look.node
      live = node_of m.state look now

      home : on_way m w j n (Go stage.Root)
      home = back n (omega (arith, few))

      calm : look.node.merging ≡ false → follows_cursor_not_merging look.node.merging_child a look next → on_way m w j n next
      calm awake follows = go look.node.merging_child refl follows
        where
          i : In look.pid (chain k.height)
          i = subst (λ z. In z (chain k.height)) (sym at) (now_law m w (place t k.height) number k.lo a.cursor k.stood named look.node (ap (nodes_at m) (sym at) ∙ live) awake).0

          x : ℕ
          x = (near k.height i).0

          is_ahead : IsAhead w t k.height look.pid x
          is_ahead = (near k.height i).1

          room : 2 * x + 4 + root_steps m j ≤ n
          room = (near k.height i).2

          below : 2 * pages_below w t k.height + 3 < n
          below = sum _ (fewer is j k.height look.pid x is_ahead)
            where
              sum : (b : ℕ) → suc b ≤ x → 2 * b + 3 < n
              sum b u = omega (arith, room)

          met : IsOpen look.node → follows_met a look next → on_way m w j n next
          met unheld r = elim r [
            | inl e ↦ subst (λ z. on_way m w j n z) (sym e.1) (2, omega (arith, room), inl (le_refl 2, now, e.0, unheld, tt))
            | inr e ↦ subst (λ z. on_way m w j n z) (sym e.1) (0, omega (arith, room), inr (inl now))
          ]

          further : (o : Option ℕ) → look.node.next ≡ o → on_way m w j n (searched a o)
          further None e = home
          further (Some q) e = let y = near_next k.height look.pid q n x look.node i is_ahead room live e in (y.0, y.1, inr (y.2, y.3))

          go : (o : Option ℕ) → look.node.merging_child ≡ o → follows_cursor_not_merging o a look next → on_way m w j n next
          go (Some c) e r = as_fresh m w j n next (resumes is j k.height n look c next now i e below r)
          go None e r = elim r [
            | inl u ↦ met (record { not_merging = awake; free = e }) u.1
            | inr b ↦ elim b.1 [
              | inl u ↦ subst (λ z. on_way m w j n z) (sym u.1) (root_steps m j + 1, omega (arith, room), inr (le_refl _))
              | inr u ↦ subst (λ z. on_way m w j n z) (sym u.1) (further look.node.next refl)
            ]
          ]

module _ (j : Course) (old new : Store) (numbers : Tree → Option ℕ) (given : ℕ → Bool) (w v : Forest) (is : HasForest (snapshot_of old numbers given) w) (is_new : HasForest (snapshot_of new numbers given) v) (number : ℕ) (named : numbers j.tree.name ≡ Some number) where
  abbrev tree : Tree
  tree = j.tree.name

  abbrev m : Snapshot
  m = snapshot_of old numbers given

  abbrev m' : Snapshot
  m' = snapshot_of new numbers given

  at_root : (r : ℕ) × ((now old).roots tree ≡ Some r)
  at_root = is.rooted tree number named

  -- nothing changed
  stands : (n : ℕ) (next : Sequel) → new ≡ old → on_way m w j n next → drifts m m' v j n next
  stands n next e k = inr (inl (ap (λ (s : Store). to_do (now s) tree) e, ap (λ (s : Store). tree_pages (now s) tree) e, go new (sym e) v is_new))
    where
      go : (s : Store) → old ≡ s → (v : Forest) → HasForest (snapshot_of s numbers given) v → on_way (snapshot_of s numbers given) v j n next
      go s e = subst (λ (s : Store). (v : Forest) → HasForest (snapshot_of s numbers given) v → on_way (snapshot_of s numbers given) v j n next) e (λ v f. subst (λ (z : Forest). on_way m z j n next) (one_law (nodes_of (now old)) (now old).roots w v is.formed f.formed) k)

  refused : (n : ℕ) (next : Sequel) (e : Error) → next ≡ Refused e → drifts m m' v j n next
  refused n next e is = subst (λ z. drifts m m' v j n z) (sym is) (inl tt)

  allowed : (n : ℕ) (next : Sequel) {comes : Type 0} → (comes → drifts m m' v j n next) → OrRefused old new next comes → drifts m m' v j n next
  allowed n next on (inl k) = on k
  allowed n next on (inr k) = refused n next k.0 k.1

  home : (n : ℕ) (next : Sequel) → root_steps m j < n → next ≡ Go stage.Root → on_way m w j n next
  home n next l e = subst (λ z. on_way m w j n z) (sym e) (root_steps m j, l, inl (le_refl _))

  read : (n pid : ℕ) (next : Sequel) {found : View → Sequel → Type 0} → new ≡ old → root_steps m j < n → ((look : View) → look.pid ≡ pid → IsUnchanged (now old) look → found look next → on_way m w j n next) → FollowsPage old pid found next → drifts m m' v j n next
  read n pid next e l on k = elim (page_or_gone k) [
    | inl a ↦ stands n next e (home n next l a)
    | inr b ↦ elim b [
      | inl c ↦ stands n next e (on (record { pid = pid; version = c.0.version; node = c.0.node }) refl c.1 c.2)
      | inr c ↦ refused n next c.0 c.1
    ]
  ]

  -- a page that no tree has came
  passes : (n q : ℕ) (o : Option Page) (next : Sequel) → now new ≡ after (PageBecomes q o) (now old) → ((x : Place) → ¬ (In q (w.chain x))) → (tree_pages (now new) tree ≡ tree_pages (now old) tree → on_way m' v j n next) → drifts m m' v j n next
  passes n q o next e out k =
      let pages = ap (λ z. tree_pages z tree) e ∙ stray_counts (now old) w is.formed is.below q o out tree at_root.0 at_root.1 in
      inr (inl (ap (λ z. to_do z tree) e ∙ stray_stays (now old) w is.formed is.below q o out tree, pages, k pages))

  repaired : (n by : ℕ) (next : Sequel) (s : State) → now new ≡ s → 1 ≤ by → Lowers (now old) s tree by → next_is_calm next → drifts m m' v j n next
  repaired n by next s e one l k = inr (inr (less _ _ _ (ap (λ z. to_do z tree) e) l.here, subst (λ z. tree_pages z tree ≤ tree_pages (now old) tree + 1) (sym e) l.pages, k))
    where
      less : (x y z : ℕ) → x ≡ z → z + by ≤ y → x + 1 ≤ y
      less x y z e l = omega arith

  -- a page is repaired, or the change came too late
  takes : {change : Node → Node} {pid version : ℕ} {took : ℕ → Sequel} {late : Option ℕ → Sequel} (n by : ℕ) (next : Sequel) → 1 ≤ by
      → ((version' : ℕ) (node : Node) → (now old).pages pid ≡ Some (record { version = version; node = node }) → Lowers (now old) (after (PageBecomes pid (Some (record { version = version'; node = change node }))) (now old)) tree by)
      → ((version' : ℕ) → next_is_calm (took version'))
      → ((present : Option ℕ) → ((node : Node) → (now old).pages pid ≡ Some (record { version = version; node = node }) → ⊥) → on_way m w j n (late present)) → TakesWay change pid version old new next took late → drifts m m' v j n next
  takes {change} {pid} {version} n by next one law calm late (inl k) =
      repaired n by next _ (now_acts (PageBecomes pid (Some (record { version = k.0; node = change k.1.is.0 }))) k.0 old new k.1.is.2) one (law k.0 k.1.is.0 k.1.is.1) (subst next_is_calm (sym k.2) (calm k.0))
  takes {change} {pid} {version} n by next one law calm late (inr k) =
      stands n next k.1.is.0 (subst (λ z. on_way m w j n z) (sym k.2) (late k.0 (λ node here. k.1.is.2 (k.1.is.1 ∙ ap (option_map (λ (z : Page). z.version)) here))))

  one : (1 ≤ 1) × (1 ≤ 3) × (1 ≤ 4)
  one = (omega arith, omega arith, omega arith)

  linked : (n : ℕ) (look : View) (next : Sequel) → root_steps m j < n → (operator : Option Operator) → links_by operator j old new look next → drifts m m' v j n next
  linked n look next l operator k = go (decision_at operator j.call look.node.content).effect (key_of j.call) k
    where
      over : (link : Link) → TakesWay (after_link link) look.pid look.version old new next (λ _. Decided (decision_at operator j.call look.node.content).reply) (λ _. Go stage.Root) → drifts m m' v j n next
      over link (inl y) = subst (λ z. drifts m m' v j n z) (sym y.2) (inl tt)
      over link (inr y) = stands n next y.1.is.0 (home n next l y.2)

      go : (e : Effect) (key : Key) → MatchOption (link_of e key) ((new ≡ old) × (next ≡ Go stage.Root)) (λ link. TakesWay (after_link link) look.pid look.version old new next (λ _. Decided (decision_at operator j.call look.node.content).reply) (λ _. Go stage.Root)) → drifts m m' v j n next
      go effect.Nothing key y = stands n next y.0 (home n next l y.1)
      go (effect.Set value) key y = over (Set key value) y
      go effect.Remove key y = over (Del key) y

  pub drift : (n : ℕ) (a : Stage) (next : Sequel) → IsStage m w tree number j.aim a → HasHalves (nodes_of (now old)) a → IsAdrift m w j n a → follows_as j old a next new → drifts m m' v j n next
  drift n stage.Root next k h f x = absurd f
  drift n (stage.Walk a) next k h f x = read n a.cursor next x.0 (omega (arith, f.0)) (λ look at here found. walk_read is j number at_root.0 named at_root.1 n a look next at here k f.0 (subst (λ z. is_near m w j n z) (sym at) f.1) found) x.1
  drift n (stage.Act look) next k h f x = allowed n next (λ y. linked n look next (omega (arith, f)) y.operator y.is) x
  drift n (stage.Give a) next k h f x = absurd x
  drift n (stage.Split a) next k h f x = allowed n next go x
    where
      go : follows_split old new a next → drifts m m' v j n next
      go (inl y) = passes n y.1.right _ next (now_allocates _ y.1.right y.1.version old new y.1.made) (fresh_out is y.1.right y.1.made.fresh_pid) (λ e. subst (λ z. on_way m' v j n z) (sym y.1.is) (root_steps m' j + 2, less _ _ e f, inr (le_refl _)))
        where
          less : (x y : ℕ) → x ≡ y → 2 * y + 2 + 3 ≤ n → 2 * x + 2 + 2 < n
          less x y e l = omega arith
      go (inr y) = stands n next y.1.0 (home n next (omega (arith, f)) y.1.1)
  drift n (stage.InstallLeft a) next k h f x = allowed n next
      (takes n 3 next one.1 (λ version node page. install_lowers m w tree number a node version is named k page h.0 h.1 h.2) (λ version. calm a.posting) (λ present gone. (root_steps m j + 1, less, inl free))) x
    where
      calm : (p : Posting) → next_is_calm (after_install_left a p)
      calm (posting.Parent parent) = tt
      calm posting.Root = tt
      calm posting.Nowhere = tt

      less : root_steps m j + 1 < n
      less = omega (arith, f)

      free : 2 * tree_pages (now old) tree + 3 ≤ root_steps m j + 1
      free = omega arith
  drift n (stage.Post a) next k h f x = allowed n next go x
    where
      go : follows_post old new a next → drifts m m' v j n next
      go (inl y) = takes n 3 next one.1 (λ version node page. post_lowers m w tree number a node version is named k page y.0) (λ version. tt) (λ present gone. home n (Go stage.Root) (omega (arith, f)) refl) y.1
      go (inr y) = stands n next y.1.0 (home n next (omega (arith, f)) y.1.1)
  drift n (stage.Hoist a) next k h f x = allowed n next (λ y. passes n y.root _ next (now_allocates y.node y.root y.version old new y.made) (fresh_out is y.root y.made.fresh_pid) (λ e. subst (λ z. on_way m' v j n z) (sym y.is) (root_steps m' j + 2, less _ _ e f, inr (le_refl _)))) x
    where
      less : (x y : ℕ) → x ≡ y → 2 * y + 2 + 3 ≤ n → 2 * x + 2 + 2 < n
      less x y e l = omega arith
  drift n (stage.SwapRoot a) next k h f x = allowed n next (λ y. go y.answer y.swaps.is y.is) x
    where
      free : 2 * tree_pages (now old) tree + 3 ≤ root_steps m j + 1
      free = omega arith

      go : (answer : Result (Unit {0}) (Option ℕ)) → swaps_as tree (Some a.old) (Some a.new) old new answer → next ≡ after_swap_root a answer → drifts m m' v j n next
      go (Err present) y e = stands n next y.0 (subst (λ z. on_way m w j n z) (sym e) (root_steps m j + 1, omega (arith, f), inl free))
      go (Ok done) y e = repaired n 4 next _ (ap now y.1 ∙ now_acted (RootBecomes tree (Some a.new)) old) one.2 (swap_lowers m w tree number a is named y.0 k) (subst next_is_calm (sym e) tt)
  drift n (stage.Free a) next k h f x = absurd f
  drift n (stage.Intend a) next k h f x = allowed n next
      (takes n 1 next one.0 law (λ version. tt) (λ present gone. home n (Go stage.Root) (omega (arith, f.0)) refl)) x
    where
      law : (version : ℕ) (node : Node) → (now old).pages a.parent.pid ≡ Some (record { version = a.parent.version; node = node }) → Lowers (now old) (after (PageBecomes a.parent.pid (Some (record { version = version; node = after_link (ParentMergeIntention a.child) node }))) (now old)) tree 1
      law version node page =
          let u = k.under named (record { page = record { version = a.parent.version; node = node }; live = page; same = refl }) in
          let l = intend_lowers m w tree number a node u.node version is named k page u.live in
          record { here = l.small (f.1 u.node u.live); pages = l.pages; others = l.others }
  drift n (stage.Child a) next k h f x = read n a.child next x.0 (omega (arith, f)) (λ look at here found. child_read is j number at_root.0 named at_root.1 n a look next at here k f found) x.1
  drift n (stage.Cap a) next k h f x = allowed n next
      (takes n 1 next one.0 (λ version node page. cap_lowers m w tree number a node version is named k page) (λ version. tt) (λ present gone. elim f [ inl here ↦ absurd (gone a.node here) | inr l ↦ late present l ])) x
    where
      late : (present : Option ℕ) → root_steps m j + 2 * tree_pages (now old) tree + 6 ≤ n → on_way m w j n (read_again a.merge present)
      late None l = home n (Go stage.Root) (omega (arith, l)) refl
      late (Some version) l = (root_steps m j + 2 * tree_pages (now old) tree + 5, omega (arith, l), inr (le_refl _))
  drift n (stage.Seek a) next k h f x = read n a.cursor next x.0 (omega (arith, f.0)) (λ look at here found. seek_read is j number at_root.0 named at_root.1 n a look next at here k f.0 (subst (λ z. is_near m w j n z) (sym at) f.1) found) x.1
  drift n (stage.Receive a) next k h f x = allowed n next
      (takes n 1 next one.0 (λ version node page. receiving_lowers m w tree number a node version is named k page) (λ version. tt) (λ present gone. elim f [ inl here ↦ absurd (gone a.left.node here) | inr l ↦ late present l ])) x
    where
      late : (present : Option ℕ) → root_steps m j + 2 * tree_pages (now old) tree + 5 ≤ n → on_way m w j n (sought_again a present)
      late None l = home n (Go stage.Root) (omega (arith, l)) refl
      late (Some version) l = (root_steps m j + 2 * tree_pages (now old) tree + 4, omega (arith, l), inr (omega arith, near_any is j number at_root.0 named at_root.1 _ a.left.pid (le_refl _)))
  drift n (stage.Confirm a) next k h f x = allowed n next
      (takes n 1 next one.0 (λ version node page. confirm_lowers m w tree number a node version is named k page) (λ version. tt) (λ present gone. home n (Go stage.Root) (omega (arith, f)) refl)) x
