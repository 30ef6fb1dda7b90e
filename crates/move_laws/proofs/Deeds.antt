-- What a step by which a call goes on does to the pages of its tree: nothing, or one of them changes.
use Rattle.std.proofs.Common.{◌≡◌, ◌≢◌, ℕ, suc, ◌+◌, ◌-◌, ◌*◌, ◌<◌, ◌≤◌, ◌^◌, Bool, true, false, length, not, nat_eq, Option, Some, None, Result, Ok, Err, MatchOption, option_map, sym, refl, ap, ◌∙◌, subst, inl, inr, ◌⊎◌, arith, le_refl}
use Rattle.std.proofs.lemmas.List.Sums.{length-filter, count_by-le-length}
use Rattle.sled_nodes.proofs.Basics.{some_is, none_some, same_or_not}
use Rattle.sled_nodes.specs.Halves.{after_receiving}
use Rattle.sled_nodes.specs.Node.{count, after_link, after_confirm}
use Rattle.sled_nodes.specs.Order.{Key}
use Rattle.sled_nodes.specs.Posting.{with_pointer}
use Rattle.sled_nodes.specs.declared.error.Error.{Error}
use Rattle.sled_nodes.specs.declared.link.Link.{Link}
use Rattle.sled_nodes.specs.declared.link.Link.TheVariants.{Set, Del, ParentMergeIntention, ParentMergeConfirm, ChildMergeCap}
use Rattle.sled_nodes.specs.declared.node.Data.{Data}
use Rattle.sled_nodes.specs.declared.node.Data.TheVariants.{Leaf, Index}
use Rattle.sled_nodes.specs.declared.node.Node.{Node}
use Rattle.sled_store.specs.In.{In}
use Rattle.sled_store.specs.State.{State, nodes_of, PageBecomes, RootBecomes, after}
use Rattle.sled_store.specs.Store.{Store, now, swaps_as, frees_as}
use Rattle.sled_store.specs.Update.{put_at}
use Rattle.sled_store.specs.theory.Facts.{now_acted, now_acts, now_allocates, put_here, put_elsewhere, put_name_elsewhere}
use Rattle.sled_store.specs.declared.page.Page.{Page}
use Rattle.sled_store.specs.declared.page.View.{View}
use Rattle.sled_model.specs.Answer.{key_of}
use Rattle.sled_model.specs.Maps.{Merge as Operator}
use Rattle.sled_model.specs.declared.decision.Effect.{Effect}
use Rattle.sled_model.specs.declared.decision.Effect.TheVariants as effect
use Rattle.sled_model.specs.declared.reply.Reply.{Reply}
use Rattle.tree_laws.specs.Forest.{Tree, Forest, Place, place, WellFormed}
use Rattle.tree_laws.specs.Contents.{next_of, first_of}
use Rattle.tree_laws.specs.Paths.{tree_pages}
use Rattle.tree_laws.specs.Snapshot.{Snapshot, snapshot_of, nodes_at, HasForest, IsOrphan, SeenOpen, IsAtVersion}
use Rattle.tree_laws.specs.Stages.{IsStage}
use Rattle.tree_laws.specs.declared.flight.Merge.{Merge}
use Rattle.tree_laws.specs.declared.flight.Posting.{Posting}
use Rattle.tree_laws.specs.declared.flight.Posting.TheVariants as posting
use Rattle.tree_laws.specs.declared.flight.Stage.{Stage}
use Rattle.tree_laws.specs.declared.flight.Stage.TheVariants as stage
use Rattle.tree_laws.proofs.Known.{fresh_in, put_few, root_in}
use Rattle.tree_laws.proofs.Merges.{receives_from}
use Rattle.tree_laws.proofs.Reading.{one_law}
use Rattle.tree_laws.proofs.Split.{halves_count}
use Rattle.tree_laws.proofs.Stable.{now_law}
use Rattle.tree_laws.proofs.States.{allocate_law, free_law}
use Rattle.sled_tree.specs.Change.{link_of, decision_at}
use Rattle.sled_tree.specs.Course.{Course}
use Rattle.sled_tree.specs.Follows.{TakesWay, OrRefused, links_by, after_install_left, after_swap_root, follows_as, follows_post, follows_split}
use Rattle.sled_tree.specs.declared.flight.Sequel.{Sequel}
use Rattle.sled_tree.specs.declared.flight.Sequel.TheVariants.{Go, Decided, Refused}
use Rattle.tree_progress.specs.Laws.{Lowers, Intends}
use Rattle.tree_progress.specs.Steps.{HasHalves}
use Rattle.tree_progress.specs.ToDo.{to_do}
use Rattle.tree_progress.specs.Weights.{weight, child_weight}
use Rattle.tree_progress.proofs.Capping.{cap_lowers}
use Rattle.tree_progress.proofs.Changing.{shape_frame}
use Rattle.tree_progress.proofs.Confirming.{confirm_lowers}
use Rattle.tree_progress.proofs.Counting.{pages_same}
use Rattle.tree_progress.proofs.Drifting.{is_calm, next_is_calm}
use Rattle.tree_progress.proofs.Hoisting.{swap_lowers}
use Rattle.tree_progress.proofs.Intending.{intend_lowers}
use Rattle.tree_progress.proofs.Posting.{post_lowers}
use Rattle.tree_progress.proofs.Receiving.{receiving_lowers}
use Rattle.tree_progress.proofs.Shapes.{shape_of}
use Rattle.tree_progress.proofs.Splitting.{install_lowers}
use Rattle.move_laws.specs.Meant.{grown}

-- a page comes or goes that no tree has
pub record IsStray (old new : Store) (w v : Forest) : Type 0 where
  pub page : ℕ
  pub becomes : Option Page
  pub is : now new ≡ after (PageBecomes page becomes) (now old)
  pub stray : IsOrphan w page
  pub fresh : (g : Page) → becomes ≡ Some g → old.versions g.version ≡ false
  pub same : v ≡ w

-- a page takes in the one behind it
pub record Receives (m : Snapshot) (page : ℕ) : Type 0 where
  pub node : Node
  pub live : nodes_at m page ≡ Some node
  pub child : ℕ
  pub next : node.next ≡ Some child
  pub capped : Node
  pub there : nodes_at m child ≡ Some capped
  pub merging : capped.merging ≡ true

-- A page of the tree t changes, or its root does. The page may grow by so much, where it takes in none
pub record Changes (m m' : Snapshot) (w : Forest) (t : Tree) (rise : ℕ) : Type 0 where
  pub page : ℕ
  pub height : ℕ
  pub chained : In page (w.chain (place t height))
  pub elsewhere : (p : ℕ) → p ≢ page → nodes_at m' p ≡ nodes_at m p
  pub fresh : (p : ℕ) (g : Page) → m'.state.pages p ≡ Some g → (m.state.pages p ≡ Some g) ⊎ (m.versions g.version ≡ false)
  pub grows : (grown (nodes_at m' page) ≤ grown (nodes_at m page) + rise) ⊎ Receives m page
  pub few : tree_pages m'.state t ≤ tree_pages m.state t + 1
  pub pages : (u : Tree) (number : ℕ) → u ≢ t → m.numbers u ≡ Some number → tree_pages m'.state u ≡ tree_pages m.state u
  pub others : (u : Tree) → u ≢ t → to_do m'.state u ≡ to_do m.state u

-- .. and less is left to repair: thrice that falls by more than the page grew
pub record Repairs (m m' : Snapshot) (w : Forest) (t : Tree) : Type 0 where
  pub rise : ℕ
  pub changes : Changes m m' w t rise
  pub falls : 3 * to_do m'.state t + rise + 1 ≤ 3 * to_do m.state t

-- .. or the page becomes an index with a merging child, and what that child grew by counts no more
pub record Takes (m m' : Snapshot) (w : Forest) (t : Tree) (a : Merge) : Type 0 where
  pub changes : Changes m m' w t 0
  pub here : (node : Node) × (m.state.pages a.parent.pid ≡ Some (record { version = a.parent.version; node = node }))
  pub now : (g : Page) → m'.state.pages a.parent.pid ≡ Some g → m.versions g.version ≡ false
  pub falls : 3 * to_do m'.state t + 1 ≤ 3 * to_do m.state t + grown (nodes_at m a.child)

-- what a call did that went on from the stage a to the stage b
abbrev pub Kind : Course → Stage → Store → Store → Snapshot → Snapshot → Forest → Forest → Stage → Type 0
Kind j a old new m m' w v b = (new ≡ old) ⊎ (IsStray old new w v ⊎ (is_calm b × Repairs m m' w j.tree.name))

-- a page number and a version are given once
pub page_fresh : (old new : Store) (q : ℕ) (o : Option Page) → now new ≡ after (PageBecomes q o) (now old) → ((g : Page) → o ≡ Some g → old.versions g.version ≡ false) → (p : ℕ) (g : Page) → (now new).pages p ≡ Some g → ((now old).pages p ≡ Some g) ⊎ (old.versions g.version ≡ false)
page_fresh old new q o e fresh p g live = elim (same_or_not p q) [
  | inl s ↦ inr (fresh g (sym (put_here (now old).pages q o) ∙ sym (ap (put_at (now old).pages q o) s) ∙ sym (ap (λ (s : State). s.pages p) e) ∙ live))
  | inr off ↦ inl (sym (put_elsewhere (now old).pages q p o off) ∙ sym (ap (λ (s : State). s.pages p) e) ∙ live)
]

-- a tree none of whose pages changes has as many
counts_off : (s : State) (w : Forest) (f : WellFormed (nodes_of s) s.roots w) (below : (p : ℕ) (g : Page) → s.pages p ≡ Some g → p < 2 ^ 64) (q : ℕ) (o : Option Page) (u : Tree) → ((h p : ℕ) → In p (w.chain (place u h)) → p ≢ q) → (root : ℕ) → s.roots u ≡ Some root
    → tree_pages (after (PageBecomes q o) s) u ≡ tree_pages s u
counts_off s w f below q o u off root e =
    let a = shape_of s w f below u root e in
    let b = shape_frame (nodes_of s) (nodes_of (after (PageBecomes q o) s)) (λ h. w.chain (place u h)) root a.0 a.1 (λ h p i. (ap next_of (same h p i), ap first_of (same h p i))) in
    pages_same s (after (PageBecomes q o) s) u (λ h. w.chain (place u h)) root a.0 e e a.1 b
  where
    same : (h p : ℕ) → In p (w.chain (place u h)) → nodes_of (after (PageBecomes q o) s) p ≡ nodes_of s p
    same h p i = ap (option_map (λ (z : Page). z.node)) (put_elsewhere s.pages q p o (off h p i))

-- a page that has no more entries grew by nothing
no_larger : (n d : Node) → count d.content ≤ count n.content → grown (Some d) ≤ grown (Some n) + 0
no_larger n d l = omega (arith, l)

one_larger : (n d : Node) → count d.content ≤ count n.content + 1 → grown (Some d) ≤ grown (Some n) + 8
one_larger n d l = omega (arith, l)

few_confirmed : (c : Data) (child : Option ℕ) → count (after_confirm c child).0 ≤ count c
few_confirmed (Leaf es) child = le_refl _
few_confirmed (Index es) None = le_refl _
few_confirmed (Index es) (Some child) = subst (λ z. z ≤ length es) (sym (length-filter (λ (e : Key × ℕ). not (nat_eq e.1 child)) es)) (count_by-le-length (λ (e : Key × ℕ). not (nat_eq e.1 child)) es)

few_posted : (at : Key) (pid : ℕ) (c : Data) → count (with_pointer at pid c) ≤ count c + 1
few_posted at pid (Leaf es) = omega arith
few_posted at pid (Index es) = put_few at pid es

module _ (j : Course) (old new : Store) (numbers : Tree → Option ℕ) (given : ℕ → Bool) (w v : Forest) (is : HasForest (snapshot_of old numbers given) w) (is_new : HasForest (snapshot_of new numbers given) v) (number : ℕ) (named : numbers j.tree.name ≡ Some number) where
  abbrev t : Tree
  t = j.tree.name

  abbrev m : Snapshot
  m = snapshot_of old numbers given

  abbrev m' : Snapshot
  m' = snapshot_of new numbers given

  -- a page of the level is changed
  changed : (rise pid h : ℕ) (n : Node) (g : Page) → now new ≡ after (PageBecomes pid (Some g)) (now old) → old.versions g.version ≡ false → In pid (w.chain (place t h)) → nodes_at m pid ≡ Some n → ((grown (Some g.node) ≤ grown (Some n) + rise) ⊎ Receives m pid)
      → tree_pages (now new) t ≤ tree_pages (now old) t + 1 → ((u : Tree) → u ≢ t → to_do (now new) u ≡ to_do (now old) u) → Changes m m' w t rise
  changed rise pid h n g e fresh i live grows few others = record {
    page = pid;
    height = h;
    chained = i;
    elsewhere = λ p off. ap (λ (s : State). nodes_of s p) e ∙ ap (option_map (λ (z : Page). z.node)) (put_elsewhere (now old).pages pid p (Some g) off);
    fresh = page_fresh old new pid (Some g) e (λ z s. subst (λ (y : Page). old.versions y.version ≡ false) (some_is s) fresh);
    grows = elim grows [
      | inl l ↦ inl (subst (λ o. grown o ≤ grown (nodes_at m pid) + rise) (sym (ap (λ (s : State). nodes_of s pid) e ∙ ap (option_map (λ (z : Page). z.node)) (put_here (now old).pages pid (Some g)))) (subst (λ o. grown (Some g.node) ≤ grown o + rise) (sym live) l))
      | inr r ↦ inr r
    ];
    few = few;
    pages = λ u k off known. let r = is.rooted u k known in ap (λ z. tree_pages z u) e ∙ counts_off (now old) w is.formed is.below pid (Some g) u (λ h' p i' s. off (ap (λ (z : Place). z.tree) (some_is (sym (is.formed.homed (place u h') p i') ∙ ap w.home s ∙ is.formed.homed (place t h) pid i)))) r.0 r.1;
    others = others;
  }

  -- .. by a law of what that lowers
  repaired : (rise pid h : ℕ) (n : Node) (g : Page) → now new ≡ after (PageBecomes pid (Some g)) (now old) → old.versions g.version ≡ false → In pid (w.chain (place t h)) → nodes_at m pid ≡ Some n → ((grown (Some g.node) ≤ grown (Some n) + rise) ⊎ Receives m pid)
      → (by : ℕ) → rise + 1 ≤ 3 * by → Lowers (now old) (after (PageBecomes pid (Some g)) (now old)) t by → Repairs m m' w t
  repaired rise pid h n g e fresh i live grows by enough law =
      let l : Lowers (now old) (now new) t by = subst (λ z. Lowers (now old) z t by) (sym e) law in
      record { rise = rise; changes = changed rise pid h n g e fresh i live grows l.pages l.others; falls = sum _ _ l.here }
    where
      sum : (x y : ℕ) → x + by ≤ y → 3 * x + rise + 1 ≤ 3 * y
      sum x y u = omega (arith, enough)

  -- a page of a level that stands as it was read
  seen_in : (h : ℕ) (look : View) (node : Node) → SeenOpen m w (place t h) number look → m.state.pages look.pid ≡ Some (record { version = look.version; node = node }) → In look.pid (w.chain (place t h))
  seen_in h look node k here = fresh_in k (record { page = record { version = look.version; node = node }; live = here; same = refl }) named

  stray_by : (q : ℕ) (o : Option Page) → now new ≡ after (PageBecomes q o) (now old) → IsOrphan w q → ((g : Page) → o ≡ Some g → old.versions g.version ≡ false) → WellFormed (nodes_of (after (PageBecomes q o) (now old))) (now old).roots w → IsStray old new w v
  stray_by q o e stray fresh formed = record {
    page = q;
    becomes = o;
    is = e;
    stray = stray;
    fresh = fresh;
    same = one_law (nodes_of (now new)) (now new).roots v w is_new.formed (subst (λ (s : State). WellFormed (nodes_of s) s.roots w) (sym e) formed);
  }

  -- a new page
  came : (q : ℕ) (g : Page) → now new ≡ after (PageBecomes q (Some g)) (now old) → old.pids q ≡ false → old.versions g.version ≡ false → IsStray old new w v
  came q g e unused fresh =
      let small : q < 2 ^ 64 = is_new.below q g (ap (λ (s : State). s.pages q) e ∙ put_here (now old).pages q (Some g)) in
      let a = allocate_law m w q g is unused fresh small in
      stray_by q (Some g) e a.1 (λ z s. subst (λ (y : Page). old.versions y.version ≡ false) (some_is s) fresh) a.0.is.formed

  went : (q : ℕ) → now new ≡ after (PageBecomes q None) (now old) → IsOrphan w q → IsStray old new w v
  went q e stray = stray_by q None e stray (λ g s. none_some s) (free_law m w q is stray).0.is.formed

  no_end : {b : Stage} {e : Error} → Go b ≡ Refused e → ⊥
  no_end k = cc

  not_decided : {b : Stage} {r : Reply} → Go b ≡ Decided r → ⊥
  not_decided k = cc

  abbrev K : Stage → Stage → Type 0
  K a b = Kind j a old new m m' w v b

  allowed : (a b : Stage) {comes : Type 0} → (comes → K a b) → OrRefused old new (Go b) comes → K a b
  allowed a b on (inl k) = on k
  allowed a b on (inr k) = absurd (no_end k.1)

  -- a change is made, or came too late
  takes : {change : Node → Node} {pid version : ℕ} {took : ℕ → Sequel} {late : Option ℕ → Sequel} (a b : Stage) → ((version' : ℕ) → next_is_calm (took version'))
      → ((version' : ℕ) (node : Node) → (now old).pages pid ≡ Some (record { version = version; node = node }) → now new ≡ after (PageBecomes pid (Some (record { version = version'; node = change node }))) (now old) → old.versions version' ≡ false → Repairs m m' w t)
      → TakesWay change pid version old new (Go b) took late → K a b
  takes {change} {pid} {version} a b calm law (inl k) =
      inr (inr (subst next_is_calm (sym k.2) (calm k.0), law k.0 k.1.is.0 k.1.is.1 (now_acts (PageBecomes pid (Some (record { version = k.0; node = change k.1.is.0 }))) k.0 old new k.1.is.2) k.1.is.2.fresh))
  takes a b calm law (inr k) = inl k.1.is.0

  linked : (a b : Stage) (look : View) (operator : Option Operator) → links_by operator j old new look (Go b) → K a b
  linked a b look operator k = go (decision_at operator j.call look.node.content).effect (key_of j.call) k
    where
      over : (link : Link) → TakesWay (after_link link) look.pid look.version old new (Go b) (λ _. Decided (decision_at operator j.call look.node.content).reply) (λ _. Go stage.Root) → K a b
      over link (inl y) = absurd (not_decided y.2)
      over link (inr y) = inl y.1.is.0

      go : (e : Effect) (key : Key) → MatchOption (link_of e key) ((new ≡ old) × (Go b ≡ Go stage.Root)) (λ link. TakesWay (after_link link) look.pid look.version old new (Go b) (λ _. Decided (decision_at operator j.call look.node.content).reply) (λ _. Go stage.Root)) → K a b
      go effect.Nothing key y = inl y.0
      go (effect.Set value) key y = over (Set key value) y
      go effect.Remove key y = over (Del key) y

  one : (0 + 1 ≤ 3 * 1) × (0 + 1 ≤ 3 * 3) × (8 + 1 ≤ 3 * 3)
  one = (omega arith, omega arith, omega arith)

  -- the kind of a step, from every stage but one
  pub kind_of : (a b : Stage) → is_calm a → IsStage m w t number j.aim a → HasHalves (nodes_of (now old)) a → follows_as j old a (Go b) new → K a b
  kind_of stage.Root b c k h x = inl x.0
  kind_of (stage.Walk a) b c k h x = inl x.0
  kind_of (stage.Act look) b c k h x = allowed (stage.Act look) b (λ y. linked (stage.Act look) b look y.operator y.is) x
  kind_of (stage.Give a) b c k h x = absurd x
  kind_of (stage.Split a) b c k h x = allowed (stage.Split a) b go x
    where
      go : follows_split old new a (Go b) → K (stage.Split a) b
      go (inl y) = inr (inl (came y.1.right _ (now_allocates _ y.1.right y.1.version old new y.1.made) y.1.made.fresh_pid y.1.made.fresh))
      go (inr y) = inl y.1.0
  kind_of (stage.InstallLeft a) b c k h x = allowed (stage.InstallLeft a) b (takes (stage.InstallLeft a) b (λ version. calm a.posting) law) x
    where
      calm : (p : Posting) → next_is_calm (after_install_left a p)
      calm (posting.Parent parent) = tt
      calm posting.Root = tt
      calm posting.Nowhere = tt

      less : (x y z : ℕ) → x ≡ y + z → y ≤ x
      less x y z e = omega arith

      law : (version : ℕ) (node : Node) → (now old).pages a.page.pid ≡ Some (record { version = a.page.version; node = node }) → now new ≡ after (PageBecomes a.page.pid (Some (record { version = version; node = a.left }))) (now old) → old.versions version ≡ false → Repairs m m' w t
      law version node here e fresh =
          let node_is : node ≡ a.page.node = k.seen.view.speaks (record { version = a.page.version; node = node }) here refl in
          repaired 0 a.page.pid k.height node _ e fresh (seen_in k.height a.page node k.seen here) (ap (option_map (λ (z : Page). z.node)) here)
          (inl (no_larger node a.left (subst (λ (z : Node). count a.left.content ≤ count z.content) (sym node_is) (less _ _ _ (halves_count a.page.node.content a.left.content k.right.content k.split.halves)))))
          3 one.1 (install_lowers m w t number a node version is named k here h.0 h.1 h.2)
  kind_of (stage.Post a) b c k h x = allowed (stage.Post a) b go x
    where
      go : follows_post old new a (Go b) → K (stage.Post a) b
      go (inl y) = takes (stage.Post a) b (λ version. tt) law y.1
        where
          law : (version : ℕ) (node : Node) → (now old).pages a.parent.pid ≡ Some (record { version = a.parent.version; node = node }) → now new ≡ after (PageBecomes a.parent.pid (Some (record { version = version; node = record (a.parent.node) { content = with_pointer a.at a.pid a.parent.node.content } }))) (now old) → old.versions version ≡ false → Repairs m m' w t
          law version node here e fresh =
              let node_is : node ≡ a.parent.node = k.above.seen.view.speaks (record { version = a.parent.version; node = node }) here refl in
              repaired 8 a.parent.pid (suc k.height) node _ e fresh (seen_in (suc k.height) a.parent node k.above.seen here) (ap (option_map (λ (z : Page). z.node)) here)
              (inl (one_larger node (record (a.parent.node) { content = with_pointer a.at a.pid a.parent.node.content }) (subst (λ (z : Node). count (with_pointer a.at a.pid a.parent.node.content) ≤ count z.content + 1) (sym node_is) (few_posted a.at a.pid a.parent.node.content))))
              3 one.2 (post_lowers m w t number a node version is named k here y.0)
      go (inr y) = inl y.1.0
  kind_of (stage.Hoist a) b c k h x = allowed (stage.Hoist a) b (λ y. inr (inl (came y.root _ (now_allocates y.node y.root y.version old new y.made) y.made.fresh_pid y.made.fresh))) x
  kind_of (stage.SwapRoot a) b c k h x = allowed (stage.SwapRoot a) b (λ y. go y.answer y.swaps.is y.is) x
    where
      go : (answer : Result (Unit {0}) (Option ℕ)) → swaps_as t (Some a.old) (Some a.new) old new answer → Go b ≡ after_swap_root a answer → K (stage.SwapRoot a) b
      go (Err present) y s = inl y.0
      go (Ok done) y s =
          let e : now new ≡ after (RootBecomes t (Some a.new)) (now old) = ap now y.1 ∙ now_acted (RootBecomes t (Some a.new)) old in
          let l : Lowers (now old) (now new) t 4 = subst (λ z. Lowers (now old) z t 4) (sym e) (swap_lowers m w t number a is named y.0 k) in
          let r = root_at a.old y.0 in
          inr (inr (
            subst next_is_calm (sym s) tt,
            record {
              rise = 0;
              changes = record {
                page = a.old;
                height = r.0;
                chained = r.1;
                elsewhere = λ p off. ap (λ (z : State). nodes_of z p) e;
                fresh = λ p g live. inl (sym (ap (λ (z : State). z.pages p) e) ∙ live);
                grows = inl (same _ _ (ap (λ (z : State). grown (nodes_of z a.old)) e));
                few = l.pages;
                pages = λ u known off called. let z = is.rooted u known called in let q = shape_of (now old) w is.formed is.below u z.0 z.1 in
                    ap (λ (y : State). tree_pages y u) e ∙ pages_same (now old) (after (RootBecomes t (Some a.new)) (now old)) u (λ h. w.chain (place u h)) z.0 q.0 z.1 (put_name_elsewhere (now old).roots t u (Some a.new) off ∙ z.1) q.1 q.1;
                others = l.others;
              };
              falls = sum _ _ l.here;
            },
          ))
        where
          same : (x y : ℕ) → x ≡ y → x ≤ y + 0
          same x y e = omega arith

          sum : (x y : ℕ) → x + 4 ≤ y → 3 * x + 0 + 1 ≤ 3 * y
          sum x y u = omega arith

          root_at : (r : ℕ) → (now old).roots t ≡ Some r → (h : ℕ) × In r (w.chain (place t h))
          root_at r e = let z = root_in is.formed t r e in (z.0, z.2)
  kind_of (stage.Free a) b c k h x = allowed (stage.Free a) b (λ y. go y.answer y.frees.is) x
    where
      go : (answer : Result (Unit {0}) (Option ℕ)) → frees_as a.pid a.version old new answer → K (stage.Free a) b
      go (Err present) y = inl y.0
      go (Ok done) y = inr (inl (went a.pid (ap now y.1 ∙ now_acted (PageBecomes a.pid None) old) k.own.stray))
  kind_of (stage.Intend a) b c k h x = absurd c
  kind_of (stage.Child a) b c k h x = inl x.0
  kind_of (stage.Cap a) b c k h x = allowed (stage.Cap a) b (takes (stage.Cap a) b (λ version. tt) law) x
    where
      law : (version : ℕ) (node : Node) → (now old).pages a.merge.child ≡ Some (record { version = a.version; node = node }) → now new ≡ after (PageBecomes a.merge.child (Some (record { version = version; node = after_link ChildMergeCap node }))) (now old) → old.versions version ≡ false → Repairs m m' w t
      law version node here e fresh =
          let at : IsAtVersion m (record { pid = a.merge.child; version = a.version; node = a.node }) = record { page = record { version = a.version; node = node }; live = here; same = refl } in
          let live : nodes_at m a.merge.child ≡ Some node = ap (option_map (λ (z : Page). z.node)) here in
          let node_is : node ≡ a.node = k.view.speaks (record { version = a.version; node = node }) here refl in
          let i = (now_law m w (place t k.height) number k.merging.lo a.merge.child k.merging.c_stood named node live (subst (λ (z : Node). z.merging ≡ false) (sym node_is) k.is_open.not_merging)).0 in
          repaired 0 a.merge.child k.height node _ e fresh i live (inl (no_larger node (after_link ChildMergeCap node) (le_refl _))) 1 one.0 (cap_lowers m w t number a node version is named k here)
  kind_of (stage.Seek a) b c k h x = inl x.0
  kind_of (stage.Receive a) b c k h x = allowed (stage.Receive a) b (takes (stage.Receive a) b (λ version. tt) law) x
    where
      law : (version : ℕ) (node : Node) → (now old).pages a.left.pid ≡ Some (record { version = a.left.version; node = node }) → now new ≡ after (PageBecomes a.left.pid (Some (record { version = version; node = after_receiving a.left.node a.node }))) (now old) → old.versions version ≡ false → Repairs m m' w t
      law version node here e fresh =
          let i = seen_in k.height a.left node k.seen here in
          let live : nodes_at m a.left.pid ≡ Some node = ap (option_map (λ (z : Page). z.node)) here in
          let node_is : node ≡ a.left.node = k.seen.view.speaks (record { version = a.left.version; node = node }) here refl in
          let next : node.next ≡ Some a.merge.child = ap (λ (z : Node). z.next) node_is ∙ k.next in
          let r = receives_from is (place t k.height) a.merge.child a.left.pid a.version node a.node i live next k.frozen in
          repaired 0 a.left.pid k.height node _ e fresh i live (inr (record { node = node; live = live; child = a.merge.child; next = next; capped = a.node; there = r.1; merging = k.frozen.capped })) 1 one.0 (receiving_lowers m w t number a node version is named k here)
  kind_of (stage.Confirm a) b c k h x = allowed (stage.Confirm a) b (takes (stage.Confirm a) b (λ version. tt) law) x
    where
      law : (version : ℕ) (node : Node) → (now old).pages a.parent.pid ≡ Some (record { version = a.parent.version; node = node }) → now new ≡ after (PageBecomes a.parent.pid (Some (record { version = version; node = after_link ParentMergeConfirm node }))) (now old) → old.versions version ≡ false → Repairs m m' w t
      law version node here e fresh =
          let live : nodes_at m a.parent.pid ≡ Some node = ap (option_map (λ (z : Page). z.node)) here in
          let node_is : node ≡ a.parent.node = k.merger.view.speaks (record { version = a.parent.version; node = node }) here refl in
          let i = (now_law m w (place t (suc k.height)) number a.parent.node.lo a.parent.pid k.merger.stood named node live (subst (λ (z : Node). z.merging ≡ false) (sym node_is) k.merger.not_merging)).0 in
          repaired 0 a.parent.pid (suc k.height) node _ e fresh i live (inl (no_larger node (after_link ParentMergeConfirm node) (few_confirmed node.content node.merging_child))) 1 one.0 (confirm_lowers m w t number a node version is named k here)

  -- .. and of the one that makes a page a merging child: it does, or the call is at the root again
  pub kind_of_intend : (a : Merge) (b : Stage) → IsStage m w t number j.aim (stage.Intend a) → follows_as j old (stage.Intend a) (Go b) new → ((new ≡ old) × (b ≡ stage.Root) × ((node : Node) → (now old).pages a.parent.pid ≡ Some (record { version = a.parent.version; node = node }) → ⊥)) ⊎ (is_calm b × Takes m m' w t a)
  kind_of_intend a b k (inr x) = absurd (no_end x.1)
  kind_of_intend a b k (inl (inr x)) = inl (x.1.is.0, is_at x.2, λ node here. x.1.is.2 (x.1.is.1 ∙ ap (option_map (λ (z : Page). z.version)) here))
    where
      is_at : Go b ≡ Go stage.Root → b ≡ stage.Root
      is_at e = cc
  kind_of_intend a b k (inl (inl x)) =
      let node = x.1.is.0 in
      let here = x.1.is.1 in
      let fresh = x.1.is.2.fresh in
      let g : Page = record { version = x.0; node = after_link (ParentMergeIntention a.child) node } in
      let e : now new ≡ after (PageBecomes a.parent.pid (Some g)) (now old) = now_acts (PageBecomes a.parent.pid (Some g)) x.0 old new x.1.is.2 in
      let u = k.under named (record { page = record { version = a.parent.version; node = node }; live = here; same = refl }) in
      let l : Intends (now old) (now new) t (count u.node.content) = subst (λ z. Intends (now old) z t (count u.node.content)) (sym e) (intend_lowers m w t number a node u.node x.0 is named k here u.live) in
      let live : nodes_at m a.parent.pid ≡ Some node = ap (option_map (λ (z : Page). z.node)) here in
      inr (
        subst next_is_calm (sym x.2) tt,
        record {
          changes = changed 0 a.parent.pid (suc k.height) node g e fresh (seen_in (suc k.height) a.parent node k.above.seen here) live (inl (no_larger node (after_link (ParentMergeIntention a.child) node) (le_refl _))) l.pages l.others;
          here = (node, here);
          now = λ z s. subst (λ (y : Page). old.versions y.version ≡ false) (some_is (sym (ap (λ (q : State). q.pages a.parent.pid) e ∙ put_here (now old).pages a.parent.pid (Some g)) ∙ s)) fresh;
          falls = subst (λ o. 3 * to_do (now new) t + 1 ≤ 3 * to_do (now old) t + grown o) (sym u.live) (sum (count u.node.content) _ _ (k.small named (record { page = record { version = a.parent.version; node = node }; live = here; same = refl }) u.node u.live) l.here (l.small));
        },
      )
    where
      sum : (n x y : ℕ) → n ≤ 17 → x + weight n ≤ y + child_weight false n → (n ≤ 3 → x + 1 ≤ y) → 3 * x + 1 ≤ 3 * y + 8 * (n - 3)
      sum n x y f l s = elim (few n) [ inl g ↦ small (s g) | inr g ↦ large g ]
        where
          few : (n : ℕ) → (n ≤ 3) ⊎ (4 ≤ n)
          few n = grind arith

          small : x + 1 ≤ y → 3 * x + 1 ≤ 3 * y + 8 * (n - 3)
          small u = omega arith

          large : 4 ≤ n → 3 * x + 1 ≤ 3 * y + 8 * (n - 3)
          large u = omega (arith, f, l)
