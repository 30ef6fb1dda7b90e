-- The steps of a split and of a hoist, and the freeing of a page.
use Rattle.std.proofs.Common.{◌≡◌, ℕ, ◌≤◌, ◌<◌, ◌^◌, [], ◌∷◌, Option, Some, option_map, Result, Ok, Err, sym, refl, ap, ◌∙◌, subst, inl, inr}
use Rattle.sled_nodes.specs.Order.{Key}
use Rattle.sled_store.specs.In.{In}
use Rattle.sled_store.specs.theory.Facts.{now_allocates, put_here}
use Rattle.sled_nodes.specs.Halves.{left_half, right_half}
use Rattle.sled_nodes.specs.Node.{count}
use Rattle.sled_nodes.specs.Posting.{Posts, with_pointer}
use Rattle.sled_store.specs.State.{State}
use Rattle.sled_store.specs.Store.{Store, now, Allocates, AreGiven, Changes, Frees, SwapsRoot}
use Rattle.sled_nodes.specs.declared.node.Node.{Node}
use Rattle.sled_store.specs.declared.page.Page.{Page}
use Rattle.tree_laws.specs.Forest.{Place}
use Rattle.tree_laws.specs.Snapshot.{Snapshot, snapshot_of}
use Rattle.tree_laws.specs.theory.Laws.{after_replacement, after_allocation, after_free, after_hoist}
use Rattle.tree_laws.specs.Stages.{IsOver, owned}
use Rattle.tree_laws.specs.theory.StageLaws.{posts_half}
use Rattle.tree_laws.specs.declared.flight.Posting.{Posting}
use Rattle.tree_laws.proofs.Known.{store_replaced, store_allocated, store_freed, store_hoisted}
use Rattle.tree_laws.proofs.Splitting.{split_action, shorten_action, post_action, hoist_action, crown_action, free_action}
use Rattle.tree_laws.proofs.Staged.{shorten_late, crown_late}
use Rattle.sled_tree.specs.Course.{Course}
use Rattle.tree_laws.specs.declared.flight.Split.{Split}
use Rattle.tree_laws.specs.declared.flight.InstallLeft.{InstallLeft}
use Rattle.tree_laws.specs.declared.flight.Post.{Post}
use Rattle.tree_laws.specs.declared.flight.Hoist.{Hoist}
use Rattle.tree_laws.specs.declared.flight.SwapRoot.{SwapRoot}
use Rattle.tree_laws.specs.declared.flight.Orphan.{Orphan}
use Rattle.tree_laws.specs.declared.flight.Posting.TheVariants as posting
use Rattle.tree_laws.specs.declared.flight.Stage.TheVariants as stage
use Rattle.sled_tree.specs.declared.flight.Sequel.TheVariants as sequel
use Rattle.sled_tree.specs.Stages.{changes_at}
use Rattle.sled_tree.specs.theory.StageAction.{StageAction}
use Rattle.sled_tree.proofs.Facts.{moves_on, once_made, once_acts, once_freed, once_rooted, stays, restarts, leaves_replaced, leaves_allocated, leaves_hoisted, leaves_freed, rid_of_none}

-- a new page's number fits 64 bits
pub made_below : {node : Node} {q version : ℕ} {old new : Store} → Allocates node q version old new → AreGiven new → q < 2 ^ 64
made_below {node} {q} {version} {old} {new} c given = given.numbered q (record { version = version; node = node }) (ap (λ (s : State). s.pages q) (now_allocates node q version old new c) ∙ put_here (now old).pages q (Some (record { version = version; node = node })))

-- the right half is made
pub halves : (j : Course) (old new : Store) (a : Split) (left right : Node) (at : Key) (q version : ℕ) → 2 ≤ count a.page.node.content → left ≡ left_half a.page.node → right ≡ right_half a.page.node → at ≡ right.lo → Allocates right q version old new → AreGiven new
    → StageAction j old (stage.Split a) (sequel.Go (stage.InstallLeft (record { page = a.page; posting = a.posting; left = record left { next = Some q }; at = at; right = q; version = version }))) new
halves j old new a left right at q version many l r b c given = subst (λ (z : Node). StageAction j old (stage.Split a) (sequel.Go (stage.InstallLeft (record { page = a.page; posting = a.posting; left = record z { next = Some q }; at = at; right = q; version = version }))) new) (sym l)
    (subst (λ z. StageAction j old (stage.Split a) (sequel.Go (stage.InstallLeft (record { page = a.page; posting = a.posting; left = record (left_half a.page.node) { next = Some q }; at = z; right = q; version = version }))) new) (sym (b ∙ ap (λ (z : Node). z.lo) r))
    (made (subst (λ z. Allocates z q version old new) r c)))
  where
    made : Allocates (right_half a.page.node) q version old new
        → StageAction j old (stage.Split a) (sequel.Go (stage.InstallLeft (record { page = a.page; posting = a.posting; left = record (left_half a.page.node) { next = Some q }; at = (right_half a.page.node).lo; right = q; version = version }))) new
    made c = moves_on j old new _ _ (once_made c) tt (λ numbers gave w is named k. let m : Snapshot = snapshot_of old numbers gave in (
      after_allocation m q (record { version = version; node = right_half a.page.node }),
      store_allocated numbers gave c,
      w,
      split_action m w j.tree.name j.tree.number j.aim a q version is c.fresh_pid c.fresh (made_below c given) many k,
      leaves_allocated m w q (record { version = version; node = right_half a.page.node }) w is c.fresh_pid,
    ))

-- the page becomes its left half
module _ (j : Course) (old new : Store) (a : InstallLeft) (version : ℕ) (c : Changes (λ _. a.left) a.page.pid a.page.version old new (Ok version)) where
  plainly : (p : Posting) → changes_at j (posts_half a p)
  plainly (posting.Parent parent) = tt
  plainly posting.Root = tt
  plainly posting.Nowhere = tt

  after_install_left : StageAction j old (stage.InstallLeft a) (sequel.Go (posts_half a a.posting)) new
  after_install_left = moves_on j old new _ _ (once_acts c.is.2) (plainly a.posting) (λ numbers gave w is named k.
      let m : Snapshot = snapshot_of old numbers gave in
      let g : Page = record { version = a.page.version; node = c.is.0 } in
      let did = shorten_action m w j.tree.name j.tree.number j.aim a version c.is.0 is (record { named = named; page = c.is.1 }) c.is.2.fresh k in (
        after_replacement m a.page.pid (record { version = version; node = a.left }),
        store_replaced numbers gave c.is.2,
        did.0,
        did.1,
        leaves_replaced (a.right ∷ []) (owned (posts_half a a.posting)) m a.page.pid g (record { version = version; node = a.left }) did.0 c.is.1
            (rid_of_none (owned (posts_half a a.posting)) g a.page.node (k.seen.view.speaks g c.is.1 refl) k.seen.is_open.free)
            -- the right half stands in the tree
            (λ q i. elim i [ inl e ↦ subst (λ z. (x : Place) × In z (did.0.chain x)) (sym e) did.2 | inr b ↦ absurd b ]),
      ))

  pub shortens : (p : Posting) → a.posting ≡ p → StageAction j old (stage.InstallLeft a) (sequel.Go (posts_half a p)) new
  shortens p e = subst (λ z. StageAction j old (stage.InstallLeft a) (sequel.Go (posts_half a z)) new) e after_install_left

-- the page had changed: the right half is freed
pub shorten_stale : (j : Course) (old new : Store) (a : InstallLeft) (present : Option ℕ) → Changes (λ _. a.left) a.page.pid a.page.version old new (Err present) → StageAction j old (stage.InstallLeft a) (sequel.Go (stage.Free (record { pid = a.right; version = a.version }))) new
shorten_stale j old new a present c = subst (λ (s : Store). StageAction j old (stage.InstallLeft a) (sequel.Go (stage.Free (record { pid = a.right; version = a.version }))) s) (sym c.is.0)
    (stays j old (stage.InstallLeft a) (stage.Free (record { pid = a.right; version = a.version })) (λ q i. i) (λ q i. i) tt (λ m w is named k. shorten_late m w j.tree.name j.tree.number j.aim a k))

-- the pointer goes into the parent, or the parent had changed
pub posted : (j : Course) (old new : Store) (a : Post) (node : Node) (answer : Result ℕ (Option ℕ)) → Posts a.at a.pid a.parent.node node Rattle.std.proofs.Common.true → Changes (λ _. node) a.parent.pid a.parent.version old new answer → StageAction j old (stage.Post a) (sequel.Go stage.Root) new
posted j old new a node (Err present) p c = subst (λ (s : Store). StageAction j old (stage.Post a) (sequel.Go stage.Root) s) (sym c.is.0) (restarts j old (stage.Post a) (λ q i. i))
posted j old new a node (Ok version) p c = moves_on j old new _ _ (once_acts c.is.2) tt (λ numbers gave w is named k.
    let m : Snapshot = snapshot_of old numbers gave in
    let g : Page = record { version = a.parent.version; node = c.is.0 } in
    let n : Page = record { version = version; node = record (a.parent.node) { content = with_pointer a.at a.pid a.parent.node.content } } in
    let did = post_action m w j.tree.name j.tree.number j.aim a version c.is.0 is (record { named = named; page = c.is.1 }) c.is.2.fresh k in (
      after_replacement m a.parent.pid n,
      store_replaced numbers gave c.is.2 ∙ ap (λ (z : Node). after_replacement m a.parent.pid (record { version = version; node = z })) p.is.1,
      did.0,
      did.1,
      leaves_replaced [] [] m a.parent.pid g n did.0 c.is.1 (rid_of_none [] g a.parent.node (k.above.seen.view.speaks g c.is.1 refl) k.above.seen.is_open.free) (λ q i. absurd i),
    ))

-- a new root is made,
pub raises : (j : Course) (old new : Store) (a : Hoist) (root : Node) (q version : ℕ) → IsOver root a.left a.at a.right → Allocates root q version old new → AreGiven new
    → StageAction j old (stage.Hoist a) (sequel.Go (stage.SwapRoot (record { old = a.left; new = q; version = version }))) new
raises j old new a root q version over c given = moves_on j old new _ _ (once_made c) tt (λ numbers gave w is named k. let m : Snapshot = snapshot_of old numbers gave in (
  after_allocation m q (record { version = version; node = root }),
  store_allocated numbers gave c,
  w,
  hoist_action m w j.tree.name j.tree.number j.aim a q version root is c.fresh_pid c.fresh (made_below c given) over k,
  leaves_allocated m w q (record { version = version; node = root }) w is c.fresh_pid,
))

-- and set, or another came before
pub after_swap_root : (j : Course) (old new : Store) (a : SwapRoot) (name : Key) (done : Unit {0}) → name ≡ j.tree.name → SwapsRoot name (Some a.old) (Some a.new) old new (Ok done) → StageAction j old (stage.SwapRoot a) (sequel.Go stage.Root) new
after_swap_root j old new a name done e c = moves_on j old new _ _ (once_rooted name (Some a.new) old new c.is.1) tt (λ numbers gave w is named k.
    let m : Snapshot = snapshot_of old numbers gave in
    let did = crown_action m w j.tree.name j.tree.number j.aim a is named (ap (now old).roots (sym e) ∙ c.is.0) k in (
      after_hoist m j.tree.name a.new,
      store_hoisted numbers gave name a.new old new c.is.1 ∙ ap (λ t. after_hoist m t a.new) e,
      did.0,
      did.1,
      leaves_hoisted m j.tree.name a.new did.0 did.1.acts.is,
    ))

pub crown_stale : (j : Course) (old new : Store) (a : SwapRoot) (name : Key) (present : Option ℕ) → SwapsRoot name (Some a.old) (Some a.new) old new (Err present) → StageAction j old (stage.SwapRoot a) (sequel.Go (stage.Free (record { pid = a.new; version = a.version }))) new
crown_stale j old new a name present c = subst (λ (s : Store). StageAction j old (stage.SwapRoot a) (sequel.Go (stage.Free (record { pid = a.new; version = a.version }))) s) (sym c.is.0)
    (stays j old (stage.SwapRoot a) (stage.Free (record { pid = a.new; version = a.version })) (λ q i. i) (λ q i. i) tt (λ m w is named k. crown_late m w j.tree.name j.tree.number j.aim a k))

-- a page of the call's own is freed
pub freed_own : (j : Course) (old new : Store) (a : Orphan) (answer : Result (Unit {0}) (Option ℕ)) → Frees a.pid a.version old new answer → StageAction j old (stage.Free a) (sequel.Go stage.Root) new
freed_own j old new a (Err present) c = subst (λ (s : Store). StageAction j old (stage.Free a) (sequel.Go stage.Root) s) (sym c.is.0) (record {
  touches = inl refl;
  -- the page has this version, as it is the call's own
  is = λ numbers given w is named k. absurd (c.is.2 (c.is.1 ∙ ap (option_map (λ (g : Page). g.version)) k.0.own.live));
})
freed_own j old new a (Ok done) c = moves_on j old new _ _ (once_freed a.pid old new c.is.1) tt (λ numbers gave w is named k. let m : Snapshot = snapshot_of old numbers gave in (
  after_free m a.pid,
  store_freed numbers gave a.pid old new c.is.1,
  w,
  free_action m w j.tree.name j.tree.number j.aim a is k,
  leaves_freed m a.pid w,
))
