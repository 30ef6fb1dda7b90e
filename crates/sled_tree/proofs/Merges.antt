-- The steps of a merge.
use Rattle.std.proofs.Common.{◌≡◌, ◌≢◌, ℕ, ◌≤◌, ◌⊎◌, true, false, [], ◌∷◌, Option, Some, None, Ok, Err, sym, refl, ap, ◌∙◌, subst, inl}
use Rattle.sled_nodes.proofs.Basics.{some_is}
use Rattle.sled_nodes.specs.Order.{Key, Below, UpTo}
use Rattle.sled_store.specs.In.{In}
use Rattle.sled_nodes.specs.Halves.{after_receiving}
use Rattle.sled_nodes.specs.Among.{IsPointerBefore}
use Rattle.sled_nodes.specs.Node.{count, after_link, pointers}
use Rattle.sled_store.specs.Store.{Store, now, view_of, Changes}
use Rattle.sled_nodes.specs.declared.node.Node.{Node}
use Rattle.sled_nodes.specs.declared.link.Link.TheVariants.{ParentMergeIntention, ParentMergeConfirm, ChildMergeCap}
use Rattle.sled_store.specs.declared.page.Page.{Page}
use Rattle.sled_store.specs.declared.page.View.{View}
use Rattle.tree_laws.specs.Forest.{Forest, place}
use Rattle.tree_laws.specs.Snapshot.{Snapshot, snapshot_of, HasForest, StoodInChain}
use Rattle.tree_laws.specs.theory.Laws.{after_replacement}
use Rattle.tree_laws.specs.Stages.{IsStage, owned}
use Rattle.tree_laws.specs.theory.StageLaws.{Finds}
use Rattle.tree_laws.proofs.Known.{store_replaced}
use Rattle.tree_laws.proofs.Merges.{stood_merges_law, intend_action, cap_action, seek_law, receive_action, receive_late, confirm_action}
use Rattle.tree_laws.proofs.Merges as law
use Rattle.tree_laws.proofs.Staged.{cap_late}
use Rattle.sled_tree.specs.Course.{Course}
use Rattle.tree_laws.specs.declared.flight.Merge.{Merge}
use Rattle.tree_laws.specs.declared.flight.Cap.{Cap}
use Rattle.tree_laws.specs.declared.flight.Seek.{Seek}
use Rattle.tree_laws.specs.declared.flight.Receive.{Receive}
use Rattle.tree_laws.specs.declared.flight.Confirm.{Confirm}
use Rattle.tree_laws.specs.declared.flight.Posting.TheVariants as posting
use Rattle.tree_laws.specs.declared.flight.Stage.{Stage}
use Rattle.tree_laws.specs.declared.flight.Stage.TheVariants as stage
use Rattle.tree_laws.proofs.Viewed.{viewed}
use Rattle.sled_tree.specs.declared.flight.Sequel.{Sequel}
use Rattle.sled_tree.specs.declared.flight.Sequel.TheVariants as sequel
use Rattle.sled_tree.specs.Stages.{changes_at}
use Rattle.sled_tree.specs.theory.StageAction.{StageAction, AfterRead, IsUnchangedNow, owned_next}
use Rattle.sled_tree.specs.Follows.{ResumesMerge, resumed}
use Rattle.sled_tree.proofs.Facts.{moves_on, once_acts, stays, rests, same_here, live_view, leaves_replaced, leaves_read, rid_of_none}

-- the parent takes the page for its merging child
pub intends : (j : Course) (old new : Store) (a : Merge) (version : ℕ) → Changes (after_link (ParentMergeIntention a.child)) a.parent.pid a.parent.version old new (Ok version)
    → StageAction j old (stage.Intend a) (sequel.Go (stage.Child (record { parent = record { pid = a.parent.pid; version = version; node = record (a.parent.node) { merging_child = Some a.child } }; child = a.child; before = a.before }))) new
intends j old new a version c = moves_on j old new _ _ (once_acts c.is.2) tt (λ numbers gave w is named k.
    let m : Snapshot = snapshot_of old numbers gave in
    let g : Page = record { version = a.parent.version; node = c.is.0 } in
    let n : Page = record { version = version; node = after_link (ParentMergeIntention a.child) a.parent.node } in
    let node : c.is.0 ≡ a.parent.node = k.above.seen.view.speaks g c.is.1 refl in
    let did = intend_action m w j.tree.name j.tree.number j.aim a version c.is.0 is (record { named = named; page = c.is.1 }) c.is.2.fresh k in (
      after_replacement m a.parent.pid n,
      store_replaced numbers gave c.is.2 ∙ ap (λ (z : Node). after_replacement m a.parent.pid (record { version = version; node = after_link (ParentMergeIntention a.child) z })) node,
      did.0,
      did.1,
      leaves_replaced [] [] m a.parent.pid g n did.0 c.is.1 (rid_of_none [] g a.parent.node node k.above.seen.is_open.free) (λ q i. absurd i),
    ))

-- what a read of the page of a stage that owns none comes to, as a step
pub merge_read : (j : Course) (s : Store) (taken : Stage) (pid : ℕ) (view : View) (n : Sequel) → owned taken ≡ [] → Some view ≡ view_of pid ((now s).pages pid) → AfterRead j taken pid view n → StageAction j s taken n s
merge_read j s taken pid view n none read t = record {
  touches = t.touches s;
  is = λ numbers gave w is named k.
      let r = t.is s numbers gave w is named (viewed pid ((now s).pages pid) view read).0 (live_view s pid view read) k in
      (w, rests (owned taken) (owned_next n) (snapshot_of s numbers gave) w is (λ q i. subst (In q) (r.0 ∙ sym none) i), r.1, leaves_read (owned taken) n (now s) w none);
}

-- what comes after the page of a stage was read and leads to a stage
goes : (j : Course) (taken : Stage) (pid : ℕ) (view : View) (b : Stage) → owned b ≡ [] → changes_at j b
    → ((m : Snapshot) (w : Forest) → HasForest m w → m.numbers j.tree.name ≡ Some j.tree.number → view.pid ≡ pid → IsUnchangedNow m view → IsStage m w j.tree.name j.tree.number j.aim taken → IsStage m w j.tree.name j.tree.number j.aim b) → AfterRead j taken pid view (sequel.Go b)
goes j taken pid view b none plain known = record {
  touches = λ s. inl refl;
  is = λ s numbers gave w is named here live k. (none, ((known (snapshot_of s numbers gave) w is named here live k.0, plain, k.2), same_here (snapshot_of s numbers gave) w));
}

-- a page with a merging child was read, whose own merge goes on first
module _ (view : View) (child : ℕ) (not_merging : view.node.merging ≡ false) (is_child : view.node.merging_child ≡ Some child) where
  helps : (j : Course) (taken : Stage) (pid : ℕ) → ((m : Snapshot) (w : Forest) → IsStage m w j.tree.name j.tree.number j.aim taken → (height : ℕ) × (lo : Key) × StoodInChain m w (place j.tree.name height) j.tree.number lo pid)
      → (n : Sequel) → ResumesMerge view child n → AfterRead j taken pid view n
  helps j taken pid stood n h = subst (AfterRead j taken pid view) (sym h.is) (go h.before h.is_before)
    where
      go : (before : Option ℕ) → IsPointerBefore child (pointers view.node.content) before → AfterRead j taken pid view (resumed view child before)
      go None none = goes j taken pid view stage.Root refl tt (λ m w is named here live k. tt)
      go (Some before) b = goes j taken pid view _ refl tt (λ m w is named here live k.
          let at = stood m w k in
          stood_merges_law m w j.tree.name j.tree.number at.0 view at.1 is named (subst (λ p. StoodInChain m w (place j.tree.name at.0) j.tree.number at.1 p) (sym here) at.2) live not_merging child before is_child b)

  pub child_helps : (j : Course) (a : Merge) (n : Sequel) → ResumesMerge view child n → AfterRead j (stage.Child a) a.child view n
  child_helps j a = helps j (stage.Child a) a.child (λ m w k. (k.height, k.merging.lo, k.merging.c_stood))

  pub cursor_helps : (j : Course) (a : Seek) (n : Sequel) → ResumesMerge view child n → AfterRead j (stage.Seek a) a.cursor view n
  cursor_helps j a = helps j (stage.Seek a) a.cursor (λ m w k. (k.height, k.lo, k.stood))

-- the child is merging already, or open
module _ (j : Course) (a : Merge) (view : View) where
  pub child_seeks : view.node.merging ≡ true → AfterRead j (stage.Child a) a.child view (sequel.Go (stage.Seek (record { merge = a; version = view.version; node = view.node; cursor = a.before })))
  child_seeks capped = goes j (stage.Child a) a.child view _ refl tt (λ m w is named here live k. law.child_seeks m w j.tree.name j.tree.number j.aim a view.version view.node named (ap m.state.pages (sym here) ∙ live) capped k)

  pub child_caps : view.node.merging ≡ false → view.node.merging_child ≡ None → AfterRead j (stage.Child a) a.child view (sequel.Go (stage.Cap (record { merge = a; version = view.version; node = view.node })))
  child_caps not_merging free = goes j (stage.Child a) a.child view _ refl tt (λ m w is named here live k. law.child_caps m w j.tree.name j.tree.number j.aim a view.version view.node is named (ap m.state.pages (sym here) ∙ live) (record { not_merging = not_merging; free = free }) k)

-- the child is capped, or was changed, or is gone
pub caps : (j : Course) (old new : Store) (a : Cap) (version : ℕ) → Changes (after_link ChildMergeCap) a.merge.child a.version old new (Ok version)
    → StageAction j old (stage.Cap a) (sequel.Go (stage.Seek (record { merge = a.merge; version = version; node = record (a.node) { merging = true }; cursor = a.merge.before }))) new
caps j old new a version c = moves_on j old new _ _ (once_acts c.is.2) tt (λ numbers gave w is named k.
    let m : Snapshot = snapshot_of old numbers gave in
    let g : Page = record { version = a.version; node = c.is.0 } in
    let n : Page = record { version = version; node = after_link ChildMergeCap a.node } in
    let node : c.is.0 ≡ a.node = k.view.speaks g c.is.1 refl in
    let did = cap_action m w j.tree.name j.tree.number j.aim a version c.is.0 is (record { named = named; page = c.is.1 }) c.is.2.fresh k in (
      after_replacement m a.merge.child n,
      store_replaced numbers gave c.is.2 ∙ ap (λ (z : Node). after_replacement m a.merge.child (record { version = version; node = after_link ChildMergeCap z })) node,
      did.0,
      did.1,
      leaves_replaced [] [] m a.merge.child g n did.0 c.is.1 (rid_of_none [] g a.node node k.is_open.free) (λ q i. absurd i),
    ))

pub cap_stale : (j : Course) (old new : Store) (a : Cap) (present : Option ℕ) → Changes (after_link ChildMergeCap) a.merge.child a.version old new (Err present) → StageAction j old (stage.Cap a) (sequel.Go (stage.Child a.merge)) new
cap_stale j old new a present c = subst (λ (s : Store). StageAction j old (stage.Cap a) (sequel.Go (stage.Child a.merge)) s) (sym c.is.0)
    (stays j old (stage.Cap a) (stage.Child a.merge) (λ q i. i) (λ q i. i) tt (λ m w is named k. cap_late m w j.tree.name j.tree.number j.aim a k))

module _ (j : Course) (a : Seek) (view : View) where
  -- the search begins again
  pub looks_again : AfterRead j (stage.Seek a) a.cursor view (sequel.Go stage.Root)
  looks_again = goes j (stage.Seek a) a.cursor view stage.Root refl tt (λ m w is named here live k. tt)

  module _ (not_merging : view.node.merging ≡ false) (free : view.node.merging_child ≡ None) where
    looks : (b : Stage) → owned b ≡ [] → changes_at j b → ((m : Snapshot) (w : Forest) → Finds m w j.tree.name j.tree.number j.aim a view → IsStage m w j.tree.name j.tree.number j.aim b) → AfterRead j (stage.Seek a) a.cursor view (sequel.Go b)
    looks b none plain known = goes j (stage.Seek a) a.cursor view b none plain (λ m w is named here live k. known m w (seek_law m w j.tree.name j.tree.number j.aim a view is named here live (record { not_merging = not_merging; free = free }) k))

    pub looks_further : (q : ℕ) → view.node.hi ≢ [] → Below view.node.hi a.node.lo → view.node.next ≡ Some q → AfterRead j (stage.Seek a) a.cursor view (sequel.Go (stage.Seek (record { merge = a.merge; version = a.version; node = a.node; cursor = q })))
    looks_further q bounded before next = looks _ refl tt (λ m w f. f.further q bounded before next)

    pub looks_done : (view.node.hi ≡ []) ⊎ UpTo a.node.lo view.node.hi → view.node.next ≢ Some a.merge.child → AfterRead j (stage.Seek a) a.cursor view (sequel.Go (stage.Confirm (record { parent = a.merge.parent; child = a.merge.child; version = a.version })))
    looks_done reaches off = looks _ refl tt (λ m w f. f.done reaches off)

    pub looks_receives : view.node.next ≡ Some a.merge.child → count view.node.content ≤ 16 → AfterRead j (stage.Seek a) a.cursor view (sequel.Go (stage.Receive (record { merge = a.merge; version = a.version; node = a.node; left = view })))
    looks_receives next fits = looks _ refl tt (λ m w f. f.receives next (record { fits = fits }))

    pub looks_splits : AfterRead j (stage.Seek a) a.cursor view (sequel.Go (stage.Split (record { page = view; posting = posting.Nowhere })))
    looks_splits = looks _ refl tt (λ m w f. f.splits)

-- the page before the child receives it, or had changed, or is gone
pub receives : (j : Course) (old new : Store) (a : Receive) (both : Node) (version : ℕ) → both ≡ after_receiving a.left.node a.node → Changes (λ _. both) a.left.pid a.left.version old new (Ok version)
    → StageAction j old (stage.Receive a) (sequel.Go (stage.Confirm (record { parent = a.merge.parent; child = a.merge.child; version = a.version }))) new
receives j old new a both version e c = moves_on j old new _ _ (once_acts c.is.2) tt (λ numbers gave w is named k.
    let m : Snapshot = snapshot_of old numbers gave in
    let g : Page = record { version = a.left.version; node = c.is.0 } in
    let n : Page = record { version = version; node = after_receiving a.left.node a.node } in
    let did = receive_action m w j.tree.name j.tree.number j.aim a version c.is.0 is (record { named = named; page = c.is.1 }) c.is.2.fresh k in (
      after_replacement m a.left.pid n,
      store_replaced numbers gave c.is.2 ∙ ap (λ (z : Node). after_replacement m a.left.pid (record { version = version; node = z })) e,
      did.0,
      did.1,
      leaves_replaced [] [] m a.left.pid g n did.0 c.is.1 (rid_of_none [] g a.left.node (k.seen.view.speaks g c.is.1 refl) k.seen.is_open.free) (λ q i. absurd i),
    ))

pub receive_stale : (j : Course) (old new : Store) (a : Receive) (both : Node) (present : Option ℕ) → Changes (λ _. both) a.left.pid a.left.version old new (Err present)
    → StageAction j old (stage.Receive a) (sequel.Go (stage.Seek (record { merge = a.merge; version = a.version; node = a.node; cursor = a.left.pid }))) new
receive_stale j old new a both present c = subst (λ (s : Store). StageAction j old (stage.Receive a) (sequel.Go (stage.Seek (record { merge = a.merge; version = a.version; node = a.node; cursor = a.left.pid }))) s) (sym c.is.0)
    (stays j old (stage.Receive a) (stage.Seek (record { merge = a.merge; version = a.version; node = a.node; cursor = a.left.pid })) (λ q i. i) (λ q i. i) tt (λ m w is named k. receive_late m w j.tree.name j.tree.number j.aim a k))

-- the pointer to the child goes
pub confirms : (j : Course) (old new : Store) (a : Confirm) (version : ℕ) → Changes (after_link ParentMergeConfirm) a.parent.pid a.parent.version old new (Ok version)
    → StageAction j old (stage.Confirm a) (sequel.Go (stage.Free (record { pid = a.child; version = a.version }))) new
confirms j old new a version c = moves_on j old new _ _ (once_acts c.is.2) tt (λ numbers gave w is named k.
    let m : Snapshot = snapshot_of old numbers gave in
    let g : Page = record { version = a.parent.version; node = c.is.0 } in
    let n : Page = record { version = version; node = after_link ParentMergeConfirm a.parent.node } in
    let node : c.is.0 ≡ a.parent.node = k.merger.view.speaks g c.is.1 refl in
    let did = confirm_action m w j.tree.name j.tree.number j.aim a version c.is.0 is (record { named = named; page = c.is.1 }) c.is.2.fresh k in (
      after_replacement m a.parent.pid n,
      store_replaced numbers gave c.is.2 ∙ ap (λ (z : Node). after_replacement m a.parent.pid (record { version = version; node = after_link ParentMergeConfirm z })) node,
      did.0,
      did.1,
      leaves_replaced [] (a.child ∷ []) m a.parent.pid g n did.0 c.is.1 (λ q child. inl (some_is (sym child ∙ ap (λ (z : Node). z.merging_child) node ∙ k.merger.child))) (λ q i. absurd i),
    ))
