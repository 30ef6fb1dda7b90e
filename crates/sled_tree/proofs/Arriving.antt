-- What comes after a page was read on the way to the leaf.
use Rattle.std.proofs.Common.{◌≡◌, ◌≢◌, ℕ, ◌≤◌, false, Bool, List, [], Option, Some, None, sym, refl, ap, ◌∙◌, subst, inl, arith}
use Rattle.std.specs.FinMap.Entries.{find}
use Rattle.std.specs.declared.ops.Bound.{Bound}
use Rattle.sled_nodes.specs.Order.{Key, key_cmp}
use Rattle.sled_store.specs.In.{In}
use Rattle.sled_nodes.specs.Among.{IsPointerBefore, IsPointer}
use Rattle.sled_nodes.specs.Node.{pointers, count, value_at}
use Rattle.sled_store.specs.Store.{Store, now, view_of}
use Rattle.sled_nodes.specs.declared.node.Data.{Data}
use Rattle.sled_nodes.specs.declared.node.Data.TheVariants.{Leaf, Index}
use Rattle.sled_store.specs.declared.page.View.{View}
use Rattle.sled_model.specs.State.{IsOnKey}
use Rattle.sled_model.specs.Answer.{decision_of, reply_of_read, read_decides_as, map_after, event_of, key_of}
use Rattle.sled_model.specs.declared.call.Call.{Call}
use Rattle.sled_model.specs.declared.decision.Decision.{Decision}
use Rattle.sled_model.specs.declared.decision.Effect.TheVariants as effect
use Rattle.sled_model.specs.declared.reply.Reply.{Reply}
use Rattle.tree_laws.specs.Forest.{Tree, Forest, contents}
use Rattle.tree_laws.specs.Snapshot.{Snapshot, snapshot_of, nodes_at, HasForest, LiesUnder}
use Rattle.tree_laws.specs.theory.StageLaws.{FollowsOpenPage}
use Rattle.tree_laws.proofs.Staged.{here_law, root_here_law, cursor_here_law}
use Rattle.tree_laws.proofs.Merges.{stood_merges_law}
use Rattle.tree_laws.proofs.Order.{under_covers}
use Rattle.tree_laws.specs.Stages.{parent_of, by_pointer, IsStage, owned}
use Rattle.tree_laws.proofs.Looking.{last_in}
use Rattle.sled_tree.specs.Course.{Course}
use Rattle.tree_laws.specs.declared.flight.Stage.{Stage}
use Rattle.tree_laws.specs.declared.flight.Stage.TheVariants as stage
use Rattle.tree_laws.specs.declared.flight.Posting.TheVariants as posting
use Rattle.sled_tree.specs.declared.flight.Sequel.{Sequel}
use Rattle.sled_tree.specs.declared.flight.Sequel.TheVariants.{Go, Decided}
use Rattle.tree_laws.specs.declared.flight.Walk.{Walk}
use Rattle.tree_laws.specs.declared.flight.Reached.{Reached}
use Rattle.tree_laws.specs.declared.flight.Reached.TheVariants as reached
use Rattle.tree_laws.proofs.Viewed.{viewed}
use Rattle.sled_tree.specs.Change.{reply_at}
use Rattle.sled_tree.specs.theory.Change.{IsLeaf, IsIndex}
use Rattle.sled_tree.specs.Stages.{Knows, changes_at}
use Rattle.sled_tree.specs.theory.StageAction.{StageAction, AfterPage, IsReadPage, owned_next}
use Rattle.sled_tree.specs.Follows.{ResumesMerge, BeginsMerge, resumed, begun, posting_of, OrNoMemory, onward, EndsWithin}
use Rattle.sled_tree.proofs.Facts.{same_here, rests, live_view, leaves_read}
use Rattle.sled_tree.proofs.Replying.{read_law}

pub leaf_is : (d : Data) → IsLeaf d → (es : List (Key × Key)) × (d ≡ Leaf es)
leaf_is (Leaf es) l = (es, refl)
leaf_is (Index es) l = absurd l

pub index_is : (d : Data) → IsIndex d → (es : List (Key × ℕ)) × (d ≡ Index es)
index_is (Leaf es) l = absurd l
index_is (Index es) l = (es, refl)

-- what the call comes to by the value that was read
pub came : (call : Call) (content : Data) (k : Key) (value : Option Key) (reply : Option Reply) → value ≡ value_at content k → k ≡ key_of call → reply ≡ reply_of_read call value → reply_at call content ≡ reply
came call content k value reply v e q = sym (q ∙ ap (reply_of_read call) (v ∙ ap (value_at content) e))

-- the last pointer within the call's aim
pub at_bound : (bound aim : Bound Key) (es : List (Key × ℕ)) (c : ℕ) (first : Bool) → bound ≡ aim → IsPointer bound es c first → IsPointer aim es c first
at_bound bound aim es c first e p = subst (λ z. IsPointer z es c first) e p

module _ (j : Course) (view : View) (by : Reached) where
  -- the call goes on from a stage whose facts the read shows
  pub goes : (a : Stage) → owned a ≡ [] → changes_at j a → ((m : Snapshot) (w : Forest) → HasForest m w → m.numbers j.tree.name ≡ Some j.tree.number → IsReadPage m w j view by → IsStage m w j.tree.name j.tree.number j.aim a) → AfterPage j view by (Go a)
  goes a none changes known = record {
    touches = λ s. inl refl;
    is = λ s numbers given w is named here. (none, ((known (snapshot_of s numbers given) w is named here, changes, here.1), same_here (snapshot_of s numbers given) w));
  }

  module _ (not_merging : view.node.merging ≡ false) (free : view.node.merging_child ≡ None) where
    follows : (m : Snapshot) (w : Forest) → HasForest m w → IsReadPage m w j view by → FollowsOpenPage m w j.tree.name j.tree.number j.aim view by
    follows m w is r = here_law m w is j.tree.name j.tree.number j.aim view by r.0 (record { not_merging = not_merging; free = free })

    pub splits_below : (p : View) → parent_of by ≡ Some p → AfterPage j view by (Go (stage.Split (record { page = view; posting = posting.Parent p })))
    splits_below p e = goes _ refl tt (λ m w is named r. (follows m w is r).splits_below p e)

    pub splits_root : parent_of by ≡ None → AfterPage j view by (Go (stage.Split (record { page = view; posting = posting.Root })))
    splits_root e = goes _ refl tt (λ m w is named r. (follows m w is r).splits_root e)

    pub hoists : (q : ℕ) → parent_of by ≡ None → view.node.hi ≢ [] → view.node.next ≡ Some q → AfterPage j view by (Go (stage.Hoist (record { left = view.pid; at = view.node.hi; right = q })))
    hoists q e bounded next = goes _ refl tt (λ m w is named r. (follows m w is r).hoists q e bounded next)

    pub goes_on : (p : View) (q : ℕ) → parent_of by ≡ Some p → EndsWithin view.node j.aim → view.node.next ≡ Some q → AfterPage j view by (Go (stage.Walk (record { cursor = q; reached = reached.Next p })))
    goes_on p q e behind next = goes _ refl tt (λ m w is named r. (follows m w is r).goes_on p q e behind.0 behind.1 next)

    -- it lies under the aim and has room
    module _ (under : LiesUnder j.aim view.node) (fits : count view.node.content ≤ 16) where
      pub descends : (c : ℕ) (first : Bool) → IsIndex view.node.content → IsPointer j.aim (pointers view.node.content) c first → AfterPage j view by (Go (stage.Walk (record { cursor = c; reached = by_pointer view first })))
      descends c first index k = goes _ refl tt (λ m w is named r.
          let b = index_is view.node.content index in
          let p : IsPointer j.aim b.0 c first = subst (λ d. IsPointer j.aim (pointers d) c first) b.1 k in
          (follows m w is r).descends b.0 p.key c first b.1 under (record { fits = fits }) (last_in p).0 (last_in p).1)

      module _ (leaf : IsLeaf view.node.content) where
        pub acts : reply_at j.call view.node.content ≡ None → AfterPage j view by (Go (stage.Act view))
        acts changes = goes _ refl changes (λ m w is named r. let b = leaf_is view.node.content leaf in ((follows m w is r).acts b.0 b.1 under, record { fits = fits }))

        -- a scan keeps it, to give its pairs
        pub keeps : (IsOnKey j.call → ⊥) → AfterPage j view by (Go (stage.Give (record { leaf = view; given = 0 })))
        keeps scan = goes _ refl scan (λ m w is named r. let b = leaf_is view.node.content leaf in (follows m w is r).acts b.0 b.1 under)

        pub answers : (reply : Reply) → IsOnKey j.call → reply_at j.call view.node.content ≡ Some reply → AfterPage j view by (Decided reply)
        answers reply on_key e = record {
          touches = λ s. inl refl;
          is = λ s numbers given w is named r.
              let m : Snapshot = snapshot_of s numbers given in
              let b = leaf_is view.node.content leaf in
              let all : List (Key × Key) = contents (nodes_at m) w j.tree.name in
              let found : find key_cmp (key_of j.call) all ≡ value_at view.node.content (key_of j.call) = (follows m w is r).answers b.0 (key_of j.call) b.1 (under_covers (key_of j.call) view.node (subst (λ aim. LiesUnder aim view.node) (r.1.key on_key) under)) in (
                refl,
                λ operator any. let d : decision_of operator j.call (find key_cmp (key_of j.call) all) ≡ record { effect = effect.Nothing; reply = reply } = ap (decision_of operator j.call) found ∙ subst (read_decides_as (decision_of operator j.call (value_at view.node.content (key_of j.call)))) e (read_law operator j.call (value_at view.node.content (key_of j.call))) in record {
                  on_key = on_key;
                  replies = sym (ap (λ (z : Decision). z.reply) d);
                  here = sym (ap (λ (z : Decision). map_after z.effect (key_of j.call) all) d);
                  others = λ u off. refl;
                  quiet = λ none. refl;
                  loud = λ some. absurd (some (ap (λ (z : Decision). event_of z.effect (key_of j.call)) d));
                },
              );
        }

-- it was reached by `next`: it is to be posted
pub posts : (j : Course) (view parent : View) → view.node.merging ≡ false → view.node.merging_child ≡ None → AfterPage j view (reached.Next parent) (Go (stage.Post (record { parent = parent; at = view.node.lo; pid = view.pid })))
posts j view parent not_merging free = goes j view (reached.Next parent) _ refl tt (λ m w is named r. (follows j view (reached.Next parent) not_merging free m w is r).posts parent refl)

-- it was reached by a later pointer, and has few entries: a merge begins
pub merges : (j : Course) (view parent : View) (next : Sequel) → view.node.merging ≡ false → view.node.merging_child ≡ None → count view.node.content ≤ 3 → BeginsMerge parent view.pid next → AfterPage j view (reached.LaterPointer parent) next
merges j view parent next not_merging free fits b = subst (AfterPage j view (reached.LaterPointer parent)) (sym b.is) (go b.before b.is_before)
  where
    more : (n : ℕ) → n ≤ 3 → n ≤ 17
    more n h = omega arith

    go : (before : Option ℕ) → IsPointerBefore view.pid (pointers parent.node.content) before → AfterPage j view (reached.LaterPointer parent) (begun parent view.pid before)
    go None none = goes j view (reached.LaterPointer parent) stage.Root refl tt (λ m w is named r. tt)
    go (Some before) b = goes j view (reached.LaterPointer parent) _ refl tt (λ m w is named r. (follows j view (reached.LaterPointer parent) not_merging free m w is r).intends parent before refl (more (count view.node.content) fits) b)

-- where the page has a merging child, that merge goes on
pub helps : (j : Course) (view : View) (by : Reached) (child : ℕ) (next : Sequel) → view.node.merging ≡ false → view.node.merging_child ≡ Some child → ResumesMerge view child next → AfterPage j view by next
helps j view by child next not_merging is_child h = subst (AfterPage j view by) (sym h.is) (go h.before h.is_before)
  where
    go : (before : Option ℕ) → IsPointerBefore child (pointers view.node.content) before → AfterPage j view by (resumed view child before)
    go None none = goes j view by stage.Root refl tt (λ m w is named r. tt)
    go (Some before) b = goes j view by _ refl tt (λ m w is named r. stood_merges_law m w j.tree.name j.tree.number r.0.height view view.node.lo is named r.0.stood r.0.live not_merging child before is_child b)

-- what a read comes to, as a step
pub arrives_moves : (j : Course) (s : Store) (view : View) (by : Reached) (next : Sequel) (a : Stage) → owned a ≡ [] → AfterPage j view by next
    → ((numbers : Tree → Option ℕ) (given : ℕ → Bool) (w : Forest) → HasForest (snapshot_of s numbers given) w → numbers j.tree.name ≡ Some j.tree.number → Knows (snapshot_of s numbers given) w j a → IsReadPage (snapshot_of s numbers given) w j view by)
    → StageAction j s a next s
arrives_moves j s view by next a none t known = record {
  touches = t.touches s;
  is = λ numbers given w is named k. let r = t.is s numbers given w is named (known numbers given w is named k) in (w, rests (owned a) (owned_next next) (snapshot_of s numbers given) w is (λ q i. absurd (subst (In q) r.0 i)), r.1, leaves_read (owned a) next (now s) w none);
}

-- the root was read,
pub root_read : (j : Course) (s : Store) (name : Key) (found : Option ℕ) (root : ℕ) (view : View) (next : Sequel) → name ≡ j.tree.name → found ≡ (now s).roots name → found ≡ Some root → Some view ≡ view_of root ((now s).pages root) → AfterPage j view reached.Root next → StageAction j s stage.Root next s
root_read j s name found root view next called is_found is_some read t = arrives_moves j s view reached.Root next stage.Root refl t
    (λ numbers given w is named k. (root_here_law (snapshot_of s numbers given) w is j.tree.name j.tree.number j.aim view named (ap (now s).roots (sym called) ∙ sym is_found ∙ is_some ∙ ap Some (sym (viewed root ((now s).pages root) view read).0)) (live_view s root view read), k.2))

-- or the cursor of a walk
pub cursor_read : (j : Course) (s : Store) (a : Walk) (view : View) (next : Sequel) → Some view ≡ view_of a.cursor ((now s).pages a.cursor) → AfterPage j view a.reached next → StageAction j s (stage.Walk a) next s
cursor_read j s a view next read t = arrives_moves j s view a.reached next (stage.Walk a) refl t
    (λ numbers given w is named k. (cursor_here_law (snapshot_of s numbers given) w is j.tree.name j.tree.number j.aim a view named k.0 (viewed a.cursor ((now s).pages a.cursor) view read).0 (live_view s a.cursor view read), k.2))

-- what comes of a page by its parent
pub posted_as : (view parent : View) (o : Option View) → o ≡ Some parent → Go (stage.Split (record { page = view; posting = posting.Parent parent })) ≡ Go (stage.Split (record { page = view; posting = posting_of o }))
posted_as view parent o e = ap (λ z. Go (stage.Split (record { page = view; posting = posting_of z }))) (sym e)

pub posted_root : (view : View) (o : Option View) → o ≡ None → Go (stage.Split (record { page = view; posting = posting.Root })) ≡ Go (stage.Split (record { page = view; posting = posting_of o }))
posted_root view o e = ap (λ z. Go (stage.Split (record { page = view; posting = posting_of z }))) (sym e)

pub onward_below : (view parent : View) (q : ℕ) (next : Option ℕ) (o : Option View) → next ≡ Some q → o ≡ Some parent → OrNoMemory (Go (stage.Walk (record { cursor = q; reached = reached.Next parent }))) (onward view next o)
onward_below view parent q next o e g = inl (sym (ap (λ z. onward view z o) e ∙ ap (onward view (Some q)) g))

pub onward_root : (view : View) (q : ℕ) (next : Option ℕ) (o : Option View) → next ≡ Some q → o ≡ None → OrNoMemory (Go (stage.Hoist (record { left = view.pid; at = view.node.hi; right = q }))) (onward view next o)
onward_root view q next o e g = inl (sym (ap (λ z. onward view z o) e ∙ ap (onward view (Some q)) g))
