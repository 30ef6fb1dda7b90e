-- What whole calls keep and leave, part by part.
use Rattle.std.proofs.Common.{◌≡◌, ℕ, ◌+◌, ◌<◌, ◌≤◌, Bool, List, [], ◌∷◌, map, Option, Some, None, option_map, Result, Ok, Err, IfOk, IfErr, OnOk, sym, ap, ◌∙◌, subst, inl, inr, arith}
use Rattle.std.specs.Prelude.{is_none, is_some}
use Rattle.sled_nodes.specs.Order.{Key}
use Rattle.sled_batch.specs.Batch.{Writes}
use Rattle.sled_store.specs.In.{In}
use Rattle.sled_store.specs.Store.{Store}
use Rattle.sled_store.specs.theory.Facts.{put_here, put_elsewhere, put_name_here, put_name_elsewhere}
use Rattle.sled_nodes.specs.declared.error.Error.{Error}
use Rattle.sled_model.specs.Maps.{Maps, Merge}
use Rattle.sled_model.specs.State.{State, NamedTree, Queue, maps_of}
use Rattle.sled_model.specs.Backlog.{no_backlog}
use Rattle.sled_model.specs.Queues.{without_next}
use Rattle.sled_model.specs.Transition.{RefusesAtOnce}
use Rattle.sled_model.specs.Whole.{SetsOperator, OpensTree, DropsTreeOf, maps_if}
use Rattle.sled_model.specs.declared.call.Whole.{Whole}
use Rattle.sled_model.specs.declared.event.Next as event
use Rattle.sled_model.specs.declared.call.Whole.TheVariants.{OpenTree, DropTree}
use Rattle.sled_model.specs.declared.reply.Reply.TheVariants.{Flag}
use Rattle.sled_model.specs.declared.reply.Reply.TheVariants as told
use Rattle.sled_model.specs.declared.tree.Tree.{Tree}
use Rattle.sled_model.proofs.Shapes.{next_in}
use Rattle.tree_laws.specs.Contents.{trees_of}
use Rattle.sled.specs.Values.{DbValue, db_state}
use Rattle.sled.specs.Direct.{LeavesAll, WholeDecided, WholeRefused, lost_of}
use Rattle.sled.specs.Drops.{DropsTree, RefusesDrop}
use Rattle.sled.specs.Flush.{FlushesDb, RefusesFlush}
use Rattle.sled.specs.Groups.{GroupDecided, GroupRefused}
use Rattle.sled.specs.Ids.{GivesId, RefusesId}
use Rattle.sled.specs.Operators.{OperatorSet, operator_of, operator_at, KeepsOperators}
use Rattle.sled.specs.Promises.{RefusesCall}
use Rattle.sled.specs.Watch.{WatchesDb, RefusesWatch, TakesFromDb, EndsSubscriber}
use Rattle.sled.specs.Wholes.{KeepsMaps, KeepsOthers, queue_in, RefusesGroup, LeavesAfter, leaves_whole_as, leaves_flushed_as}
use Rattle.sled.proofs.Flushing.{stays_state}
use Rattle.sled.proofs.Removing.{drop_decided, drop_refused}
use Rattle.sled.proofs.Resting.{Rests, rests_only_faults, rests_now, rests_left, flushed_now}

module _ {P M : Type 0} (store : P → Store) (meant : M → Merge) (old new : DbValue P M) where
  kept : db_state store meant new ≡ db_state store meant old → KeepsMaps store meant old new
  kept same = ap maps_of same

  -- ---- a flush

  pub flush_rests : (e : Error) → RefusesFlush store meant old new e → Rests (store old.pages) (store new.pages)
  flush_rests e r = rests_only_faults e (store old.pages) (store new.pages) r.is

  pub flush_keeps : (flush_number : P → ℕ) (r : Result ℕ Error) → IfOk r (λ number. FlushesDb store flush_number meant old number new) → IfErr r (RefusesFlush store meant old new) → KeepsMaps store meant old new
  flush_keeps flush_number (Ok number) d r = kept (stays_state store meant old new d.same (flushed_now d.is) (λ n. None) 0)
  flush_keeps flush_number (Err e) d r = kept (stays_state store meant old new r.same (rests_now (flush_rests e r)) (λ n. None) 0)

  pub flush_leaves : (flush_number : P → ℕ) (r : Result ℕ Error) → IfOk r (λ number. FlushesDb store flush_number meant old number new) → IfErr r (RefusesFlush store meant old new) → leaves_flushed_as store meant r old new
  flush_leaves flush_number (Ok number) d r = ap (map trees_of) d.left ∙ ap (λ m. m ∷ []) d.maps
  flush_leaves flush_number (Err e) d r = rests_left (flush_rests e r)

  -- ---- ids

  pub id_rises : (id : ℕ) → GivesId store meant old id new → (old.greatest_id < id) × (id ≤ (store new.pages).mark)
  id_rises id g = (subst (λ n. old.greatest_id < n) (sym g.next) (above old.greatest_id), g.aside)
    where
      above : (n : ℕ) → n < n + 1
      above n = omega arith

  pub id_keeps : (id : ℕ) → GivesId store meant old id new → KeepsMaps store meant old new × (new.queues ≡ old.queues)
  id_keeps id g = (ap maps_of (g.state (λ n. None) 0), ap (λ (d : DbValue P M). d.queues) g.same)

  pub id_not_keeps : (e : Error) → RefusesId store meant old e new → KeepsMaps store meant old new × (new.queues ≡ old.queues)
  id_not_keeps e r = (kept (r.state (λ n. None) 0), ap (λ (d : DbValue P M). d.queues) r.same)

  -- ---- subscribers

  pub watch_keeps : (tree : Tree) (prefix : Key) (r : Result ℕ Error) → IfOk r (λ n. WatchesDb store meant old tree prefix n new) → IfErr r (λ e. RefusesWatch store meant old tree prefix e new) → KeepsMaps store meant old new
  watch_keeps tree prefix (Ok n) w r = ap maps_of (w.watches (λ n. None) 0).is
  watch_keeps tree prefix (Err e) w r = ap (λ (d : DbValue P M). maps_of (db_state store meant d)) r.is

  abbrev watcher : Tree → Key → Queue
  watcher tree prefix = record { tree = tree.number; prefix = prefix; backlog = no_backlog }

  pub watch_queue : (tree : Tree) (prefix : Key) (r : Result ℕ Error) → IfOk r (λ n. WatchesDb store meant old tree prefix n new) → IfOk r (λ n. queue_in store meant new n ≡ Some (watcher tree prefix))
  watch_queue tree prefix (Ok n) w = ap (λ (s : State). s.queues n) (w.watches (λ n. None) 0).is ∙ put_here (db_state store meant old).queues n (Some (watcher tree prefix))
  watch_queue tree prefix (Err e) w = tt

  pub watch_others : (tree : Tree) (prefix : Key) (r : Result ℕ Error) → IfOk r (λ n. WatchesDb store meant old tree prefix n new) → IfOk r (λ n. KeepsOthers store meant n old new)
  watch_others tree prefix (Ok n) w = λ other off. ap (λ (s : State). s.queues other) (w.watches (λ n. None) 0).is ∙ put_elsewhere (db_state store meant old).queues n other (Some (watcher tree prefix)) off
  watch_others tree prefix (Err e) w = tt

  module _ (n : ℕ) (next : Option event.Next) (t : TakesFromDb store meant old n next new) where
    pub next_keeps : KeepsMaps store meant old new
    next_keeps = ap maps_of (t.takes (λ n. None) 0).is

    pub next_gives : next ≡ next_in (queue_in store meant old n)
    next_gives = (t.takes (λ n. None) 0).gives

    pub next_queue : queue_in store meant new n ≡ option_map without_next (queue_in store meant old n)
    next_queue = ap (λ (s : State). s.queues n) (t.takes (λ n. None) 0).is ∙ put_here (db_state store meant old).queues n (option_map without_next (queue_in store meant old n))

    pub next_others : KeepsOthers store meant n old new
    next_others = λ other off. ap (λ (s : State). s.queues other) (t.takes (λ n. None) 0).is ∙ put_elsewhere (db_state store meant old).queues n other (option_map without_next (queue_in store meant old n)) off

  module _ (n : ℕ) (u : EndsSubscriber store meant old n new) where
    pub end_keeps : KeepsMaps store meant old new
    end_keeps = ap maps_of (u.gives_up (λ n. None) 0)

    pub end_queue : queue_in store meant new n ≡ None
    end_queue = ap (λ (s : State). s.queues n) (u.gives_up (λ n. None) 0) ∙ put_here (db_state store meant old).queues n None

    pub end_others : KeepsOthers store meant n old new
    end_others = λ other off. ap (λ (s : State). s.queues other) (u.gives_up (λ n. None) 0) ∙ put_elsewhere (db_state store meant old).queues n other None off

  -- ---- operators

  module _ (tree : Tree) (merge : Merge) where
    module _ (o : OperatorSet store meant old tree merge new) where
      abbrev was : State
      was = db_state store meant old

      abbrev sets : SetsOperator was tree merge (db_state store meant new)
      sets = o.sets (λ n. None) 0

      abbrev operated : Option NamedTree
      operated = Some (record sets.named { merge = Some merge })

      operator_here : operator_at store meant new tree.name ≡ Some merge
      operator_here = ap (λ (s : State). operator_of (s.trees tree.name)) sets.is ∙ ap operator_of (put_name_here was.trees tree.name operated)

      operator_others : KeepsOperators store meant tree.name old new
      operator_others = λ other off. ap (λ (s : State). operator_of (s.trees other)) sets.is ∙ ap operator_of (put_name_elsewhere was.trees tree.name other operated off)

    pub set_here : (r : Result (Unit {0}) Error) → OnOk r (OperatorSet store meant old tree merge new) → OnOk r (operator_at store meant new tree.name ≡ Some merge)
    set_here (Ok done) o = operator_here o
    set_here (Err e) o = tt

    pub set_others : (r : Result (Unit {0}) Error) → OnOk r (OperatorSet store meant old tree merge new) → OnOk r (KeepsOperators store meant tree.name old new)
    set_others (Ok done) o = operator_others o
    set_others (Err e) o = tt

  -- ---- calls that are refused at once

  at_once : (whole : Whole) (e : Error) (maps : List Maps) → RefusesAtOnce (db_state store meant old) (store old.pages) (store new.pages) whole e (db_state store meant new) maps → LeavesAll store maps None old new
      → RefusesCall store meant old whole e new × LeavesAll store [] None old new
  at_once whole e maps r leaves = (record { may = r.0; is = r.1 }, subst (λ m. LeavesAll store m None old new) r.2 leaves)

  -- ---- trees

  open_leaves : (name : Key) (tree : Tree) → WholeDecided store meant old (OpenTree name) (told.Tree tree) new → LeavesAfter store meant None old new
  open_leaves name tree w = record { maps = w.maps; each = λ m i. go m ((db_state store meant old).trees name) (subst (In m) opens.added i); leaves = w.leaves }
    where
      opens : OpensTree (db_state store meant old) name (told.Tree tree) (db_state store meant new) w.maps
      opens = w.decides (λ n. None) 0 0

      go : (m : Maps) (o : Option NamedTree) → In m (maps_if (is_none o) (db_state store meant new)) → m ≡ maps_of (db_state store meant new)
      go m None (inl e) = e
      go m None (inr i) = absurd i
      go m (Some t) i = absurd i

  open_stays : (name : Key) (e : Error) → WholeRefused store meant old (OpenTree name) e new → RefusesCall store meant old (OpenTree name) e new × LeavesAll store [] None old new
  open_stays name e w = at_once (OpenTree name) e w.maps (w.refuses (λ n. None) 0) w.leaves

  pub opened_refuses : (name : Key) (r : Result Tree Error) → IfErr r (λ e. WholeRefused store meant old (OpenTree name) e new) → IfErr r (λ e. RefusesCall store meant old (OpenTree name) e new)
  opened_refuses name (Ok tree) w = tt
  opened_refuses name (Err e) w = (open_stays name e w).0

  pub opened_leaves : (name : Key) (r : Result Tree Error) → IfOk r (λ tree. WholeDecided store meant old (OpenTree name) (told.Tree tree) new) → IfErr r (λ e. WholeRefused store meant old (OpenTree name) e new) → leaves_whole_as store meant r old new
  opened_leaves name (Ok tree) d w = open_leaves name tree d
  opened_leaves name (Err e) d w = (open_stays name e w).1

  pub dropped_leaves : (name : Key) (dropped : Bool) → DropsTree store meant old name dropped new → LeavesAfter store meant (lost_of (DropTree name) (Flag dropped)) old new
  dropped_leaves name dropped d = record { maps = w.maps; each = λ m i. go m ((db_state store meant old).trees name) (subst (In m) drops.added i); leaves = w.leaves }
    where
      w : WholeDecided store meant old (DropTree name) (Flag dropped) new
      w = drop_decided store meant old new name dropped d

      drops : DropsTreeOf (db_state store meant old) name (Flag dropped) (db_state store meant new) w.maps
      drops = w.decides (λ n. None) 0 0

      go : (m : Maps) (o : Option NamedTree) → In m (maps_if (is_some o) (db_state store meant new)) → m ≡ maps_of (db_state store meant new)
      go m (Some t) (inl e) = e
      go m (Some t) (inr i) = absurd i
      go m None i = absurd i

  pub dropped_refuses : (name : Key) (e : Error) → RefusesDrop store meant old name e new → RefusesCall store meant old (DropTree name) e new
  dropped_refuses name e r = let w = drop_refused store meant old new name e r in (at_once (DropTree name) e w.maps (w.refuses (λ n. None) 0) w.leaves).0

  -- ---- groups

  pub group_refuses : (batches : List (Tree × Writes)) {A : Type 0} (r : Result A Error) → IfErr r (λ e. GroupRefused store meant old batches e new) → IfErr r (λ e. RefusesGroup store meant old batches e new)
  group_refuses batches (Ok done) w = tt
  group_refuses batches (Err e) w =
      let s = w.refuses (λ n. None) 0 in record {
        why = s.why;
        is = elim s.is [
          | inl same ↦ inl same
          | inr closed ↦ inr closed.1
        ];
      }

  pub group_leaves : (batches : List (Tree × Writes)) {A : Type 0} (r : Result A Error) → OnOk r (GroupDecided store meant old batches new) → IfErr r (λ e. GroupRefused store meant old batches e new) → leaves_whole_as store meant r old new
  group_leaves batches (Ok done) d w = record { maps = d.maps; each = λ m i. go m (subst (In m) (d.decides (λ n. None) 0).added i); leaves = d.leaves }
    where
      go : (m : Maps) → In m (maps_of (db_state store meant new) ∷ []) → m ≡ maps_of (db_state store meant new)
      go m (inl e) = e
      go m (inr i) = absurd i
  group_leaves batches (Err e) d w = subst (λ m. LeavesAll store m None old new) (w.refuses (λ n. None) 0).added w.leaves
