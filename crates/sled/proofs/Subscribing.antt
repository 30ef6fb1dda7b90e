-- Subscribers of trees.
use Rattle.std.proofs.Common.{◌≡◌, ℕ, ◌+◌, not, Bool, true, false, cond, nat_eq, [], ◌∷◌, Option, Some, None, option_map, Result, Ok, Err, OnErr, IfOk, refl, sym, ap, ◌∙◌, subst}
use Rattle.std.proofs.Math.Path.{fun_ext}
use Rattle.std.specs.FinMap.Entries.{find}
use Rattle.std.specs.Ordering.{nat_cmp}
use Rattle.sled_nodes.specs.Order.{Key}
use Rattle.sled_store.specs.Update.{put_at}
use Rattle.sled_store.specs.Store.{Store, now}
use Rattle.sled_nodes.specs.declared.error.Error.{Error}
use Rattle.sled_nodes.specs.declared.error.Error.TheVariants as error
use Rattle.sled_model.specs.Maps.{Merge}
use Rattle.sled_model.specs.State.{Queue, CallInFlight}
use Rattle.sled_model.specs.Backlog.{no_backlog}
use Rattle.sled_model.specs.Queues.{without_next}
use Rattle.sled_model.specs.Refusal.{MustRefuse, must_refuse, must_refuse_of, ToCall, may_refuse_as, cause_of, cause_of_numbering}
use Rattle.sled_model.specs.declared.call.Whole.TheVariants.{Watch, Next, Unsubscribe}
use Rattle.sled_model.specs.declared.event.Next as event
use Rattle.sled_model.specs.declared.reply.Reply.TheVariants as reply
use Rattle.sled_model.specs.declared.tree.Tree.{Tree}
use Rattle.sled_model.proofs.Shapes.{next_in}
use Rattle.sled_queues.specs.Values.{WaitingValue, QueuesValue, Waitings, queue_at}
use Rattle.sled_queues.specs.Queues.{IsCalm, Becomes, queues_of, with_subscriber, next_at, taken_in, without_next_of, without_subscriber}
use Rattle.sled_queues.specs.Laws.{ServesLaw}
use Rattle.sled_queues.proofs.Grouped.{calm_law}
use Rattle.sled_queues.proofs.Shapes.{queue_of}
use Rattle.sled_tree.specs.Known.{IsKnown}
use Rattle.tree_laws.specs.Contents.{trees_of}
use Rattle.tree_laws.specs.Crashes.{AddsCrashStates}
use Rattle.tree_laws.specs.Snapshot.{Snapshot}
use Rattle.tree_laws.proofs.Crashing.{extends_same}
use Rattle.sled.specs.Direct.{KeepsOrFreesTreePages, LeavesAll, WholeDecided, WholeRefused}
use Rattle.sled.specs.Values.{DbValue, numbers_of, named, state_of, db_state, snapshot_of_db}
use Rattle.sled.specs.Sound.{IsDb}
use Rattle.sled.specs.Watch.{WatchesDb, RefusesWatch, TakesFromDb, EndsSubscriber}
use Rattle.sled.proofs.Conducting.{loses_same}
use Rattle.sled.proofs.Testing.{first_alone}

-- ---- the queues of the model

put_mapped : (f : Waitings) (n : ℕ) (o : Option WaitingValue) → queues_of (put_at f n o) ≡ put_at (queues_of f) n (option_map queue_of o)
put_mapped f n o = fun_ext (λ m. go m (nat_eq m n))
  where
    go : (m : ℕ) (b : Bool) → option_map queue_of (cond b o (f m)) ≡ cond b (option_map queue_of o) (option_map queue_of (f m))
    go m true = refl
    go m false = refl

taken_mapped : (o : Option WaitingValue) → option_map queue_of (option_map taken_in o) ≡ option_map without_next (option_map queue_of o)
taken_mapped None = refl
taken_mapped (Some w) = refl

next_mapped : (o : Option WaitingValue) → next_at o ≡ next_in (option_map queue_of o)
next_mapped None = refl
next_mapped (Some w) = refl

serves_law : ServesLaw
serves_law queues = record {
  watches = λ n tree prefix. put_mapped queues n (Some (record { tree = tree; prefix = prefix; backlog = no_backlog; coming = [] }));
  gives = λ n. next_mapped (queues n);
  takes = λ n. put_mapped queues n (option_map taken_in (queues n)) ∙ ap (put_at (queues_of queues) n) (taken_mapped (queues n));
  gives_up = λ n. put_mapped queues n None;
}

-- ---- the database, of which the queues change

module _ (old new : QueuesValue) (calm : IsCalm (queue_at old)) (n : ℕ) where
  watched_calm : (tree : ℕ) (prefix : Key) (given : ℕ) → Becomes (with_subscriber n tree prefix (queue_at old)) given new → IsCalm (queue_at new)
  watched_calm tree prefix given becomes = subst IsCalm (sym becomes.held) ((calm_law (queue_at old) calm).watches n tree prefix)

  taken_calm : (given : ℕ) → Becomes (without_next_of n (queue_at old)) given new → IsCalm (queue_at new)
  taken_calm given becomes = subst IsCalm (sym becomes.held) ((calm_law (queue_at old) calm).takes n)

  ended_calm : (given : ℕ) → Becomes (without_subscriber n (queue_at old)) given new → IsCalm (queue_at new)
  ended_calm given becomes = subst IsCalm (sym becomes.held) ((calm_law (queue_at old) calm).gives_up n)

told_db : {P M : Type 0} (store : P → Store) (old : DbValue P M) (new : QueuesValue) → IsCalm (queue_at new) → IsDb store old → IsDb store (record old { queues = new })
told_db store old new calm db = record { forest = db.forest; is = db.is; sized = db.sized; safe = db.safe; ascends = db.ascends; default = db.default; ungiven = db.ungiven; calm = calm; ids = db.ids }

module _ {P M : Type 0} (store : P → Store) (meant : M → Merge) (old : DbValue P M) (new : QueuesValue) where
  abbrev after : DbValue P M
  after = record old { queues = new }

  -- the state with these queues, and so many subscribers
  told_state : (queues : ℕ → Option Queue) (n : ℕ) → queues_of (queue_at new) ≡ queues → new.given ≡ n → (slots : ℕ → Option CallInFlight) (given : ℕ)
      → state_of store meant after slots given ≡ record (state_of store meant old slots given) { queues = queues; subscribers_given = n }
  told_state queues n held count slots given = λ i. record {
    name = old.name;
    trees = λ t. named (numbers_of old.trees t) (trees_of (now (store old.pages)) t) (λ n. option_map meant (find nat_cmp n old.operators));
    queues = held i;
    slots = slots;
    is_open = not (now (store old.pages)).in_group;
    greatest_id = old.greatest_id;
    mark = (store old.pages).mark;
    trees_given = old.trees_given;
    slots_given = given;
    subscribers_given = count i;
  }

  watches : (tree : Tree) (prefix : Key) (n : ℕ) → must_refuse_of (db_state store meant old) (tree ∷ []) ≡ None → n ≡ old.queues.given + 1 → queue_at old.queues n ≡ None
      → Becomes (with_subscriber n tree.number prefix (queue_at old.queues)) n new → WatchesDb store meant old tree prefix n after
  watches tree prefix n must next fresh becomes = record {
    watches = λ slots given. record {
      free = first_alone (must_refuse_of (db_state store meant old) (tree ∷ [])) ∙ must;
      next = next;
      fresh = ap (option_map queue_of) fresh;
      is = told_state _ n (ap queues_of becomes.held ∙ (serves_law (queue_at old.queues)).watches n tree.number prefix) becomes.count slots given;
    };
    same = refl;
    sound = λ db. told_db store old new (watched_calm old.queues new db.calm n tree.number prefix n becomes) db;
  }

  takes : (n : ℕ) (next : Option event.Next) → next ≡ next_at (queue_at old.queues n) → Becomes (without_next_of n (queue_at old.queues)) old.queues.given new → TakesFromDb store meant old n next after
  takes n next is becomes = record {
    takes = λ slots given. record {
      gives = is ∙ (serves_law (queue_at old.queues)).gives n;
      is = told_state _ old.queues.given (ap queues_of becomes.held ∙ (serves_law (queue_at old.queues)).takes n) becomes.count slots given;
    };
    same = refl;
    sound = λ db. told_db store old new (taken_calm old.queues new db.calm n old.queues.given becomes) db;
  }

  ends : (n : ℕ) → Becomes (without_subscriber n (queue_at old.queues)) old.queues.given new → EndsSubscriber store meant old n after
  ends n becomes = record {
    gives_up = λ slots given. told_state _ old.queues.given (ap queues_of becomes.held ∙ (serves_law (queue_at old.queues)).gives_up n) becomes.count slots given;
    same = refl;
    sound = λ db. told_db store old new (ended_calm old.queues new db.calm n old.queues.given becomes) db;
  }

-- ---- the same, where a method knows the database by its fields

module _ {P M : Type 0} (store : P → Store) (meant : M → Merge) (inside old : DbValue P M) (e : inside ≡ old) where
  pub watched_told : (tree : Tree) (prefix copy : Key) (r : Result ℕ Error) (new : QueuesValue) → copy ≡ prefix → must_refuse_of (db_state store meant old) (tree ∷ []) ≡ None
      → IfOk r (λ n. n ≡ inside.queues.given + 1) → IfOk r (λ n. queue_at inside.queues n ≡ None) → IfOk r (λ n. Becomes (with_subscriber n tree.number copy (queue_at inside.queues)) n new)
      → IfOk r (λ n. WatchesDb store meant old tree prefix n (record inside { queues = new }))
  watched_told tree prefix copy (Ok n) new same must next fresh becomes = subst (λ z. WatchesDb store meant z tree prefix n (record inside { queues = new })) e
      (watches store meant inside new tree prefix n (subst (λ z. must_refuse_of (db_state store meant z) (tree ∷ []) ≡ None) (sym e) must) next fresh (subst (λ z. Becomes (with_subscriber n tree.number z (queue_at inside.queues)) n new) same becomes))
  watched_told tree prefix copy (Err x) new same must next fresh becomes = tt

  pub takes_told : (n : ℕ) (next : Option event.Next) (new : QueuesValue) → next ≡ next_at (queue_at inside.queues n) → Becomes (without_next_of n (queue_at inside.queues)) inside.queues.given new → TakesFromDb store meant old n next (record inside { queues = new })
  takes_told n next new is becomes = subst (λ z. TakesFromDb store meant z n next (record inside { queues = new })) e (takes store meant inside new n next is becomes)

  pub ends_told : (n : ℕ) (new : QueuesValue) → Becomes (without_subscriber n (queue_at inside.queues)) inside.queues.given new → EndsSubscriber store meant old n (record inside { queues = new })
  ends_told n new becomes = subst (λ z. EndsSubscriber store meant z n (record inside { queues = new })) e (ends store meant inside new n becomes)

-- .. and what holds of it
module _ {P M : Type 0} (store : P → Store) (inside : DbValue P M) (db : IsDb store inside) (new : QueuesValue) where
  pub watched_db : (tree : ℕ) (prefix : Key) (r : Result ℕ Error) → IfOk r (λ n. Becomes (with_subscriber n tree prefix (queue_at inside.queues)) n new) → OnErr r (new ≡ inside.queues) → IsDb store (record inside { queues = new })
  watched_db tree prefix (Ok n) becomes same = told_db store inside new (watched_calm inside.queues new db.calm n tree prefix n becomes) db
  watched_db tree prefix (Err x) becomes same = subst (λ z. IsDb store (record inside { queues = z })) (sym same) db

  pub taken_db : (n : ℕ) → Becomes (without_next_of n (queue_at inside.queues)) inside.queues.given new → IsDb store (record inside { queues = new })
  taken_db n becomes = told_db store inside new (taken_calm inside.queues new db.calm n inside.queues.given becomes) db

  pub ended_db : (n : ℕ) → Becomes (without_subscriber n (queue_at inside.queues)) inside.queues.given new → IsDb store (record inside { queues = new })
  ended_db n becomes = told_db store inside new (ended_calm inside.queues new db.calm n inside.queues.given becomes) db

-- ---- the same as whole calls

-- a database of which at most the queues changed is left as it was
module _ {P M : Type 0} (store : P → Store) (old new : DbValue P M) (same : new ≡ record old { queues = new.queues }) where
  store_same : store new.pages ≡ store old.pages
  store_same = ap (λ (d : DbValue P M). store d.pages) same

  moment_same : snapshot_of_db store new ≡ snapshot_of_db store old
  moment_same = ap (snapshot_of_db store) same

  leaves_pages : (IsDb store old → IsDb store new) → LeavesAll store [] None old new
  leaves_pages sound = record {
    extends = subst (AddsCrashStates [] (store old.pages)) (sym store_same) (extends_same (store old.pages));
    others = λ h known. subst (λ (z : Snapshot). IsKnown z h) (sym moment_same) known;
    loses = subst (λ (z : Snapshot). KeepsOrFreesTreePages None (snapshot_of_db store old) z) (sym moment_same) (loses_same (snapshot_of_db store old));
    sound = sound;
  }

module _ {P M : Type 0} (store : P → Store) (meant : M → Merge) (old new : DbValue P M) where
  pub watch_decided : (tree : Tree) (prefix : Key) (number : ℕ) → WatchesDb store meant old tree prefix number new → WholeDecided store meant old (Watch tree prefix) (reply.Subscriber number) new
  watch_decided tree prefix number w = record {
    maps = [];
    decides = λ slots given n. (number, refl, w.watches slots given, refl);
    acts = store_same store old new w.same;
    leaves = leaves_pages store old new w.same w.sound;
    same = w.same;
  }

  pub next_decided : (subscriber : ℕ) (next : Option event.Next) → TakesFromDb store meant old subscriber next new → WholeDecided store meant old (Next subscriber) (reply.Next next) new
  next_decided subscriber next t = record {
    maps = [];
    decides = λ slots given n. (next, refl, t.takes slots given, refl);
    acts = store_same store old new t.same;
    leaves = leaves_pages store old new t.same t.sound;
    same = t.same;
  }

  pub unsubscribe_decided : (subscriber : ℕ) → EndsSubscriber store meant old subscriber new → WholeDecided store meant old (Unsubscribe subscriber) reply.Done new
  unsubscribe_decided subscriber u = record {
    maps = [];
    decides = λ slots given n. (refl, u.gives_up slots given, refl);
    acts = store_same store old new u.same;
    leaves = leaves_pages store old new u.same u.sound;
    same = u.same;
  }

  pub watch_refused : (tree : Tree) (prefix : Key) (e : Error) → RefusesWatch store meant old tree prefix e new → WholeRefused store meant old (Watch tree prefix) e new
  watch_refused tree prefix e r = subst (WholeRefused store meant old (Watch tree prefix) e) (sym r.is) (record {
    maps = [];
    refuses = λ slots given. (record { is = whatever slots given (must_refuse (db_state store meant old) (ToCall (Watch tree prefix))) r.may.is }, refl, refl);
    acts = refl;
    leaves = leaves_pages store old old refl (λ db. db);
    same = refl;
    tested = λ must. refl;
  })
    where
      -- the cause is the same whatever calls are in flight
      whatever : (slots : ℕ → Option CallInFlight) (given : ℕ) (o : Option MustRefuse) → may_refuse_as o (cause_of (db_state store meant old) (store old.pages) (store old.pages) (ToCall (Watch tree prefix))) e
          → may_refuse_as o (cause_of (state_of store meant old slots given) (store old.pages) (store old.pages) (ToCall (Watch tree prefix))) e
      whatever slots given (Some must) told = told
      whatever slots given None cause = as_before slots given e cause
        where
          as_before : (slots : ℕ → Option CallInFlight) (given : ℕ) (e : Error) → cause_of_numbering (db_state store meant old).subscribers_given e → cause_of_numbering (state_of store meant old slots given).subscribers_given e
          as_before slots given error.NoMemory k = k
          as_before slots given (error.Unsupported text) k = k
          as_before slots given other k = absurd k
