-- The events of a group.
use Rattle.std.proofs.Common.{◌≡◌, ℕ, Bool, true, false, cond, List, [], ◌∷◌, ◌++◌, append_assoc, append-nil, Option, Some, None, option_map, sym, refl, ap, ◌∙◌, subst, inl, inr}
use Rattle.std.proofs.Math.Path.{fun_ext}
use Rattle.sled_nodes.specs.declared.error.Error.{Error}
use Rattle.sled_nodes.specs.declared.error.Error.TheVariants as error
use Rattle.sled_store.specs.Store.{Store}
use Rattle.sled_model.specs.Answer.{key_of}
use Rattle.sled_model.specs.Event.{key_of_event}
use Rattle.sled_model.specs.declared.call.Call.{Call}
use Rattle.sled_model.specs.declared.call.Call.TheVariants as call
use Rattle.sled_model.specs.declared.event.Event.{Event}
use Rattle.sled_model.specs.declared.event.Event.TheVariants as event
use Rattle.sled_queues.specs.Values.{WaitingValue, QueuesValue, Waitings, queue_at}
use Rattle.sled_queues.specs.Queues.{Becomes, IsCalm, prepared_in, prepared, committed, cancelled}
use Rattle.sled_queues.specs.Laws.{prepared_all}
use Rattle.sled_queues.specs.Tells.{waits_for, IsUnwatched}
use Rattle.sled_queues.proofs.Grouped.{group_law}
use Rattle.tree_groups.specs.declared.key_write.KeyWrite.{KeyWrite}
use Rattle.tree_groups.specs.Groups.{job_of, jobs_of, MakesGroup, LeavesGroup}
use Rattle.sled.specs.theory.Groups.{events_of_call, events_of_jobs, Prepares, StopsPreparing, MakesAll, StopsAll}

prepared_then : (a b : List (ℕ × Event)) (queues : Waitings) → prepared_all (a ++ b) queues ≡ prepared_all b (prepared_all a queues)
prepared_then [] b queues = refl
prepared_then (e ∷ a) b queues = prepared_then a b (prepared e.0 e.1 queues)

-- an event that no queue waits for is prepared nowhere
unwatched : (tree : ℕ) (event : Event) (queues : Waitings) → IsUnwatched tree (key_of_event event) queues → prepared tree event queues ≡ queues
unwatched tree event queues off = fun_ext (λ n. go n (queues n) refl)
  where
    stays : (w : WaitingValue) (b : Bool) → b ≡ false → cond b (record w { coming = w.coming ++ event ∷ [] }) w ≡ w
    stays w true e = absurd (apart e)
      where
        apart : true ≡ false → ⊥
        apart e = cc
    stays w false e = refl

    go : (n : ℕ) (o : Option WaitingValue) → queues n ≡ o → option_map (prepared_in tree event) o ≡ o
    go n None is = refl
    go n (Some w) is = ap Some (stays w (waits_for tree (key_of_event event) w) (off.none n w is))

call_unwatched : (tree : ℕ) (c : Call) (queues : Waitings) → IsUnwatched tree (key_of c) queues → prepared_all (events_of_call tree c) queues ≡ queues
call_unwatched tree (call.Insert key value) queues off = unwatched tree (event.Insert key value) queues off
call_unwatched tree (call.Remove key) queues off = unwatched tree (event.Remove key) queues off
call_unwatched tree c queues off = refl

pub call_untold : (tree : ℕ) (c : Call) (queues : QueuesValue) → IsUnwatched tree (key_of c) (queue_at queues) → Becomes (prepared_all (events_of_call tree c) (queue_at queues)) queues.given queues
call_untold tree c queues off = record { held = sym (call_unwatched tree c (queue_at queues) off); count = refl }

-- the events of the first of these calls are prepared, and those of the others are left
pub record PreparedSoFar (all left : List KeyWrite) (old new : QueuesValue) : Type 0 where
  pub events : List (ℕ × Event)
  pub rest : events_of_jobs (jobs_of all) ≡ events ++ events_of_jobs (jobs_of left)
  pub is : Becomes (prepared_all events (queue_at old)) old.given new

pub prepared_first : (all : List KeyWrite) (old : QueuesValue) → PreparedSoFar all all old old
prepared_first all old = record { events = []; rest = refl; is = record { held = refl; count = refl } }

module _ (all left : List KeyWrite) (old mid : QueuesValue) (k : PreparedSoFar all left old mid) where
  pub prepared_more : (f : KeyWrite) (more : List KeyWrite) → left ≡ f ∷ more → (new : QueuesValue) → Becomes (prepared_all (events_of_call f.tree.now.number (job_of f).call) (queue_at mid)) mid.given new → PreparedSoFar all more old new
  prepared_more f more is new p = record {
    events = k.events ++ events_of_call f.tree.now.number (job_of f).call;
    rest = k.rest ∙ ap (λ l. k.events ++ events_of_jobs (jobs_of l)) is ∙ sym (append_assoc k.events (events_of_call f.tree.now.number (job_of f).call) (events_of_jobs (jobs_of more)));
    is = record {
      held = p.held ∙ ap (prepared_all (events_of_call f.tree.now.number (job_of f).call)) k.is.held ∙ sym (prepared_then k.events (events_of_call f.tree.now.number (job_of f).call) (queue_at old));
      count = p.count ∙ k.is.count;
    };
  }

  pub prepared_each : left ≡ [] → Prepares (jobs_of all) old mid
  prepared_each none = record {
    is = subst (λ es. Becomes (prepared_all es (queue_at old)) old.given mid) (sym (k.rest ∙ ap (λ l. k.events ++ events_of_jobs (jobs_of l)) none ∙ append-nil k.events)) k.is;
  }

  pub prepared_some : (e : Error) → e ≡ error.NoMemory → (new : QueuesValue) → new ≡ mid → StopsPreparing e old new
  prepared_some e short new same = record { why = short; events = k.events; is = subst (λ q. Becomes (prepared_all k.events (queue_at old)) old.given q) (sym same) k.is }

-- ---- a group over the pages, and its events

module _ (fs : List KeyWrite) (a b : Store) (old : QueuesValue) (calm : IsCalm (queue_at old)) where
  -- what was prepared is gone again
  pub cancelled_again : (mid new : QueuesValue) (events : List (ℕ × Event)) → Becomes (prepared_all events (queue_at old)) old.given mid → Becomes (cancelled (queue_at mid)) mid.given new → Becomes (queue_at old) old.given new
  cancelled_again mid new events p c = record { held = c.held ∙ ap cancelled p.held ∙ (group_law (queue_at old) calm events).undone; count = c.count ∙ p.count }

  pub short_of_memory : (e : Error) (mid new : QueuesValue) → StopsPreparing e old mid → Becomes (cancelled (queue_at mid)) mid.given new → StopsAll fs a a old new e
  short_of_memory e mid new s c = record { is = inl (s.why, refl); tells = cancelled_again mid new s.events s.is c }

  pub left_so : (e : Error) (mid new : QueuesValue) → Prepares (jobs_of fs) old mid → LeavesGroup fs a b e → Becomes (cancelled (queue_at mid)) mid.given new → StopsAll fs a b old new e
  left_so e mid new p l c = record { is = inr l; tells = cancelled_again mid new (events_of_jobs (jobs_of fs)) p.is c }

  pub made_so : (mid new : QueuesValue) → Prepares (jobs_of fs) old mid → MakesGroup fs a b → Becomes (committed (queue_at mid)) mid.given new → MakesAll fs a b old new
  made_so mid new p m c = record { makes = m; tells = record { held = c.held ∙ ap committed p.is.held; count = c.count ∙ p.is.count } }
