-- One step of a call in flight, over the pages and the queues of subscribers.
use Rattle.std.proofs.Common.{◌≡◌, ℕ, Bool, true, false, cond, [], ◌∷◌, ◌++◌, Option, Some, None, option_map, sym, refl, ap, ◌∙◌, subst}
use Rattle.std.proofs.Math.Path.{fun_ext}
use Rattle.sled_nodes.proofs.Basics.{none_some, some_is}
use Rattle.sled_nodes.specs.Order.{Key}
use Rattle.sled_store.specs.Store.{Store}
use Rattle.sled_nodes.specs.declared.error.Error.{Error}
use Rattle.sled_nodes.specs.declared.error.Error.TheVariants as error
use Rattle.sled_store.specs.declared.page.View.{View}
use Rattle.sled_model.specs.Event.{key_of_event}
use Rattle.sled_model.specs.Maps.{Merge}
use Rattle.sled_model.specs.Backlog.{come_all}
use Rattle.sled_model.specs.Answer.{event_of, key_of}
use Rattle.sled_model.specs.declared.decision.Effect.{Effect}
use Rattle.sled_model.specs.declared.decision.Effect.TheVariants as effect
use Rattle.sled_model.specs.declared.event.Event.{Event}
use Rattle.sled_model.specs.declared.reply.Reply.{Reply}
use Rattle.sled_queues.specs.Values.{WaitingValue, QueuesValue, queue_at}
use Rattle.sled_queues.specs.Queues.{Becomes, IsCalm, prepared_in, prepared, committed_in, committed, cancelled}
use Rattle.sled_queues.specs.Tells.{waits_for, is_watched_as, IsUnwatched}
use Rattle.sled_queues.proofs.Lawful.{cancels_law}
use Rattle.tree_laws.specs.declared.flight.Stage.{Stage}
use Rattle.tree_laws.specs.declared.flight.Stage.TheVariants as stage
use Rattle.sled_tree.specs.Change.{decision_at}
use Rattle.sled_tree.specs.theory.Change.{IsOfPair, event_of_link}
use Rattle.sled_tree.specs.theory.Linking.{IsAtLink, PreparesChange, StepsBy, LinksPrepared}
use Rattle.sled_tree.specs.declared.act.Change.{Change}
use Rattle.sled_tree.specs.declared.flight.InFlight.{InFlight}
use Rattle.sled_tree.specs.declared.flight.Went.{Went}
use Rattle.sled_tree.specs.declared.flight.Went.TheVariants.{Moved, Yielded, Decided, Refused}
use Rattle.sled_tree.proofs.Linking.{leaf_of, unprepared, change_pair, change_event}
use Rattle.tree_steps.specs.theory.Watched.{told, told_by, tells_as, links_watched_as, AdvancesOver}

-- queues that stay as they are
pub same_queues : (old new : QueuesValue) → new ≡ old → Becomes (queue_at old) old.given new
same_queues old new e = record { held = ap queue_at e; count = ap (λ (q : QueuesValue). q.given) e }

-- the event of an effect is one of its key
event_key : (e : Effect) (key : Key) (event : Event) → event_of e key ≡ Some event → key_of_event event ≡ key
event_key effect.Nothing key event is = none_some is
event_key (effect.Set v) key event is = ap key_of_event (sym (some_is is))
event_key effect.Remove key event is = ap key_of_event (sym (some_is is))

-- ---- a call that is to link its change

-- what was prepared sets a pair or takes one out
pub of_pair : (operator : Option Merge) (f : InFlight) → IsAtLink f.stage → (change : Change) → PreparesChange operator f (Some change) → IsOfPair change.link
of_pair operator f at_link change p =
    let leaf = leaf_of f.stage at_link in
    change_pair operator f.job.call leaf.0.node.content change (p.is leaf.0 leaf.1)

module _ (operator : Option Merge) (a : Store) (f : InFlight) (at_link : IsAtLink f.stage) where
  abbrev view : View
  view = (leaf_of f.stage at_link).0

  is_at : f.stage ≡ stage.Act view
  is_at = (leaf_of f.stage at_link).1

  -- there is no memory
  pub short : (e : Error) → e ≡ error.NoMemory → (old new : QueuesValue) → new ≡ old → AdvancesOver operator a old f (Refused e) a new f
  short e none old new same = record {
    steps = unprepared operator a f view is_at e f none;
    tells = same_queues old new same;
  }

  -- its event is prepared
  module _ (change : Change) (p : PreparesChange operator f (Some change)) (event : Event) (brings : event_of_link change.link ≡ Some event) (old mid : QueuesValue) (ready : Becomes (prepared f.job.tree.number event (queue_at old)) old.given mid) where
    tells_event : event_of (decision_at operator f.job.call view.node.content).effect (key_of f.job.call) ≡ Some event
    tells_event = sym (change_event operator f.job.call view.node.content change (p.is view is_at)) ∙ brings

    pub linked : (b : Store) (g : InFlight) (reply : Reply) (went : Went) → went ≡ Decided reply → LinksPrepared change a f went b g → (new : QueuesValue) → Becomes (committed (queue_at mid)) mid.given new → AdvancesOver operator a old f (Decided reply) b new g
    linked b g reply went is links new commits = record {
      steps = subst (λ w. StepsBy operator a f w b g) is (links.is operator p);
      tells = subst (λ s. told_by operator f s old new) (sym is_at) (subst (λ o. told f.job.tree.number o old new) (sym tells_event) (record { held = commits.held ∙ ap committed ready.held; count = commits.count ∙ ready.count }));
    }

    pub unlinked : IsCalm (queue_at old) → (b : Store) (g : InFlight) (went : Went) → ((reply : Reply) → went ≡ Decided reply → ⊥) → LinksPrepared change a f went b g → (new : QueuesValue) → Becomes (cancelled (queue_at mid)) mid.given new → AdvancesOver operator a old f went b new g
    unlinked calm b g went off links new cancels = record { steps = links.is operator p; tells = go went off }
      where
        as_before : Becomes (queue_at old) old.given new
        as_before = record {
          held = cancels.held ∙ ap cancelled ready.held ∙ cancels_law (queue_at old) calm f.job.tree.number event;
          count = cancels.count ∙ ready.count;
        }

        go : (w : Went) → ((reply : Reply) → w ≡ Decided reply → ⊥) → tells_as operator f w old new
        go Moved off = as_before
        go (Yielded key value) off = as_before
        go (Decided reply) off = absurd (off reply refl)
        go (Refused e) off = as_before

-- ---- a call that links nothing, or a change that nobody waits for

-- whether some queue waits for the key of a call that is to link its change
pub links_watched : (queues : QueuesValue) (f : InFlight) → IsAtLink f.stage → (watched : Bool) → is_watched_as f.job.tree.number (key_of f.job.call) (queue_at queues) watched → links_watched_as queues f watched
links_watched queues f at_link true is = at_link
links_watched queues f at_link false is = λ view here. is

-- where nothing is prepared and no queue waits for its key, an event changes nothing
untold : (queues : QueuesValue) → IsCalm (queue_at queues) → (tree : ℕ) (event : Event) → IsUnwatched tree (key_of_event event) (queue_at queues) → queue_at queues ≡ committed (prepared tree event (queue_at queues))
untold queues calm tree event unwatched = fun_ext (λ n. go n (queue_at queues n) refl)
  where
    go : (n : ℕ) (o : Option WaitingValue) → queue_at queues n ≡ o → o ≡ option_map committed_in (option_map (prepared_in tree event) o)
    go n None is = refl
    go n (Some w) is = ap Some (stays (waits_for tree (key_of_event event) w) (unwatched.none n w is))
      where
        stays : (c : Bool) → c ≡ false → w ≡ committed_in (cond c (record w { coming = w.coming ++ event ∷ [] }) w)
        stays c none =
            ap (λ es. record w { coming = es }) (calm.none n w is)
            ∙ sym (ap (λ es. record w { backlog = come_all es w.backlog; coming = [] }) (calm.none n w is))
            ∙ sym (ap (λ b. committed_in (cond b (record w { coming = w.coming ++ event ∷ [] }) w)) none)

module _ (operator : Option Merge) (a b : Store) (f g : InFlight) (queues : QueuesValue) (calm : IsCalm (queue_at queues)) where
  pub alone : links_watched_as queues f false → (went : Went) → StepsBy operator a f went b g → AdvancesOver operator a queues f went b queues g
  alone off went steps = record { steps = steps; tells = tells went }
    where
      any : (o : Option Event) → ((event : Event) → o ≡ Some event → IsUnwatched f.job.tree.number (key_of_event event) (queue_at queues)) → told f.job.tree.number o queues queues
      any None unwatched = same_queues queues queues refl
      any (Some event) unwatched = record { held = untold queues calm f.job.tree.number event (unwatched event refl); count = refl }

      quiet : (s : Stage) → f.stage ≡ s → told_by operator f s queues queues
      quiet (stage.Act view) here =
          any (event_of (decision_at operator f.job.call view.node.content).effect (key_of f.job.call))
          (λ event is. subst (λ k. IsUnwatched f.job.tree.number k (queue_at queues)) (sym (event_key (decision_at operator f.job.call view.node.content).effect (key_of f.job.call) event is)) (off view here))
      quiet other here = same_queues queues queues refl

      tells : (w : Went) → tells_as operator f w queues queues
      tells Moved = same_queues queues queues refl
      tells (Yielded key value) = same_queues queues queues refl
      tells (Decided reply) = quiet f.stage refl
      tells (Refused e) = same_queues queues queues refl
