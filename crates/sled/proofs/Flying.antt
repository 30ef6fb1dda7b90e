-- One step of a call in flight.
use Rattle.std.proofs.Common.{◌≡◌, ◌≢◌, ℕ, zero, suc, ◌+◌, ◌-◌, ◌<◌, ◌≤◌, Bool, true, false, not, cond, List, [], ◌∷◌, length, Option, Some, None, option_map, MatchOption, sym, refl, ap, ◌∙◌, subst, inl, inr, arith}
use Rattle.std.specs.FinMap.Entries.{find}
use Rattle.std.specs.Ordering.{nat_cmp}
use Rattle.std.specs.Str.{bytes_eq}
use Rattle.sled_nodes.proofs.Basics.{none_some, some_is}
use Rattle.sled_nodes.specs.Order.{Key}
use Rattle.sled_store.specs.In.{In}
use Rattle.sled_store.specs.Update.{put_at, put_name}
use Rattle.sled_store.specs.Store.{Store, now}
use Rattle.sled_store.specs.declared.page.Page.{Page}
use Rattle.sled_nodes.specs.declared.error.Fault.{Fault}
use Rattle.sled_nodes.specs.declared.error.Error.{Error}
use Rattle.sled_nodes.specs.declared.error.Error.TheVariants as error
use Rattle.sled_model.specs.Maps.{Map, Merge}
use Rattle.sled_nodes.specs.Node.{after_link, value_at}
use Rattle.sled_nodes.specs.declared.link.Link.{Link}
use Rattle.sled_nodes.specs.declared.node.Node.{Node}
use Rattle.sled_store.specs.declared.page.View.{View}
use Rattle.sled_model.specs.Answer.{Answer, answer_of, decision_of, event_of, key_of}
use Rattle.sled_model.specs.Scan.{is_read}
use Rattle.sled_model.specs.State.{State, NamedTree, CallInFlight, range_of, IsOnKey, maps_of, queues_after}
use Rattle.sled_model.specs.Refusal.{MustRefuse, must_refuse, MayRefuse, ToStep, ToPoint, TellsTurns, cause_of, may_refuse_as, turns_limit}
use Rattle.sled_model.specs.declared.event.Event.{Event}
use Rattle.sled_model.specs.declared.reply.Reply.{Reply}
use Rattle.sled_queues.specs.Values.{QueuesValue, queue_at}
use Rattle.sled_queues.specs.Queues.{queues_of, Becomes, IsCalm}
use Rattle.sled_queues.proofs.Lawful.{delivers_law}
use Rattle.sled_model.specs.declared.TheConstants.{MAX_LOOPS}
use Rattle.sled_model.proofs.Shapes.{Reads, after_decision}
use Rattle.tree_laws.specs.Forest.{Tree, Forest, contents}
use Rattle.tree_laws.specs.Contents.{trees_of}
use Rattle.tree_laws.specs.Crashes.{IsValid, IsCrashConsistent, AddsCrashStates}
use Rattle.tree_laws.specs.theory.Crashes.{AddsAction}
use Rattle.tree_laws.specs.Snapshot.{Snapshot, nodes_at, HasForest, IsActing}
use Rattle.tree_laws.specs.theory.Snapshot.{KeepsForest}
use Rattle.tree_laws.proofs.Crashing.{adds_extends, adds_unseen, extends_same, extends_again, valid_law}
use Rattle.tree_laws.proofs.Reading.{one_law}
use Rattle.sled_tree.specs.Course.{Course, course, course_of, IsAimed}
use Rattle.sled_tree.specs.declared.flight.Aim.{Aim}
use Rattle.sled_tree.specs.declared.flight.Job.{Job}
use Rattle.sled_tree.specs.declared.flight.InFlight.{InFlight}
use Rattle.sled_tree.specs.declared.flight.Sequel.TheVariants as sequel
use Rattle.sled_tree.specs.declared.flight.Went.{Went}
use Rattle.sled_tree.specs.declared.flight.Went.TheVariants.{Moved, Yielded, Decided, Refused}
use Rattle.tree_laws.specs.Stages.{owned}
use Rattle.tree_laws.specs.declared.flight.Stage.{Stage}
use Rattle.tree_laws.specs.declared.flight.Stage.TheVariants as stage
use Rattle.tree_laws.proofs.Known.{answers}
use Rattle.sled_tree.specs.Stages.{Knows}
use Rattle.sled_tree.specs.Known.{IsKnown}
use Rattle.sled_tree.specs.Passing.{IsOnPath, StepsOnPath}
use Rattle.sled_tree.specs.Change.{link_of, decision_at}
use Rattle.sled_tree.specs.Follows.{Follows, FollowsOn, TakesWay}
use Rattle.sled_tree.specs.theory.Linking.{StepsBy}
use Rattle.sled_tree.specs.StageAction.{ActsOnce, ActsAtMostOnce, LeaksNoPage}
use Rattle.sled_tree.specs.theory.StageAction.{StageActionBy, KeepsContents, DecidesAs, Only, is_action_refused_as}
use Rattle.sled_tree.proofs.Known.{not_own, known_kept}
use Rattle.sled_tree.proofs.Deciding.{IsReading, decided_law}
use Rattle.sled_tree.proofs.Replying.{links_on_key}
use Rattle.tree_groups.specs.Writes.{PagesLast}
use Rattle.tree_groups.proofs.Writing.{limit_is, page_gone}
use Rattle.tree_scans.specs.Scans.{waiting_of, rest_of, waiting_in, rest_in}
use Rattle.sled.specs.Values.{DbValue, numbers_of, given_to, named, state_of, db_state, snapshot_of_db}
use Rattle.sled.specs.Sound.{IsDb}
use Rattle.sled.specs.Calls.{MustBeRefused, must_be_refused_as}
use Rattle.sled.specs.Flights.{call_in_flight_of, follows_as, has_path, DbFollows, StaysInChain, KeepsTreePages, IsStepRefused, DbStepContract, DbSteps, Ends, GoesOn, has_turns, TakesAtMost, DbRunsToEnd}
use Rattle.tree_steps.specs.theory.Watched.{told, told_by, AdvancesOver}
use Rattle.tree_steps.proofs.Watching.{same_queues}
use Rattle.sled.proofs.Resting.{Rests, rests_refused, now_rests, rests_extends, rests_left}
use Rattle.sled.proofs.Testing.{tree_tested, tested_calm, untold_fault, untold_turns}
use Rattle.sled.proofs.Trees.{trees_at, trees_same, trees_put, maps_are, current, numbered}

-- a call on a key has no pairs that wait, and nothing to read
pub waits_never : (f : InFlight) → IsOnKey f.job.call → (waiting_of f ≡ []) × (rest_of f ≡ None)
waits_never f on_key = (ap (waiting_in f.stage f.aim) on_key, ap (rest_in f.stage f.aim) on_key)

-- what an action leaves of the trees, at the forests that fit
pub lasts_same : (m : Snapshot) → PagesLast m m
lasts_same m = record { pids = λ p e. e; merges = λ p n live on. inl live; gone = λ p e none. none }

lasts_acting : {mine own : List ℕ} (m n : Snapshot) (w v : Forest) → KeepsForest mine own m w n v → PagesLast m n
lasts_acting m n w v a = record {
  pids = a.goes.pids;
  merges = a.goes.keeps.capped;
  gone = λ p given none. ap (option_map (λ (g : Page). g.node)) (a.goes.gone p given (page_gone m.state p none));
}

pub loses_nothing : (lost : Option Tree) (m : Snapshot) → KeepsTreePages lost m m
loses_nothing lost m w v was is = subst (λ (z : Forest). StaysInChain lost m w m z) (one_law (nodes_at m) m.state.roots w v was.formed is.formed) (record { is = λ x p on i. inl i; last = lasts_same m })

pub loses_acting : {mine own : List ℕ} (m n : Snapshot) (w v : Forest) → HasForest m w → KeepsForest mine own m w n v → KeepsTreePages None m n
loses_acting m n w v is a u z was is_now =
    subst (λ (f : Forest). StaysInChain None m f n z) (one_law (nodes_at m) m.state.roots w u is.formed was.formed)
    (subst (λ (f : Forest). StaysInChain None m w n f) (one_law (nodes_at n) n.state.roots v z a.is.formed is_now.formed)
    (record {
      is = λ x p on i.
          let here = is.formed.page x p (is.formed.homed x p i) in let s = a.goes.keeps.stood x p here.0 on i here.1.live in elim s.3 [
            | inl c ↦ inl c
            | inr b ↦ inr (s.0, s.1, b)
          ];
      last = lasts_acting m n w v a;
    }))

-- what an action leaves of the store
pub record Touches (a b : Store) : Type 0 where
  pub mark : b.mark ≡ a.mark
  pub no_group : (now b).in_group ≡ (now a).in_group

pub touches_acting : (a b : Store) → ActsAtMostOnce a b → Touches a b
touches_acting a b (inl e) = record { mark = ap (λ (s : Store). s.mark) e; no_group = ap (λ (s : Store). (now s).in_group) e }
touches_acting a b (inr o) = record { mark = ap (λ (s : Store). s.mark) o.is; no_group = o.no_group }

-- for a fault alone one is counted
pub refuses_quietly : (e : Error) (a b : Store) → is_action_refused_as e a b → IsStepRefused e a b
refuses_quietly error.NoMemory a b t = t
refuses_quietly (error.Io fault) a b t = t
refuses_quietly other a b t = absurd t

-- no test and no limit tells `Io`
pub quiet_untold : (e : Error) (a : Store) → ((fault : Fault) → e ≡ error.Io fault → ⊥) → IsStepRefused e a a
quiet_untold (error.Io fault) a off = absurd (off fault refl)
quiet_untold other a off = refl

-- what an action adds to what a crash may leave
once_adds : {a b : Store} (o : ActsOnce a b) → AddsAction o.action a b
once_adds o = record { base = ap (λ (s : Store). s.base) o.is; recent = ap (λ (s : Store). s.recent) o.is; actions = ap (λ (s : Store). s.actions) o.is }

extends_unseen : (a b : Store) → ActsAtMostOnce a b → (now a).in_group ≡ false → (now b).in_group ≡ false → IsValid (now b) → trees_of (now b) ≡ trees_of (now a) → AddsCrashStates [] a b
extends_unseen a b (inl e) out no_group well same = subst (λ (s : Store). AddsCrashStates [] a s) (sym e) (extends_same a)
extends_unseen a b (inr o) out no_group well same = adds_unseen (once_adds o) out no_group well same

extends_seen : (a b : Store) → ActsAtMostOnce a b → (now b).in_group ≡ false → IsValid (now b) → AddsCrashStates (trees_of (now b) ∷ []) a b
extends_seen a b (inl e) no_group well = extends_again (subst (λ (s : Store). AddsCrashStates [] a s) (sym e) (extends_same a)) no_group
extends_seen a b (inr o) no_group well = adds_extends (once_adds o) no_group well

-- a cause of a refusal of the store is one of the model
pub cause_is : (s : State) (f : CallInFlight) (e : Error) (a b : Store) → is_action_refused_as e a b → cause_of s a b (ToStep f) e
cause_is s f error.NoMemory a b t = tt
cause_is s f (error.Io fault) a b (inl t) = inl (more (ap (λ (z : Store). z.faults) t))
  where
    more : b.faults ≡ a.faults + 1 → a.faults < b.faults
    more e = omega arith
cause_is s f (error.Io fault) a b (inr (t, p)) = inr p
cause_is s f other a b t = absurd t

-- a page that a change was linked to stood at the version that was read
linked_page : (j : Course) (a b : Store) (view : View) (reply : Reply) → Follows j a (stage.Act view) (sequel.Decided reply) b → (node : Node) × ((now a).pages view.pid ≡ Some (record { version = view.version; node = node }))
linked_page j a b view reply f = elim f.is [
  | inl l ↦ go (decision_at l.operator j.call view.node.content).reply (link_of (decision_at l.operator j.call view.node.content).effect (key_of j.call)) l.is
  | inr r ↦ unlike r.1
]
  where
    unlike : {X : Type 0} {e : Error} → sequel.Decided reply ≡ sequel.Refused e → X
    unlike e = cc

    off : {X : Type 0} → sequel.Decided reply ≡ sequel.Go stage.Root → X
    off e = cc

    go : (d : Reply) (l : Option Link) → MatchOption l ((b ≡ a) × (sequel.Decided reply ≡ sequel.Go stage.Root)) (λ link. TakesWay (after_link link) view.pid view.version a b (sequel.Decided reply) (λ _. sequel.Decided d) (λ _. sequel.Go stage.Root)) → (node : Node) × ((now a).pages view.pid ≡ Some (record { version = view.version; node = node }))
    go d None e = off e.1
    go d (Some l) (inl t) = (t.1.is.0, t.1.is.1)
    go d (Some l) (inr t) = off t.2

-- an action is counted
acts_not : {X : Type 0} (a b : Store) → b ≡ a → ActsOnce a b → X
acts_not a b same o = absurd (more a.actions b.actions (ap (λ (s : Store). s.actions) same) (ap (λ (s : Store). s.actions) o.is))
  where
    more : (n m : ℕ) → m ≡ n → m ≡ n + 1 → ⊥
    more n m e h = omega arith

-- a call that is refused before it touches a page
module _ {P M : Type 0} (store : P → Store) (meant : M → Merge) (old : DbValue P M) where
  pub untouched : (f g : InFlight) (e : Error) → ((fault : Fault) → e ≡ error.Io fault → ⊥) → DbFollows store meant old f (Refused e) old g → (must_refuse (db_state store meant old) (ToStep (call_in_flight_of f)) ≡ None → f.turns ≡ turns_limit → TellsTurns e) → ((slots : ℕ → Option CallInFlight) (given : ℕ) → MayRefuse (state_of store meant old slots given) (store old.pages) (store old.pages) (ToStep (call_in_flight_of f)) e) → DbStepContract store meant old f (Refused e) old g
  untouched f g e off follows limit may = record {
    step = record {
      steps = λ slots given slot before after here. record { is = (record { flying = call_in_flight_of f; here = here; may = may slots given; limit = limit; is = refl }, refl) };
      extends = extends_same (store old.pages);
      same = refl;
      queues = same_queues old.queues old.queues refl;
    };
    sound = record { keeps = λ d. d };
    does = record { does = quiet_untold e (store old.pages) off; quiet = λ q. refl; loud = λ event b. absurd (silent b.reply b.decided) };
    follows = follows;
    passes = λ path. record { is = tt };
    loses = loses_nothing None (snapshot_of_db store old);
    leaves = λ v is. tt;
    knows = record { goes_on = λ more. absurd more; others = λ h off k. (k, λ more. absurd more) };
  }
    where
      silent : (r : Reply) → Refused e ≡ Decided r → ⊥
      silent r e = cc

  -- the tests refuse the call
  pub flies_untested : (f g : InFlight) (e : Error) → MustBeRefused (must_refuse (db_state store meant old) (ToStep (call_in_flight_of f))) e → DbStepContract store meant old f (Refused e) old g
  flies_untested f g e tested = untouched f g e (untold_fault (must_refuse (db_state store meant old) (ToStep (call_in_flight_of f))) e tested.is) (λ none fits. absurd (subst (λ o. must_be_refused_as o e) none tested.is)) (λ none all. absurd (subst (λ o. must_be_refused_as o e) none tested.is)) (λ slots given. record { is = go slots given (must_refuse (db_state store meant old) (ToStep (call_in_flight_of f))) tested.is })
    where
      go : (slots : ℕ → Option CallInFlight) (given : ℕ) (o : Option MustRefuse) → must_be_refused_as o e → may_refuse_as o (cause_of (state_of store meant old slots given) (store old.pages) (store old.pages) (ToStep (call_in_flight_of f))) e
      go slots given None t = absurd t
      go slots given (Some m) t = t

  -- the tests let the call pass
  module _ (f : InFlight) (must : must_refuse (db_state store meant old) (ToStep (call_in_flight_of f)) ≡ None) where
    may_refuse : (slots : ℕ → Option CallInFlight) (given : ℕ) (a b : Store) (e : Error) → cause_of (state_of store meant old slots given) a b (ToStep (call_in_flight_of f)) e → MayRefuse (state_of store meant old slots given) a b (ToStep (call_in_flight_of f)) e
    may_refuse slots given a b e cause = record { is = subst (λ o. may_refuse_as o (cause_of (state_of store meant old slots given) a b (ToStep (call_in_flight_of f))) e) (sym must) cause }

    -- its turns are the limit
    pub flies_limit : (g : InFlight) (e : Error) → f.turns ≡ turns_limit → TellsTurns e → ((slots : ℕ → Option CallInFlight) (given : ℕ) → cause_of (state_of store meant old slots given) (store old.pages) (store old.pages) (ToStep (call_in_flight_of f)) e) → DbStepContract store meant old f (Refused e) old g
    flies_limit g e all tells cause = untouched f g e (λ fault io. subst TellsTurns io tells) (λ none fits. absurd (below f.turns all fits)) (λ none all. tells) (λ slots given. may_refuse slots given (store old.pages) (store old.pages) e (cause slots given))
      where
        below : (n : ℕ) → n ≡ turns_limit → n < turns_limit → ⊥
        below n all fits = omega arith

module _ {P M : Type 0} (store : P → Store) (meant : M → Merge) (old : DbValue P M) (db : IsDb store old) where
  abbrev pub at : Snapshot
  at = snapshot_of_db store old

  -- the state over other pages
  pub state_over : (p : P) (new : QueuesValue) → Becomes (queue_at old.queues) old.queues.given new → (slots after : ℕ → Option CallInFlight) (given : ℕ) → ((name : Key) → trees_of (now (store p)) name ≡ trees_of (now (store old.pages)) name) → (now (store p)).in_group ≡ (now (store old.pages)).in_group → (store p).mark ≡ (store old.pages).mark
      → state_of store meant (record old { pages = p; queues = new }) after given ≡ record (state_of store meant old slots given) { slots = after }
  state_over p new keeps slots after given trees no_group mark = λ i. record {
    name = old.name;
    trees = λ t. named (numbers_of old.trees t) (trees t i) (λ n. option_map meant (find nat_cmp n old.operators));
    queues = queues_of (keeps.held i);
    slots = after;
    is_open = not (no_group i);
    greatest_id = old.greatest_id;
    mark = mark i;
    trees_given = old.trees_given;
    slots_given = given;
    subscribers_given = keeps.count i;
  }

  same_store : (slots after : ℕ → Option CallInFlight) (given : ℕ) → state_of store meant old after given ≡ record (state_of store meant old slots given) { slots = after }
  same_store slots after given = refl

  -- the tests let the call pass
  module _ (f : InFlight) (must : must_refuse (db_state store meant old) (ToStep (call_in_flight_of f)) ≡ None) where
    pub named_now : numbers_of old.trees f.job.tree.name ≡ Some f.job.tree.number
    named_now = numbered f.job.tree.number (numbers_of old.trees f.job.tree.name) (trees_of (now (store old.pages)) f.job.tree.name) _ (current (db_state store meant old) f.job.tree (tree_tested (db_state store meant old) f.job.tree f.job.call must))

    -- the call's tree
    abbrev pub operator : Option Merge
    operator = option_map meant (find nat_cmp f.job.tree.number old.operators)

    abbrev pub tree_now : NamedTree
    tree_now = record { number = f.job.tree.number; map = contents (nodes_at at) db.forest f.job.tree.name; merge = operator }

    pub there : (db_state store meant old).trees f.job.tree.name ≡ Some tree_now
    there =
        ap (λ n. named n (trees_of (now (store old.pages)) f.job.tree.name) (λ n. option_map meant (find nat_cmp n old.operators))) named_now
        ∙ ap (λ m. named (Some f.job.tree.number) m (λ n. option_map meant (find nat_cmp n old.operators)))
        (trees_at (store old.pages) (numbers_of old.trees) (given_to old.trees_given) db.forest db.is f.job.tree.name ∙ ap (option_map (λ _. contents (nodes_at at) db.forest f.job.tree.name)) named_now)

    -- the event by the map now was told, if there is one
    pub record Told (queues : QueuesValue) : Type 0 where
      pub is : queues_of (queue_at queues) ≡ queues_after f.job.tree.number (answer_of operator f.job.call tree_now.map).event (queues_of (queue_at old.queues))
      pub calm : IsCalm (queue_at queues)
      pub count : queues.given ≡ old.queues.given

    pub told_now : (queues : QueuesValue) (event : Option Event) → (answer_of operator f.job.call tree_now.map).event ≡ event → told f.job.tree.number event old.queues queues → Told queues
    told_now queues None is t = record {
      is = ap queues_of t.held ∙ sym (ap (λ e. queues_after f.job.tree.number e (queues_of (queue_at old.queues))) is);
      calm = subst IsCalm (sym t.held) db.calm;
      count = t.count;
    }
    told_now queues (Some event) is t =
        let d = delivers_law (queue_at old.queues) db.calm f.job.tree.number event in record {
          is = ap queues_of t.held ∙ d.shown ∙ sym (ap (λ e. queues_after f.job.tree.number e (queues_of (queue_at old.queues))) is);
          calm = subst IsCalm (sym t.held) d.calm;
          count = t.count;
        }

    -- what the call comes to at a leaf that stands as it was read is what it comes to by the map
    module _ (view : View) (knows : Knows at db.forest (course_of f) (stage.Act view)) (node : Node) (page : (now (store old.pages)).pages view.pid ≡ Some (record { version = view.version; node = node })) where
      read_event : (answer_of operator f.job.call tree_now.map).event ≡ event_of (decision_at operator f.job.call view.node.content).effect (key_of f.job.call)
      read_event = ap (λ v. event_of (decision_of operator f.job.call v).effect (key_of f.job.call))
          (answers db.is f.job.tree.name f.job.tree.number (key_of f.job.call) view node (subst (λ aim. IsActing at db.forest f.job.tree.name f.job.tree.number aim view) (knows.2.key (links_on_key f.job.call (value_at view.node.content (key_of f.job.call)) knows.1)) knows.0.0) (record { named = named_now; page = page }))

    module _ (q : P) (queues : QueuesValue) (known : IsKnown at f) where
      abbrev after : Snapshot
      after = snapshot_of_db store (record old { pages = q })

      abbrev new : DbValue P M
      new = record old { pages = q; queues = queues }

      -- the database is as it should be
      pub is_db : (v : Forest) {mine own : List ℕ} → KeepsForest mine own at db.forest after v → IsCrashConsistent (store q) → (store q).mark ≡ (store old.pages).mark → IsCalm (queue_at queues) → IsDb store new
      is_db v a safe mark calm = record { forest = v; is = a.is; sized = a.sized db.sized; safe = safe; ascends = db.ascends; default = db.default; ungiven = db.ungiven; calm = calm; ids = subst (λ m. old.greatest_id ≤ m) (sym mark) db.ids }

      pub calm_still : Becomes (queue_at old.queues) old.queues.given queues → IsCalm (queue_at queues)
      calm_still keeps = subst IsCalm (sym keeps.held) db.calm

      -- no group is open
      pub no_group : (now (store old.pages)).in_group ≡ false
      no_group = tested_calm store meant old f.job.tree (tree_tested (db_state store meant old) f.job.tree f.job.call must)

      -- after an action the state now, and every state that a crash may leave, is as it should be
      well : (v : Forest) {mine own : List ℕ} → KeepsForest mine own at db.forest after v → IsValid (now (store q))
      well v a = record { forest = v; formed = a.is.formed; sized = a.sized db.sized }

      whole : (v : Forest) {mine own : List ℕ} → KeepsForest mine own at db.forest after v → ActsAtMostOnce (store old.pages) (store q) → IsCrashConsistent (store q)
      whole v a (inl e) = subst IsCrashConsistent (sym e) db.safe
      whole v a (inr o) = valid_law o.action (store old.pages) (store q) (once_adds o) db.safe (λ no_group. well v a)

      -- the call goes on
      module _ (fits : f.turns < turns_limit) (g : InFlight) (job : g.job ≡ f.job) (aim : g.aim ≡ f.aim) (turns : g.turns ≡ f.turns + 1) (moves : StageActionBy (Only operator) (course_of f) (store old.pages) f.stage (sequel.Go g.stage) (store q)) (further : has_path (range_of f.job.call) f.stage → StepsOnPath (now (store old.pages)) f Moved (now (store q)) g) (follows : follows_as (range_of f.job.call) (store old.pages) f Moved (store q) g) (keeps : Becomes (queue_at old.queues) old.queues.given queues) (reads : Reads tree_now.map (waiting_of f) (rest_of f) (waiting_of g) (rest_of g)) where
        moved : (v : Forest) × KeepsForest (owned f.stage) (owned g.stage) at db.forest after v × (Knows after v (course_of f) g.stage × KeepsContents at db.forest after v) × LeaksNoPage (owned f.stage) (owned g.stage) (now (store old.pages)) (now (store q)) v
        moved = moves.is (numbers_of old.trees) (given_to old.trees_given) db.forest db.is named_now (known.is db.forest db.is)

        moved_touches : Touches (store old.pages) (store q)
        moved_touches = touches_acting (store old.pages) (store q) moves.touches

        moved_trees : trees_of (now (store q)) ≡ trees_of (now (store old.pages))
        moved_trees = trees_same (store old.pages) (store q) (numbers_of old.trees) (given_to old.trees_given) db.forest moved.0 db.is moved.1.is moved.2.1.same

        moved_extends : AddsCrashStates [] (store old.pages) (store q)
        moved_extends = extends_unseen (store old.pages) (store q) moves.touches no_group (moved_touches.no_group ∙ no_group) (well moved.0 moved.1) moved_trees

        pub moved_db : IsDb store new
        moved_db = is_db moved.0 moved.1 (whole moved.0 moved.1 moves.touches) moved_touches.mark (calm_still keeps)

        flying_more : call_in_flight_of g ≡ record (call_in_flight_of f) { turns = f.turns + 1; waiting = waiting_of g; rest = rest_of g }
        flying_more = λ i. record { tree = (job i).tree; call = (job i).call; turns = turns i; waiting = waiting_of g; rest = rest_of g }

        moved_known : IsKnown after g
        moved_known = record {
          is = λ u is. on_course (λ j. Knows after u j g.stage) (subst (λ (z : Forest). Knows after z (course_of f) g.stage) (one_law (nodes_at after) after.state.roots moved.0 u moved.1.is.formed is.formed) moved.2.0);
          aimed = on_course (λ j. IsAimed j) known.aimed;
          fits = more f.turns g.turns fits turns;
          begins = λ on_key none. absurd (some f.turns g.turns turns none);
        }
          where
            on_course : (P : Course → Type 0) → P (course_of f) → P (course_of g)
            on_course P p = subst (λ (a : Aim). P (course g.job a)) (sym aim) (subst (λ (j : Job). P (course j f.aim)) (sym job) p)

            some : (a b : ℕ) → b ≡ a + 1 → b ≡ 0 → ⊥
            some a b e none = omega arith

            more : (a b : ℕ) → a < turns_limit → b ≡ a + 1 → b ≤ MAX_LOOPS
            more a b h e = let l = limit_is in omega arith

        pub flies_moved : DbStepContract store meant old f Moved new g
        flies_moved = record {
          step = record {
            steps = λ slots given slot before after here. record {
              is = (
                record {
                  flying = call_in_flight_of f;
                  here = here;
                  free = must;
                  fits = fits;
                  waiting = waiting_of g;
                  rest = rest_of g;
                  tree = tree_now;
                  there = there;
                  reads = reads;
                  is = state_over q queues keeps slots (put_at slots slot (Some (call_in_flight_of g))) given (λ t i. moved_trees i t) moved_touches.no_group moved_touches.mark
                      ∙ ap (λ (z : CallInFlight). record (state_of store meant old slots given) { slots = put_at slots slot (Some z) }) flying_more;
                },
                refl,
              );
            };
            extends = moved_extends;
            same = refl;
            queues = keeps;
          };
          sound = record { keeps = λ d. moved_db };
          does = record { does = moves.touches; quiet = λ k. absurd (apart k.reply k.decided); loud = λ event k. absurd (apart k.reply k.decided) };
          follows = λ must fits. follows;
          passes = further;
          loses = loses_acting at after db.forest moved.0 db.is moved.1;
          leaves = λ u is. subst (λ (z : Forest). LeaksNoPage (owned f.stage) (owned g.stage) (now (store old.pages)) (now (store q)) z) (one_law (nodes_at after) after.state.roots moved.0 u moved.1.is.formed is.formed) moved.3;
          knows = record {
            goes_on = λ more. (job, moved_known);
            others = λ h apart k. (known_kept db.is moved.1 h k apart.off, λ more. record { off = λ p i j. not_own db.is moved.1 h k apart.off p j i });
          };
        }
          where
            apart : (r : Reply) → Moved ≡ Decided r → ⊥
            apart r e = cc

      -- the call is refused, and the store does what it does where it refuses an action
      module _ (fits : f.turns < turns_limit) (g : InFlight) (e : Error) (moves : StageActionBy (Only operator) (course_of f) (store old.pages) f.stage (sequel.Refused e) (store q)) (quietly : IsStepRefused e (store old.pages) (store q)) (cause : (slots : ℕ → Option CallInFlight) (given : ℕ) → cause_of (state_of store meant old slots given) (store old.pages) (store q) (ToStep (call_in_flight_of f)) e) (follows : follows_as (range_of f.job.call) (store old.pages) f (Refused e) (store q) g) (keeps : Becomes (queue_at old.queues) old.queues.given queues) where
        refused : (v : Forest) × KeepsForest (owned f.stage) [] at db.forest after v × KeepsContents at db.forest after v × Unit {0}
        refused = moves.is (numbers_of old.trees) (given_to old.trees_given) db.forest db.is named_now (known.is db.forest db.is)

        rests : Rests (store old.pages) (store q)
        rests = rests_refused e (store old.pages) (store q) moves.touches

        refused_extends : AddsCrashStates [] (store old.pages) (store q)
        refused_extends = rests_extends rests

        refused_calm : (now (store q)).in_group ≡ (now (store old.pages)).in_group
        refused_calm = ap (λ (s : Rattle.sled_store.specs.State.State). s.in_group) (now_rests rests)

        pub refused_db : IsDb store new
        refused_db = is_db refused.0 refused.1 (record { whole = λ x i. db.safe.whole x (subst (In x) (rests_left rests) i) }) rests.mark (calm_still keeps)

        pub flies_refused : DbStepContract store meant old f (Refused e) new g
        flies_refused = record {
          step = record {
            steps = λ slots given slot before after here. record {
              is = (
                record {
                  flying = call_in_flight_of f;
                  here = here;
                  may = may_refuse store meant old f must slots given (store old.pages) (store q) e (cause slots given);
                  limit = λ none all. absurd (below f.turns fits all);
                  is = state_over q queues keeps slots (put_at slots slot None) given (λ t. ap (λ (s : Rattle.sled_store.specs.State.State). trees_of s t) (now_rests rests)) refused_calm rests.mark;
                },
                refl,
              );
            };
            extends = refused_extends;
            same = refl;
            queues = keeps;
          };
          sound = record { keeps = λ d. refused_db };
          does = record { does = quietly; quiet = λ k. absurd (apart k.reply k.decided); loud = λ event k. absurd (apart k.reply k.decided) };
          follows = λ must fits. follows;
          passes = λ path. record { is = tt };
          loses = loses_acting at after db.forest refused.0 db.is refused.1;
          leaves = λ v is. tt;
          knows = record { goes_on = λ more. absurd more; others = λ h a k. (known_kept db.is refused.1 h k a.off, λ more. absurd more) };
        }
          where
            apart : (r : Reply) → Refused e ≡ Decided r → ⊥
            apart r e = cc

            below : (n : ℕ) → n < turns_limit → n ≡ turns_limit → ⊥
            below n h e = omega arith

      -- the state after the call was decided, where its tree's map became that of its answer
      module _ (trees_put_there : trees_of (now (store q)) ≡ put_name (trees_of (now (store old.pages))) f.job.tree.name (Some (answer_of operator f.job.call tree_now.map).map)) (touches : Touches (store old.pages) (store q)) (tells : Told queues) where
        abbrev answer_now : Answer
        answer_now = answer_of operator f.job.call tree_now.map

        -- the trees of the state, where that of the call is another
        named_trees : (t : Key) → named (numbers_of old.trees t) (trees_of (now (store q)) t) (λ n. option_map meant (find nat_cmp n old.operators))
            ≡ put_name (db_state store meant old).trees f.job.tree.name (Some (record tree_now { map = answer_now.map })) t
        named_trees t =
            ap (λ (z : Key → Option Map). named (numbers_of old.trees t) (z t) (λ n. option_map meant (find nat_cmp n old.operators))) trees_put_there
            ∙ go (bytes_eq t f.job.tree.name) refl
          where
            go : (b : Bool) → bytes_eq t f.job.tree.name ≡ b
                → named (numbers_of old.trees t) (cond (bytes_eq t f.job.tree.name) (Some answer_now.map) (trees_of (now (store old.pages)) t)) (λ n. option_map meant (find nat_cmp n old.operators))
                ≡ cond (bytes_eq t f.job.tree.name) (Some (record tree_now { map = answer_now.map })) (named (numbers_of old.trees t) (trees_of (now (store old.pages)) t) (λ n. option_map meant (find nat_cmp n old.operators)))
            go true e =
                ap (λ b. named (numbers_of old.trees t) (cond b (Some answer_now.map) (trees_of (now (store old.pages)) t)) (λ n. option_map meant (find nat_cmp n old.operators))) e
                ∙ ap (λ n. named n (Some answer_now.map) (λ n. option_map meant (find nat_cmp n old.operators))) (ap (numbers_of old.trees) (Rattle.sled_store.specs.theory.Facts.same_name t f.job.tree.name e) ∙ named_now)
                ∙ ap (λ b. cond b (Some (record tree_now { map = answer_now.map })) (named (numbers_of old.trees t) (trees_of (now (store old.pages)) t) (λ n. option_map meant (find nat_cmp n old.operators)))) (sym e)
            go false e =
                ap (λ b. named (numbers_of old.trees t) (cond b (Some answer_now.map) (trees_of (now (store old.pages)) t)) (λ n. option_map meant (find nat_cmp n old.operators))) e
                ∙ ap (λ b. cond b (Some (record tree_now { map = answer_now.map })) (named (numbers_of old.trees t) (trees_of (now (store old.pages)) t) (λ n. option_map meant (find nat_cmp n old.operators)))) (sym e)

        pub done_state : (slots : ℕ → Option CallInFlight) (given slot : ℕ) → state_of store meant new (put_at slots slot None) given ≡ after_decision (state_of store meant old slots given) slot f.job.tree.name tree_now answer_now
        done_state slots given slot = λ i. record {
          name = old.name;
          trees = λ t. named_trees t i;
          queues = tells.is i;
          slots = put_at slots slot None;
          is_open = not (touches.no_group i);
          greatest_id = old.greatest_id;
          mark = touches.mark i;
          trees_given = old.trees_given;
          slots_given = given;
          subscribers_given = tells.count i;
        }

      -- the call is decided
      module _ (fits : f.turns < turns_limit) (g : InFlight) (reply : Reply) (moves : StageActionBy (Only operator) (course_of f) (store old.pages) f.stage (sequel.Decided reply) (store q)) (follows : follows_as (range_of f.job.call) (store old.pages) f (Decided reply) (store q) g) (tells : Told queues) where
        done : (v : Forest) × KeepsForest (owned f.stage) [] at db.forest after v × DecidesAs operator (course_of f) reply (store old.pages) (store q) at db.forest after v × LeaksNoPage (owned f.stage) [] (now (store old.pages)) (now (store q)) v
        done = let d = moves.is (numbers_of old.trees) (given_to old.trees_given) db.forest db.is named_now (known.is db.forest db.is) in (d.0, d.1, d.2 operator refl, d.3)

        done_touches : Touches (store old.pages) (store q)
        done_touches = touches_acting (store old.pages) (store q) moves.touches

        abbrev answer : Answer
        answer = answer_of operator f.job.call tree_now.map

        done_trees : trees_of (now (store q)) ≡ put_name (trees_of (now (store old.pages))) f.job.tree.name (Some answer.map)
        done_trees =
            trees_put (store old.pages) (store q) (numbers_of old.trees) (given_to old.trees_given) db.forest done.0 db.is done.1.is f.job.tree.name f.job.tree.number named_now done.2.others
            ∙ ap (λ m. put_name (trees_of (now (store old.pages))) f.job.tree.name (Some m)) done.2.here

        done_extends : AddsCrashStates (trees_of (now (store q)) ∷ []) (store old.pages) (store q)
        done_extends = extends_seen (store old.pages) (store q) moves.touches (done_touches.no_group ∙ no_group) (well done.0 done.1)

        pub decided_db : IsDb store new
        decided_db = is_db done.0 done.1 (whole done.0 done.1 moves.touches) done_touches.mark tells.calm

        same_maps : maps_of (db_state store meant new) ≡ trees_of (now (store q))
        same_maps = maps_are store meant new done.0 done.1.is

        pub flies_decided : DbStepContract store meant old f (Decided reply) new g
        flies_decided = record {
          step = record {
            steps = λ slots given slot before after here. record {
              is = (
                record {
                  flying = call_in_flight_of f;
                  here = here;
                  free = must;
                  fits = fits;
                  tree = tree_now;
                  there = there;
                  none = (waits_never f done.2.on_key).0;
                  done = ap is_read (waits_never f done.2.on_key).1;
                  replies = done.2.replies;
                  is = done_state done_trees done_touches tells slots given slot;
                },
                refl,
              );
            };
            extends = subst (λ m. AddsCrashStates (m ∷ []) (store old.pages) (store q)) (sym same_maps) done_extends;
            same = refl;
            queues = tells.count;
          };
          sound = record { keeps = λ d. decided_db };
          does = record {
            does = moves.touches;
            quiet = λ k. done.2.quiet (brought k.tree k.there ∙ k.is);
            loud = λ event k. done.2.loud (λ none. none_some (sym none ∙ brought k.tree k.there ∙ k.is));
          };
          follows = λ must fits. follows;
          passes = λ path. record { is = tt };
          loses = loses_acting at after db.forest done.0 db.is done.1;
          leaves = λ u is. subst (λ (z : Forest). LeaksNoPage (owned f.stage) [] (now (store old.pages)) (now (store q)) z) (one_law (nodes_at after) after.state.roots done.0 u done.1.is.formed is.formed) done.3;
          knows = record { goes_on = λ more. absurd more; others = λ h a k. (known_kept db.is done.1 h k a.off, λ more. absurd more) };
        }
          where
            -- the event by the map now
            brought : (t : NamedTree) → (db_state store meant old).trees f.job.tree.name ≡ Some t → answer.event ≡ (answer_of t.merge f.job.call t.map).event
            brought t there_too = ap (λ (t : NamedTree). (answer_of t.merge f.job.call t.map).event) (some_is (sym there ∙ there_too))

      -- one step of the call over the pages, and what it told
      module _ (fits : f.turns < turns_limit) (g : InFlight) where
        abbrev Flown : Went → Type 0
        Flown went = DbStepContract store meant old f went new g × IsDb store new

        -- the event of a change that was linked is the one by the map now
        linked_event : (view : View) → f.stage ≡ stage.Act view → (reply : Reply) → FollowsOn (store old.pages) f (Decided reply) (store q) g → (answer_of operator f.job.call tree_now.map).event ≡ event_of (decision_at operator f.job.call view.node.content).effect (key_of f.job.call)
        linked_event view here reply follows =
            let p = linked_page (course_of f) (store old.pages) (store q) view reply (subst (λ z. Follows (course_of f) (store old.pages) z (sequel.Decided reply) (store q)) here follows.is) in
            read_event view (subst (Knows at db.forest (course_of f)) here (known.is db.forest db.is)) p.0 p.1

        told_decided : (reply : Reply) → StepsBy operator (store old.pages) f (Decided reply) (store q) g → told_by operator f f.stage old.queues queues → Told queues
        told_decided reply steps t = elim (decided_law (course_of f) (store old.pages) (store q) f.stage reply steps.follows.is) [
          | inl quiet ↦ told_now queues None (silent quiet.1 (answer_of operator f.job.call tree_now.map).event refl) (read_tells f.stage quiet.0 t)
          | inr here ↦ told_now queues _ (linked_event here.0 here.1 reply steps.follows) (subst (λ z. told_by operator f z old.queues queues) here.1 t)
        ]
          where
            read_tells : (s : Stage) → IsReading s → told_by operator f s old.queues queues → Becomes (queue_at old.queues) old.queues.given queues
            read_tells (stage.Act view) r t = absurd r
            read_tells other r t = t

            silent : store q ≡ store old.pages → (o : Option Event) → (answer_of operator f.job.call tree_now.map).event ≡ o → (answer_of operator f.job.call tree_now.map).event ≡ None
            silent same None e = e
            silent same (Some event) e =
                let d = steps.advances.is.is (numbers_of old.trees) (given_to old.trees_given) db.forest db.is named_now (known.is db.forest db.is) in
                acts_not (store old.pages) (store q) same ((d.2 operator refl).loud (λ none. none_some (sym none ∙ e)))

        -- a call on a key reads no range
        same_reads : IsOnKey f.job.call → g.job ≡ f.job → Reads tree_now.map (waiting_of f) (rest_of f) (waiting_of g) (rest_of g)
        same_reads on_key job =
            let one = waits_never f on_key in
            let two = waits_never g (ap (λ (j : Job). range_of j.call) job ∙ on_key) in
            inl (two.0 ∙ sym one.0, two.1 ∙ sym one.1)

        on_key_follows : IsOnKey f.job.call → (went : Went) → FollowsOn (store old.pages) f went (store q) g → follows_as (range_of f.job.call) (store old.pages) f went (store q) g
        on_key_follows on_key went s = subst (λ r. follows_as r (store old.pages) f went (store q) g) (sym on_key) s

        -- one step of a call on a key, whatever comes of it
        pub flown : IsOnKey f.job.call → (went : Went) → AdvancesOver operator (store old.pages) old.queues f went (store q) queues g → Flown went
        flown on_key Moved s =
            let a = s.steps.advances.is in
            let follows = on_key_follows on_key Moved s.steps.follows in (
              flies_moved fits g a.0 a.1 a.2 a.3 (λ path. s.steps.passes) follows s.tells (same_reads on_key a.0),
              moved_db fits g a.0 a.1 a.2 a.3 (λ path. s.steps.passes) follows s.tells (same_reads on_key a.0),
            )
        flown on_key (Yielded key value) s = absurd s.steps.advances.is
        flown on_key (Decided reply) s = (
          flies_decided fits g reply s.steps.advances.is (on_key_follows on_key (Decided reply) s.steps.follows) (told_decided reply s.steps s.tells),
          decided_db fits g reply s.steps.advances.is (on_key_follows on_key (Decided reply) s.steps.follows) (told_decided reply s.steps s.tells),
        )
        flown on_key (Refused e) s = (
          flies_refused fits g e s.steps.advances.is (refuses_quietly e (store old.pages) (store q) s.steps.advances.is.touches) (λ slots given. cause_is (state_of store meant old slots given) (call_in_flight_of f) e (store old.pages) (store q) s.steps.advances.is.touches) (on_key_follows on_key (Refused e) s.steps.follows) s.tells,
          refused_db fits g e s.steps.advances.is (refuses_quietly e (store old.pages) (store q) s.steps.advances.is.touches) (λ slots given. cause_is (state_of store meant old slots given) (call_in_flight_of f) e (store old.pages) (store q) s.steps.advances.is.touches) (on_key_follows on_key (Refused e) s.steps.follows) s.tells,
        )

-- below the limit
pub below_limit : (f : InFlight) → f.turns ≤ MAX_LOOPS → f.turns ≢ MAX_LOOPS → f.turns < turns_limit
below_limit f h off = let l = limit_is in omega arith

-- ---- a call that goes on

abbrev pub everywhere : InFlight → ℕ → Option CallInFlight
everywhere f n = Some (call_in_flight_of f)

module _ {P M : Type 0} (store : P → Store) (meant : M → Merge) (old new : DbValue P M) (f g : InFlight) (flies : DbStepContract store meant old f Moved new g) where
  pub went_on : Rattle.sled_model.specs.Transition.Move (state_of store meant old (everywhere f) 0) 0 (state_of store meant new (put_at (everywhere f) 0 (Some (call_in_flight_of g))) 0)
  went_on = (flies.step.steps (everywhere f) 0 0 0 0 refl).is.0

  -- a step that goes on changes no state
  pub moved_state : db_state store meant new ≡ db_state store meant old
  moved_state = ap (λ (s : State). record s { slots = λ n. None; slots_given = 0 }) went_on.is

  -- the tests pass still
  pub still_tested : must_refuse (db_state store meant old) (ToStep (call_in_flight_of f)) ≡ None → must_refuse (db_state store meant new) (ToStep (call_in_flight_of g)) ≡ None
  still_tested must =
      ap (λ (j : Job). must_refuse (db_state store meant new) (ToPoint j.tree j.call)) (flies.knows.goes_on tt).0
      ∙ (ap (λ (s : State). must_refuse s (ToPoint f.job.tree f.job.call)) went_on.is ∙ must)

  -- it had turns left, and has one less
  pub turn_taken : (f.turns < turns_limit) × (g.turns ≡ f.turns + 1)
  turn_taken =
      let same : call_in_flight_of f ≡ went_on.flying = some_is went_on.here in
      let after : Some (call_in_flight_of g) ≡ Some (record (went_on.flying) { turns = went_on.flying.turns + 1; waiting = went_on.waiting; rest = went_on.rest }) = ap (λ (s : State). s.slots 0) went_on.is in (
        subst (λ (z : CallInFlight). z.turns < turns_limit) (sym same) went_on.fits,
        ap (λ (z : CallInFlight). z.turns) (some_is after) ∙ ap (λ (z : CallInFlight). z.turns + 1) (sym same),
      )

  pub fewer_turns : MAX_LOOPS - g.turns < MAX_LOOPS - f.turns
  fewer_turns = let t = turn_taken in let fits = t.0 in let one = t.1 in let l = limit_is in omega arith

-- who has turns left is not refused for them
module _ {P M : Type 0} (store : P → Store) (meant : M → Merge) (old new : DbValue P M) (f g : InFlight) where
  all_turns : (e : Error) → TellsTurns e → DbStepContract store meant old f (Refused e) new g → f.turns ≡ turns_limit
  all_turns e tells flies =
      let k = (flies.step.steps (everywhere f) 0 0 0 0 refl).is.0 in
      ap (λ (z : CallInFlight). z.turns) (some_is k.here) ∙ go (state_of store meant old (everywhere f) 0) (store old.pages) (store new.pages) k.flying e (must_refuse (state_of store meant old (everywhere f) 0) (ToStep k.flying)) tells k.may.is
    where
      go : (s : State) (x y : Store) (f : CallInFlight) (e : Error) (o : Option MustRefuse) → TellsTurns e → may_refuse_as o (cause_of s x y (ToStep f)) e → f.turns ≡ turns_limit
      go s x y f (error.ReportableBug text) None tells t = t.1
      go s x y f e (Some must) tells t = absurd (untold_turns (Some must) e t tells)
      go s x y f other None tells t = absurd tells

  ends_with_turns : (went : Went) → DbStepContract store meant old f went new g → f.turns < turns_limit → has_turns went
  ends_with_turns (Refused e) flies fits = λ tells. below f.turns fits (all_turns e tells flies)
    where
      below : (n : ℕ) → n < turns_limit → n ≡ turns_limit → ⊥
      below n h e = omega arith
  ends_with_turns other flies fits = tt

-- over a clean path a call goes on at most once a page
module _ {P M : Type 0} (store : P → Store) (meant : M → Merge) where
  prompt : (n : ℕ) (old new : DbValue P M) (f g : InFlight) (went : Went) → DbSteps store meant n old f went new g → IsOnKey f.job.call → (path : List ℕ) → IsOnPath (now (store old.pages)) (course_of f) f.stage path → f.turns + length path < turns_limit → TakesAtMost n went path
  prompt zero old new f g went (Ends flies off) on_key path on fits = record { fits = omega arith; unlimited = ends_with_turns store meant old new f g went flies (omega arith) }
  prompt (suc n) old new f g went (GoesOn {mid = mid} {h = h} flies db rest) on_key path on fits =
      let p = (flies.passes (subst (λ r. has_path r f.stage) (sym on_key) tt)).is path on in
      let turns = (turn_taken store meant old mid f h flies).1 in
      let k = prompt n mid new h g went rest (ap (λ (j : Job). range_of j.call) (flies.knows.goes_on tt).0 ∙ on_key) p.0 p.2 (fewer f.turns h.turns (length path) (length p.0) turns p.1 fits) in record {
        fits = more n (length p.0) (length path) p.1 k.fits;
        unlimited = k.unlimited;
      }
    where
      fewer : (t u a b : ℕ) → u ≡ t + 1 → a ≡ suc b → t + a < turns_limit → u + b < turns_limit
      fewer t u a b e h fits = omega arith

      more : (n b a : ℕ) → a ≡ suc b → n ≤ b → suc n ≤ a
      more n b a e h = omega arith

  pub to_end : (n : ℕ) (old new : DbValue P M) (f g : InFlight) (went : Went) → DbSteps store meant n old f went new g → DbRunsToEnd store meant old f went new g
  to_end n old new f g went flies = record { moves = n; flies = flies; passes = prompt n old new f g went flies }

-- a call that went on so far, whose tests passed: with what is left of its way it goes its whole way
pub record IsFlying {P M : Type 0} (store : P → Store) (meant : M → Merge) (old : DbValue P M) (f : InFlight) (mid : DbValue P M) (h : InFlight) : Type 0 where
  pub whole : (n : ℕ) (went : Went) (new : DbValue P M) (g : InFlight) → DbSteps store meant n mid h went new g → (m : ℕ) × DbSteps store meant m old f went new g
  pub known : IsKnown (snapshot_of_db store mid) h
  pub tested : must_refuse (db_state store meant mid) (ToStep (call_in_flight_of h)) ≡ None

module _ {P M : Type 0} (store : P → Store) (meant : M → Merge) (old : DbValue P M) (f : InFlight) where
  pub going_first : IsKnown (snapshot_of_db store old) f → must_refuse (db_state store meant old) (ToStep (call_in_flight_of f)) ≡ None → IsFlying store meant old f old f
  going_first known tested = record { whole = λ n went new g end. (n, end); known = known; tested = tested }

  pub going_more : (mid next : DbValue P M) (h k : InFlight) → IsFlying store meant old f mid h → DbStepContract store meant mid h Moved next k → IsDb store next → IsFlying store meant old f next k
  going_more mid next h k is flies db = record {
    whole = λ n went new g end. is.whole (suc n) went new g (GoesOn flies db end);
    known = (flies.knows.goes_on tt).1;
    tested = still_tested store meant mid next h k flies is.tested;
  }

  pub going_ends : (mid new : DbValue P M) (h g : InFlight) (went : Went) → IsFlying store meant old f mid h → DbStepContract store meant mid h went new g → went ≢ Moved → DbRunsToEnd store meant old f went new g
  going_ends mid new h g went is flies off = let all = is.whole zero went new g (Ends flies off) in to_end store meant all.0 old new f g went all.1

pub refused_is_end : {e : Error} → Refused e ≢ Moved
refused_is_end e = cc

-- a call that came to its end did not go on
module _ {P M : Type 0} (store : P → Store) (meant : M → Merge) where
  times_end : (n : ℕ) (old new : DbValue P M) (f g : InFlight) (went : Went) → DbSteps store meant n old f went new g → went ≢ Moved
  times_end zero old end f g went (Ends flies off) = off
  times_end (suc n) old end f g went (GoesOn {mid = mid} {h = h} flies db rest) = times_end n mid end h g went rest

  pub end_reached : (old new : DbValue P M) (f g : InFlight) (went : Went) → DbRunsToEnd store meant old f went new g → went ≢ Moved
  end_reached old new f g went flies = times_end flies.moves old new f g went flies.flies

  -- a call on a key gives no pair
  never_yields : (n : ℕ) (old new : DbValue P M) (f g : InFlight) (key value : Key) → DbSteps store meant n old f (Yielded key value) new g → IsOnKey f.job.call → ⊥
  never_yields zero old new f g key value (Ends flies off) on_key =
      let y = (flies.step.steps (everywhere f) 0 0 0 0 refl).is.0 in
      none_waits (sym (waits_never f on_key).0 ∙ (ap (λ (z : CallInFlight). z.waiting) (some_is y.here) ∙ y.waits))
    where
      none_waits : {X : Type 0} {x : X} {xs : List X} → [] ≡ x ∷ xs → ⊥
      none_waits e = cc
  never_yields (suc n) old new f g key value (GoesOn {mid = mid} {h = h} flies db rest) on_key = never_yields n mid new h g key value rest (ap (λ (j : Job). range_of j.call) (flies.knows.goes_on tt).0 ∙ on_key)

  -- so it comes to its end decided or refused
  pub only_ends : (old new : DbValue P M) (f g : InFlight) (went : Went) → DbRunsToEnd store meant old f went new g → IsOnKey f.job.call → ((reply : Reply) → went ≡ Decided reply → ⊥) → ((e : Error) → went ≡ Refused e → ⊥) → ⊥
  only_ends old new f g Moved flies on_key decided refused = end_reached old new f g Moved flies refl
  only_ends old new f g (Yielded key value) flies on_key decided refused = never_yields flies.moves old new f g key value flies.flies on_key
  only_ends old new f g (Decided reply) flies on_key decided refused = decided reply refl
  only_ends old new f g (Refused e) flies on_key decided refused = refused e refl
