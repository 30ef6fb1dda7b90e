-- Calls that are made at once, in no slot.
use Rattle.std.proofs.Common.{◌≡◌, ℕ, zero, suc, ◌+◌, ◌<◌, ◌⊎◌, Bool, true, false, List, [], ◌∷◌, ◌++◌, length, Option, Some, None, Result, Ok, Err, IfOk, IfErr, sym, refl, ap, ◌∙◌, subst, inl, inr, arith, ◌≢◌}
use Rattle.std.proofs.lemmas.Bool.{cases_lt}
use Rattle.sled_nodes.proofs.Basics.{none_some, some_is}
use Rattle.sled_nodes.specs.Order.{Key}
use Rattle.sled_store.specs.In.{In}
use Rattle.sled_store.specs.Store.{Store, now}
use Rattle.sled_nodes.specs.declared.node.Node.{Node}
use Rattle.sled_nodes.specs.declared.error.Error.{Error}
use Rattle.sled_nodes.specs.declared.error.Error.TheVariants as error
use Rattle.sled_model.specs.Maps.{Maps, Merge}
use Rattle.sled_model.specs.State.{State, CallInFlight, IsOnKey, maps_of}
use Rattle.sled_model.specs.Refusal.{MustRefuse, ToStep, ToPoint, must_refuse, must_refuse_of, needs_operator, MayRefuse, cause_of, may_refuse_as, turns_limit}
use Rattle.sled_model.specs.Transition.{Decide, RefuseStep}
use Rattle.sled_model.specs.Whole.{DecidesPoint, RefusesPoint}
use Rattle.sled_model.specs.declared.call.Call.{Call}
use Rattle.sled_model.specs.declared.reply.Reply.{Reply}
use Rattle.sled_model.specs.declared.tree.Tree.{Tree}
use Rattle.tree_laws.specs.Forest.{Place, Forest}
use Rattle.tree_laws.specs.Paths.{IsClean}
use Rattle.tree_laws.specs.Snapshot.{Snapshot, nodes_at, HasForest}
use Rattle.tree_laws.specs.Crashes.{AddsCrashStates}
use Rattle.tree_laws.proofs.Crashing.{extends_same, extends_then}
use Rattle.sled_tree.specs.Known.{IsKnown, AreApart}
use Rattle.sled_tree.specs.StageAction.{ActsAtMostOnce}
use Rattle.sled_tree.specs.declared.flight.InFlight.{InFlight}
use Rattle.sled_tree.specs.declared.flight.Job.{Job}
use Rattle.sled_tree.specs.declared.flight.Went.{Went}
use Rattle.sled_tree.specs.declared.flight.Went.TheVariants.{Moved, Yielded, Decided, Refused}
use Rattle.sled_tree.proofs.Known.{known_new, aims}
use Rattle.sled.specs.Values.{DbValue, state_of, db_state, snapshot_of_db}
use Rattle.sled.specs.Sound.{IsDb}
use Rattle.sled.specs.Calls.{MustBeRefused, must_be_refused_as}
use Rattle.tree_groups.specs.Writes.{PagesLast, ActsOften, NoAction}
use Rattle.tree_groups.proofs.Writing.{often_then, often_once, number_given}
use Rattle.sled.specs.Flights.{call_in_flight_of, maps_added, KeepsTreePages, effect_of_step, IsStepRefused, DbStepContract, DbSteps, Ends, GoesOn, DbRunsToEnd}
use Rattle.sled.specs.Direct.{effects_until, StaysInChainOrWent, KeepsOrFreesTreePages, Conducts, begun_flight, PointDecided, PointRefused, RunsAtOnce, LeavesAll}
use Rattle.sled.proofs.Operating.{fails_first, passes_plain}
use Rattle.sled.proofs.Testing.{untold_fault, untold_turns}
use Rattle.sled.proofs.Flying.{loses_nothing, quiet_untold, everywhere, moved_state}

-- ---- the store's actions

-- what a step of a call was refused for
abbrev error_of : Went → Option Error
error_of (Refused e) = Some e
error_of other = None

pub acts_then : (r : Option Error) (a b c : Store) → ActsOften a b → effects_until r b c → effects_until r a c
acts_then None a b c first rest = often_then first rest
acts_then (Some e) a b c first rest = (rest.0, often_then first rest.1, rest.2)

acts_of_step : (went : Went) (a b : Store) → effect_of_step went a b → effects_until (error_of went) a b
acts_of_step Moved a b d = often_once a b d
acts_of_step (Yielded key value) a b d = subst (λ (s : Store). ActsOften a s) (sym d) NoAction
acts_of_step (Decided reply) a b d = often_once a b d
acts_of_step (Refused e) a b d = (a, NoAction, d)

-- ---- the pages of the trees

module _ (m n o : Snapshot) (w : Forest) (was : HasForest m w) where
  lasts_then : PagesLast m n → PagesLast n o → PagesLast m o
  lasts_then a b = record {
    pids = λ p e. b.pids p (a.pids p e);
    merges = λ p g live on. go p g on (number_given m w was p g live) (a.merges p g live on);
    gone = λ p given none. b.gone p (a.pids p given) (a.gone p given none);
  }
    where
      go : (p : ℕ) (g : Node) → g.merging ≡ true → m.pids p ≡ true → (nodes_at n p ≡ Some g) ⊎ (nodes_at n p ≡ None) → (nodes_at o p ≡ Some g) ⊎ (nodes_at o p ≡ None)
      go p g on given (inl same) = b.merges p g same on
      go p g on given (inr none) = inr (b.gone p (a.pids p given) none)

pub loses_then : (lost : Option Key) (m n o : Snapshot) (u : Forest) → HasForest n u → KeepsOrFreesTreePages lost m n → KeepsOrFreesTreePages lost n o → KeepsOrFreesTreePages lost m o
loses_then lost m n o u is one two w v was now =
    let a = one w u was is in let b = two u v is now in record {
      is = λ x p on i. let here = was.formed.page x p (was.formed.homed x p i) in go a b x p on (number_given m w was p here.0 here.1.live) (a.is x p on i);
      last = lasts_then m n o w was a.last b.last;
    }
  where
    go : StaysInChainOrWent lost m w n u → StaysInChainOrWent lost n u o v → (x : Place) (p : ℕ) → lost ≢ Some x.tree → m.pids p ≡ true → In p (u.chain x) ⊎ (((d : Node) × (nodes_at n p ≡ Some d) × (d.merging ≡ true)) ⊎ (nodes_at n p ≡ None))
        → In p (v.chain x) ⊎ (((d : Node) × (nodes_at o p ≡ Some d) × (d.merging ≡ true)) ⊎ (nodes_at o p ≡ None))
    go a b x p on given (inl here) = b.is x p on here
    go a b x p on given (inr (inl (d, live, merges))) = elim (b.last.merges p d live merges) [
      | inl same ↦ inr (inl (d, same, merges))
      | inr none ↦ inr (inr none)
    ]
    go a b x p on given (inr (inr none)) = inr (inr (b.last.gone p (a.last.pids p given) none))

pub loses_once : (lost : Option Key) (m n : Snapshot) → KeepsTreePages lost m n → KeepsOrFreesTreePages lost m n
loses_once lost m n l w v was now =
    let s = l w v was now in record {
      is = λ x p on i. elim (s.is x p on i) [
        | inl here ↦ inl here
        | inr merging ↦ inr (inl merging)
      ];
      last = s.last;
    }

pub loses_same : (m : Snapshot) → KeepsOrFreesTreePages None m m
loses_same m = loses_once None m m (loses_nothing None m)

-- ---- the causes of a refusal

-- the two stores count the same faults and have the same readable pages
pub record ReadsAlike (a b : Store) : Type 0 where
  pub faults : b.faults ≡ a.faults
  pub readable : b.is_readable ≡ a.is_readable

alike_acting : (a b : Store) → ActsAtMostOnce a b → ReadsAlike a b
alike_acting a b (inl e) = record { faults = ap (λ (s : Store). s.faults) e; readable = ap (λ (s : Store). s.is_readable) e }
alike_acting a b (inr o) = record { faults = ap (λ (s : Store). s.faults) o.is; readable = ap (λ (s : Store). s.is_readable) o.is }

cause_alike : (s : State) (a m b : Store) (tree : Tree) (call : Call) (e : Error) → ReadsAlike a m → cause_of s m b (ToPoint tree call) e → cause_of s a b (ToPoint tree call) e
cause_alike s a m b tree call error.NoMemory r t = tt
cause_alike s a m b tree call (error.Io fault) r (inl more) = inl (subst (λ n. n < b.faults) r.faults more)
cause_alike s a m b tree call (error.Io fault) r (inr (pid, off)) = inr (pid, subst (λ (f : ℕ → Bool). f pid ≡ false) r.readable off)
cause_alike s a m b tree call other r t = t

pub may_alike : (s : State) (a m b : Store) (tree : Tree) (call : Call) (e : Error) → ReadsAlike a m → MayRefuse s m b (ToPoint tree call) e → MayRefuse s a b (ToPoint tree call) e
may_alike s a m b tree call e r may = record { is = go (must_refuse s (ToPoint tree call)) may.is }
  where
    go : (o : Option MustRefuse) → may_refuse_as o (cause_of s m b (ToPoint tree call)) e → may_refuse_as o (cause_of s a b (ToPoint tree call)) e
    go None t = cause_alike s a m b tree call e r t
    go (Some must) t = t

-- the cause of a step is one of the call
module _ {P M : Type 0} (store : P → Store) (meant : M → Merge) (old : DbValue P M) (slots : ℕ → Option CallInFlight) (f : CallInFlight) (a b : Store) where
  cause_at : (e : Error) → cause_of (state_of store meant old slots 0) a b (ToStep f) e → cause_of (db_state store meant old) a b (ToPoint f.tree f.call) e
  cause_at error.NoMemory t = tt
  cause_at (error.ReportableBug text) t = t.0
  cause_at other t = t

  may_at : (e : Error) → MayRefuse (state_of store meant old slots 0) a b (ToStep f) e → MayRefuse (db_state store meant old) a b (ToPoint f.tree f.call) e
  may_at e may = record { is = go (must_refuse (db_state store meant old) (ToPoint f.tree f.call)) may.is }
    where
      go : (o : Option MustRefuse) → may_refuse_as o (cause_of (state_of store meant old slots 0) a b (ToStep f)) e → may_refuse_as o (cause_of (db_state store meant old) a b (ToPoint f.tree f.call)) e
      go None t = cause_at e t
      go (Some must) t = t

-- ---- what a call does to the database

-- the state without its slots
abbrev no_slots : State → State
no_slots s = record s { slots = λ n. None; slots_given = 0 }

module _ {P M : Type 0} (store : P → Store) (meant : M → Merge) where
  -- two calls one after the other
  pub leaves_then : (k l : List Maps) (lost : Option Key) (old mid new : DbValue P M) → LeavesAll store k lost old mid → IsDb store mid → LeavesAll store l lost mid new → LeavesAll store (k ++ l) lost old new
  leaves_then k l lost old mid new a db b = record {
    extends = extends_then a.extends b.extends;
    others = λ h known. b.others h (a.others h known);
    loses = loses_then lost (snapshot_of_db store old) (snapshot_of_db store mid) (snapshot_of_db store new) db.forest db.is a.loses b.loses;
    sound = λ d. b.sound (a.sound d);
  }

  pub conducts_then : (k l : List Maps) (r : Option Error) (old mid new : DbValue P M) → Conducts store k None old mid → IsDb store mid → Conducts store l r mid new → Conducts store (k ++ l) r old new
  conducts_then k l r old mid new a db b = record {
    acts = acts_then r (store old.pages) (store mid.pages) (store new.pages) a.acts b.acts;
    leaves = leaves_then k l None old mid new a.leaves db b.leaves;
    same = b.same ∙ ap (λ (z : DbValue P M). record z { pages = new.pages; queues = new.queues }) a.same;
  }

  -- a call that does nothing, and one that is refused at its begin for no fault
  pub leaves_none : (old : DbValue P M) → LeavesAll store [] None old old
  leaves_none old = record { extends = extends_same (store old.pages); others = λ h known. known; loses = loses_same (snapshot_of_db store old); sound = λ d. d }

  pub conducts_none : (old : DbValue P M) → Conducts store [] None old old
  conducts_none old = record { acts = NoAction; leaves = leaves_none old; same = refl }

  pub conducts_refused : (old : DbValue P M) (e : Error) → IsStepRefused e (store old.pages) (store old.pages) → Conducts store [] (Some e) old old
  conducts_refused old e quiet = record { acts = (store old.pages, NoAction, quiet); leaves = leaves_none old; same = refl }

  -- the steps of a call
  walk_acts : (n : ℕ) (old new : DbValue P M) (f g : InFlight) (went : Went) → DbSteps store meant n old f went new g → effects_until (error_of went) (store old.pages) (store new.pages)
  walk_acts zero old new f g went (Ends flies off) = acts_of_step went (store old.pages) (store new.pages) flies.does.does
  walk_acts (suc n) old new f g went (GoesOn {mid = mid} {h = h} flies db rest) = acts_then (error_of went) (store old.pages) (store mid.pages) (store new.pages) (often_once (store old.pages) (store mid.pages) flies.does.does) (walk_acts n mid new h g went rest)

  walk_extends : (n : ℕ) (old new : DbValue P M) (f g : InFlight) (went : Went) → DbSteps store meant n old f went new g → AddsCrashStates (maps_added went (maps_of (db_state store meant new))) (store old.pages) (store new.pages)
  walk_extends zero old new f g went (Ends flies off) = flies.step.extends
  walk_extends (suc n) old new f g went (GoesOn {mid = mid} {h = h} flies db rest) = extends_then flies.step.extends (walk_extends n mid new h g went rest)

  walk_others : (n : ℕ) (old new : DbValue P M) (f g : InFlight) (went : Went) → DbSteps store meant n old f went new g → (k : InFlight) → AreApart f k → IsKnown (snapshot_of_db store old) k → IsKnown (snapshot_of_db store new) k
  walk_others zero old new f g went (Ends flies off) k apart known = (flies.knows.others k apart known).0
  walk_others (suc n) old new f g went (GoesOn {mid = mid} {h = h} flies db rest) k apart known = let o = flies.knows.others k apart known in walk_others n mid new h g went rest k (o.1 tt) o.0

  walk_loses : (n : ℕ) (old new : DbValue P M) (f g : InFlight) (went : Went) → DbSteps store meant n old f went new g → KeepsOrFreesTreePages None (snapshot_of_db store old) (snapshot_of_db store new)
  walk_loses zero old new f g went (Ends flies off) = loses_once None (snapshot_of_db store old) (snapshot_of_db store new) flies.loses
  walk_loses (suc n) old new f g went (GoesOn {mid = mid} {h = h} flies db rest) =
      loses_then None (snapshot_of_db store old) (snapshot_of_db store mid) (snapshot_of_db store new) db.forest db.is (loses_once None (snapshot_of_db store old) (snapshot_of_db store mid) flies.loses) (walk_loses n mid new h g went rest)

  walk_sound : (n : ℕ) (old new : DbValue P M) (f g : InFlight) (went : Went) → DbSteps store meant n old f went new g → IsDb store old → IsDb store new
  walk_sound zero old new f g went (Ends flies off) d = flies.sound.keeps d
  walk_sound (suc n) old new f g went (GoesOn {mid = mid} {h = h} flies db rest) d = walk_sound n mid new h g went rest db

  walk_same : (n : ℕ) (old new : DbValue P M) (f g : InFlight) (went : Went) → DbSteps store meant n old f went new g → new ≡ record old { pages = new.pages; queues = new.queues }
  walk_same zero old new f g went (Ends flies off) = flies.step.same
  walk_same (suc n) old new f g went (GoesOn {mid = mid} {h = h} flies db rest) = walk_same n mid new h g went rest ∙ ap (λ (z : DbValue P M). record z { pages = new.pages; queues = new.queues }) flies.step.same

  decided_now : (old new : DbValue P M) (f g : InFlight) (reply : Reply) → DbStepContract store meant old f (Decided reply) new g → DecidesPoint (db_state store meant old) f.job.tree f.job.call reply (db_state store meant new)
  decided_now old new f g reply flies = subst (λ (z : CallInFlight). DecidesPoint (db_state store meant old) z.tree z.call reply (db_state store meant new)) (sym (some_is step.here)) (record { free = step.free; named = step.tree; there = step.there; replies = step.replies; is = ap no_slots step.is })
    where
      step : Decide (state_of store meant old (everywhere f) 0) 0 reply (state_of store meant new (Rattle.sled_store.specs.Update.put_at (everywhere f) 0 None) 0)
      step = (flies.step.steps (everywhere f) 0 0 0 0 refl).is.0

  refused_now : (old new : DbValue P M) (f g : InFlight) (e : Error) → DbStepContract store meant old f (Refused e) new g → RefusesPoint (db_state store meant old) (store old.pages) (store new.pages) f.job.tree f.job.call e (db_state store meant new)
  refused_now old new f g e flies = subst (λ (z : CallInFlight). RefusesPoint (db_state store meant old) (store old.pages) (store new.pages) z.tree z.call e (db_state store meant new)) (sym (some_is step.here)) (record { may = may_at store meant old (everywhere f) step.flying (store old.pages) (store new.pages) e step.may; is = ap no_slots step.is })
    where
      step : RefuseStep (state_of store meant old (everywhere f) 0) (store old.pages) (store new.pages) 0 e (state_of store meant new (Rattle.sled_store.specs.Update.put_at (everywhere f) 0 None) 0)
      step = (flies.step.steps (everywhere f) 0 0 0 0 refl).is.0

  walk_decides : (n : ℕ) (old new : DbValue P M) (f g : InFlight) (reply : Reply) → DbSteps store meant n old f (Decided reply) new g → DecidesPoint (db_state store meant old) f.job.tree f.job.call reply (db_state store meant new)
  walk_decides zero old new f g reply (Ends flies off) = decided_now old new f g reply flies
  walk_decides (suc n) old new f g reply (GoesOn {mid = mid} {h = h} flies db rest) =
      subst (λ (s : State). DecidesPoint s f.job.tree f.job.call reply (db_state store meant new)) (moved_state store meant old mid f h flies)
      (subst (λ (j : Job). DecidesPoint (db_state store meant mid) j.tree j.call reply (db_state store meant new)) (flies.knows.goes_on tt).0 (walk_decides n mid new h g reply rest))

  walk_refuses : (n : ℕ) (old new : DbValue P M) (f g : InFlight) (e : Error) → DbSteps store meant n old f (Refused e) new g → RefusesPoint (db_state store meant old) (store old.pages) (store new.pages) f.job.tree f.job.call e (db_state store meant new)
  walk_refuses zero old new f g e (Ends flies off) = refused_now old new f g e flies
  walk_refuses (suc n) old new f g e (GoesOn {mid = mid} {h = h} flies db rest) =
      let r = subst (λ (s : State). RefusesPoint s (store mid.pages) (store new.pages) f.job.tree f.job.call e (db_state store meant new)) (moved_state store meant old mid f h flies)
      (subst (λ (j : Job). RefusesPoint (db_state store meant mid) (store mid.pages) (store new.pages) j.tree j.call e (db_state store meant new)) (flies.knows.goes_on tt).0 (walk_refuses n mid new h g e rest)) in record {
        may = may_alike (db_state store meant old) (store old.pages) (store mid.pages) (store new.pages) f.job.tree f.job.call e (alike_acting (store old.pages) (store mid.pages) flies.does.does) r.may;
        is = r.is;
      }

  -- ---- a call from its begin to its end

  module _ (old new : DbValue P M) (tree : Tree) (call : Call) (g : InFlight) where
    begun_conducts : (went : Went) → DbRunsToEnd store meant old (begun_flight tree call) went new g → Conducts store (maps_added went (maps_of (db_state store meant new))) (error_of went) old new
    begun_conducts went flies =
        let n = flies.moves in let f = begun_flight tree call in record {
          acts = walk_acts n old new f g went flies.flies;
          leaves = record {
            extends = walk_extends n old new f g went flies.flies;
            others = λ k known. walk_others n old new f g went flies.flies k (record { off = λ q i j. absurd i }) known;
            loses = walk_loses n old new f g went flies.flies;
            sound = walk_sound n old new f g went flies.flies;
          };
          same = walk_same n old new f g went flies.flies;
        }

    begun_decided : (reply : Reply) → DbRunsToEnd store meant old (begun_flight tree call) (Decided reply) new g → PointDecided store meant old tree call reply new
    begun_decided reply flies = record {
      decides = walk_decides flies.moves old new (begun_flight tree call) g reply flies.flies;
      conducts = begun_conducts (Decided reply) flies;
      last = g;
      steps = flies;
    }

    begun_refused : (e : Error) → IsOnKey call → DbRunsToEnd store meant old (begun_flight tree call) (Refused e) new g → PointRefused store meant old tree call e new
    begun_refused e on_key flies = record {
      refuses = walk_refuses flies.moves old new (begun_flight tree call) g e flies.flies;
      conducts = begun_conducts (Refused e) flies;
      steps = inr (g, flies);
      turns = λ tells path clean. elim (cases_lt (length path) turns_limit) [
        | inl fits ↦ absurd ((flies.passes on_key path (subst (λ aim. IsClean (now (store old.pages)) tree.name aim path) (sym ((aims tree call).key on_key)) clean) (unused (length path) fits)).unlimited tells)
        | inr many ↦ many
      ];
    }
      where
        unused : (n : ℕ) → n < turns_limit → 0 + n < turns_limit
        unused n fits = omega arith

    -- the same of a call that was made of a copy of the tree
    module _ (copy : Tree) (f : InFlight) (is : f ≡ begun_flight copy call) (same : copy ≡ tree) where
      begun : f ≡ begun_flight tree call
      begun = is ∙ ap (λ t. begun_flight t call) same

      pub point_decided : (reply : Reply) (went : Went) → went ≡ Decided reply → DbRunsToEnd store meant old f went new g → PointDecided store meant old tree call reply new
      point_decided reply went out flies = begun_decided reply (subst (λ z. DbRunsToEnd store meant old z (Decided reply) new g) begun (subst (λ z. DbRunsToEnd store meant old f z new g) out flies))

      pub point_refused : (e : Error) → IsOnKey call → (went : Went) → went ≡ Refused e → DbRunsToEnd store meant old f went new g → PointRefused store meant old tree call e new
      point_refused e on_key went out flies = begun_refused e on_key (subst (λ z. DbRunsToEnd store meant old z (Refused e) new g) begun (subst (λ z. DbRunsToEnd store meant old f z new g) out flies))

  -- .. and of one that was made at once
  pub at_once_decided : (old new : DbValue P M) (tree : Tree) (call : Call) (made : Result Reply Error) → RunsAtOnce store meant old tree call made new → IfOk made (λ reply. PointDecided store meant old tree call reply new)
  at_once_decided old new tree call (Ok reply) r = begun_decided old new tree call r.last reply r.steps
  at_once_decided old new tree call (Err e) r = tt

  pub at_once_refused : (old new : DbValue P M) (tree : Tree) (call : Call) → IsOnKey call → (made : Result Reply Error) → RunsAtOnce store meant old tree call made new → IfErr made (λ e. PointRefused store meant old tree call e new)
  at_once_refused old new tree call on_key (Ok reply) r = tt
  at_once_refused old new tree call on_key (Err e) r = begun_refused old new tree call r.last e on_key r.steps

-- ---- a call that is refused before its first step

module _ {P M : Type 0} (store : P → Store) (meant : M → Merge) (old : DbValue P M) (tree : Tree) (call : Call) (e : Error) where
  must_some : (o : Option MustRefuse) → must_be_refused_as o e → o ≢ None
  must_some None t is = t
  must_some (Some must) t is = none_some (sym is)

  -- by the tests
  pub point_untested : MustBeRefused (must_refuse (db_state store meant old) (ToPoint tree call)) e → PointRefused store meant old tree call e old
  point_untested tested = record {
    refuses = record { may = record { is = go (must_refuse (db_state store meant old) (ToPoint tree call)) tested.is }; is = refl };
    conducts = conducts_refused store meant old e (quiet_untold e (store old.pages) (untold_fault (must_refuse (db_state store meant old) (ToPoint tree call)) e tested.is));
    steps = inl (record { why = inl (must_some (must_refuse (db_state store meant old) (ToPoint tree call)) tested.is) }, refl);
    turns = λ tells path clean. absurd (untold_turns (must_refuse (db_state store meant old) (ToPoint tree call)) e tested.is tells);
  }
    where
      go : (o : Option MustRefuse) → must_be_refused_as o e → may_refuse_as o (cause_of (db_state store meant old) (store old.pages) (store old.pages) (ToPoint tree call)) e
      go None t = absurd t
      go (Some must) t = t

  -- by those of its tree
  pub tree_untested : MustBeRefused (must_refuse_of (db_state store meant old) (tree ∷ [])) e → PointRefused store meant old tree call e old
  tree_untested tested = point_untested (fails_first store meant old tree e tested call)

  -- for want of memory
  pub point_short : must_refuse (db_state store meant old) (ToPoint tree call) ≡ None → e ≡ error.NoMemory → PointRefused store meant old tree call e old
  point_short must short = subst (λ z. PointRefused store meant old tree call z old) (sym short) (record {
    refuses = record { may = record { is = subst (λ o. may_refuse_as o (cause_of (db_state store meant old) (store old.pages) (store old.pages) (ToPoint tree call)) error.NoMemory) (sym must) tt }; is = refl };
    conducts = conducts_refused store meant old error.NoMemory refl;
    steps = inl (record { why = inr refl }, refl);
    turns = λ tells path clean. absurd tells;
  })

  pub plain_short : needs_operator call ≡ false → must_refuse_of (db_state store meant old) (tree ∷ []) ≡ None → e ≡ error.NoMemory → PointRefused store meant old tree call e old
  plain_short plain must = point_short (passes_plain store meant old tree must call plain)

  -- a call that begins knows nothing of the pages
  pub point_known : (copy : Tree) (f : InFlight) → f ≡ begun_flight copy call → IsKnown (snapshot_of_db store old) f
  point_known copy f is = subst (λ z. IsKnown (snapshot_of_db store old) z) (sym is) (known_new (snapshot_of_db store old) copy call)

  pub point_tested : (copy : Tree) (f : InFlight) → f ≡ begun_flight copy call → copy ≡ tree → must_refuse (db_state store meant old) (ToPoint tree call) ≡ None → must_refuse (db_state store meant old) (ToStep (call_in_flight_of f)) ≡ None
  point_tested copy f is same must = ap (λ (z : InFlight). must_refuse (db_state store meant old) (ToPoint z.job.tree z.job.call)) is ∙ ap (λ t. must_refuse (db_state store meant old) (ToPoint t call)) same ∙ must
