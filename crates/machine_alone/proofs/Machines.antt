-- What the calls of a machine do, by its fields.
use Rattle.std.proofs.Common.{◌≡◌, ◌≢◌, ℕ, ◌+◌, ◌<◌, ◌≤◌, true, false, cond, nat_eq, List, [], ◌∷◌, ◌++◌, Option, Some, None, is_some, option_map, map, sym, refl, ap, ◌∙◌, subst, inl, inr, ◌⊎◌, arith}
use Rattle.std.proofs.Math.Path.{fun_ext}
use Rattle.std.specs.Borrow.{Bor}
use Rattle.std.specs.Option.{option_copied}
use Rattle.sled_nodes.proofs.Basics.{none_some, some_is, false_true, same_or_not}
use Rattle.sled_store.specs.Update.{put_at}
use Rattle.sled_store.specs.Store.{Store, now}
use Rattle.sled_store.specs.theory.Facts.{put_here, put_elsewhere}
use Rattle.sled_nodes.specs.declared.error.Error.{Error}
use Rattle.sled_model.specs.Maps.{Maps, Merge}
use Rattle.sled_model.specs.Answer.{answer_of}
use Rattle.sled_model.specs.State.{CallInFlight, maps_of, range_of}
use Rattle.sled_model.specs.Refusal.{MustRefuse, MayRefuse, must_refuse, may_refuse_as, cause_of, ToBegin, ToStep, turns_limit}
use Rattle.sled_model.specs.Transition.{Transition}
use Rattle.sled_model.specs.declared.event.Event.{Event}
use Rattle.sled_model.specs.declared.call.Call.{Call}
use Rattle.sled_model.specs.declared.call.Call.TheVariants.{Get}
use Rattle.sled_model.specs.declared.call.Whole.TheVariants.{Flush}
use Rattle.sled_model.specs.declared.tree.Tree.{Tree}
use Rattle.sled_model.specs.declared.reply.Reply.TheVariants.{Number}
use Rattle.sled_model.specs.declared.outcome.Outcome.{Outcome}
use Rattle.sled_model.specs.declared.outcome.Outcome.TheVariants as outcome
use Rattle.sled_model.specs.declared.outcome.Step.{Step}
use Rattle.sled_model.specs.declared.outcome.Step.TheVariants as step
use Rattle.sled_model.proofs.Shapes.{call_begun}
use Rattle.tree_laws.specs.Crashes.{StutterEquivalent}
use Rattle.tree_laws.specs.Snapshot.{Snapshot}
use Rattle.tree_laws.specs.Contents.{trees_of}
use Rattle.tree_laws.proofs.Crashing.{matches_same}
use Rattle.sled_tree.specs.Course.{course_of}
use Rattle.sled_tree.specs.declared.flight.Aim.TheVariants.{Own}
use Rattle.sled_tree.specs.declared.flight.InFlight.{InFlight}
use Rattle.sled_tree.specs.declared.flight.Job.{Job}
use Rattle.sled_tree.proofs.Known.{known_new}
use Rattle.tree_laws.specs.declared.flight.Stage.TheVariants.{Root}
use Rattle.sled_tree.specs.declared.flight.Went.{Went}
use Rattle.sled_tree.specs.declared.flight.Went.TheVariants.{Moved, Yielded, Decided, Refused}
use Rattle.sled.specs.Values.{DbValue, state_of, db_state, configuration_of as instant_of_db, snapshot_of_db}
use Rattle.sled.specs.Calls.{MustBeRefused, must_be_refused_as}
use Rattle.sled_tree.specs.Known.{IsKnown, AreApart}
use Rattle.tree_steps.specs.Outcomes.{outcome_of}
use Rattle.sled.specs.Flights.{call_in_flight_of, KeepsTreePages, BringsEvent, DbStepContract, HasMore, follows_as, has_path, slot_after, maps_added}
use Rattle.sled.specs.Flush.{FlushesDb, RefusesFlush}
use Rattle.sled.proofs.Flying.{loses_nothing}
use Rattle.sled.proofs.Flushing.{stays_state, stays_moment}
use Rattle.sled.proofs.Resting.{SameNow, flushed_now, rests_only_faults, rests_now, rests_extends}
use Rattle.machine_alone.specs.Values.{MachineValue, kept_at, slots_of, job_of_call, job_lent, configuration_of}
use Rattle.tree_laws.specs.Forest.{Forest}
use Rattle.sled_tree.specs.Passing.{IsOnPath}
use Rattle.tree_laws.specs.Stages.{owned}
use Rattle.sled_tree.specs.StageAction.{LeaksNoPage}
use Rattle.sled_tree.proofs.Facts.{leaves_same as leaves_same_pages}
use Rattle.machine_alone.specs.CrashMaps.{AreCrashMaps, crash_maps_after}
use Rattle.machine_alone.specs.Step.{MachineStep, MachineKeepsTreePages, BringsAt, MachineStepContract, advances_on_path_as, leaks_no_page_at, owned_by, effect_of_machine_step}
use Rattle.machine_alone.specs.Sound.{IsMachine}
use Rattle.machine_alone.specs.StepsInSlot.{flight_after}
use Rattle.machine_alone.proofs.Runs.{extended, leaves_same}

pub none_there : {A : Type 0} (o : Option A) → is_some o ≡ false → o ≡ None
none_there None e = refl
none_there (Some a) e = false_true (sym e)

-- a function after a change at one place
put_map : {X Y : Type 0} (f : X → Y) (k : ℕ → Option X) (n : ℕ) (x : Option X) (q : ℕ) → option_map f (put_at k n x q) ≡ put_at (λ i. option_map f (k i)) n (option_map f x) q
put_map f k n x q = elim (nat_eq q n) as (λ b. option_map f (cond b x (k q)) ≡ cond b (option_map f x) (option_map f (k q))) [ true ↦ refl | false ↦ refl ]

slots_put : (fs gs : List (ℕ × InFlight)) (slot : ℕ) (x : Option InFlight) → ((q : ℕ) → kept_at gs q ≡ put_at (kept_at fs) slot x q) → slots_of gs ≡ put_at (slots_of fs) slot (option_map call_in_flight_of x)
slots_put fs gs slot x e = fun_ext (λ q. ap (option_map call_in_flight_of) (e q) ∙ put_map call_in_flight_of (kept_at fs) slot x q)

-- what is kept in the other slots is as it was
elsewhere : (fs gs : List (ℕ × InFlight)) (slot : ℕ) (x : Option InFlight) → ((q : ℕ) → kept_at gs q ≡ put_at (kept_at fs) slot x q) → (q : ℕ) → Some slot ≢ Some q → kept_at gs q ≡ kept_at fs q
elsewhere fs gs slot x e q off = e q ∙ put_elsewhere (kept_at fs) slot q x (λ s. off (ap Some (sym s)))

-- whoever is in the list with one number less was in it before
fewer : (fs gs : List (ℕ × InFlight)) (slot : ℕ) → ((q : ℕ) → kept_at gs q ≡ put_at (kept_at fs) slot None q) → (j : ℕ) (f : InFlight) → kept_at gs j ≡ Some f → (kept_at fs j ≡ Some f) × (j ≢ slot)
fewer fs gs slot e j f there = elim (same_or_not j slot) [
  | inl s ↦ none_some (sym (put_here (kept_at fs) slot None) ∙ ap (put_at (kept_at fs) slot None) (sym s) ∙ sym (e j) ∙ there)
  | inr o ↦ (sym (put_elsewhere (kept_at fs) slot j None o) ∙ sym (e j) ∙ there, o)
]

-- a call was put into the slot
other_or_new : (fs gs : List (ℕ × InFlight)) (slot : ℕ) (x : InFlight) → ((q : ℕ) → kept_at gs q ≡ put_at (kept_at fs) slot (Some x) q) → (j : ℕ) (f : InFlight) → kept_at gs j ≡ Some f → ((j ≡ slot) × (f ≡ x)) ⊎ ((j ≢ slot) × (kept_at fs j ≡ Some f))
other_or_new fs gs slot x e j f there = elim (same_or_not j slot) [
  | inl s ↦ inl (s, some_is (sym there ∙ e j ∙ ap (put_at (kept_at fs) slot (Some x)) s ∙ put_here (kept_at fs) slot (Some x)))
  | inr o ↦ inr (o, sym (put_elsewhere (kept_at fs) slot j (Some x) o) ∙ sym (e j) ∙ there)
]

-- a call that begins has nothing that waits, and all of its range to read
begun_flying : (tree : Tree) (call : Call) → call_in_flight_of (record { job = record { tree = tree; call = call }; aim = Own; stage = Root; turns = 0 }) ≡ call_begun tree call
begun_flying tree (Get key) = refl
begun_flying tree other = refl

module _ {P M : Type 0} (store : P → Store) (number : P → ℕ) (meant : M → Merge) (v : MachineValue P M) (im : IsMachine (snapshot_of_db store v.db) v.flights v.slots_given) where
  -- a step that leaves the store, the maps and the other slots as they are
  idle : (s : Step) (o : Outcome) (w : MachineValue P M) → w.db ≡ v.db → Transition (configuration_of store number meant v) s o (configuration_of store number meant w) [] → ((kept : List Maps) → crash_maps_after s o [] (maps_of (configuration_of store number meant w).state) kept ≡ kept ++ []) → MachineStep store number meant v s o w
  idle s o w same told keeps = record {
    maps = [];
    step = told;
    keeps = λ kept l. subst (AreCrashMaps (store w.db.pages)) (sym (keeps kept)) (leaves_same (store w.db.pages) kept (subst (λ (d : DbValue P M). AreCrashMaps (store d.pages) kept) (sym same) l));
  }

  -- no call has the slot
  pub missing_step : (slot : ℕ) → kept_at v.flights slot ≡ None → MachineStepContract store number meant v (step.Step slot) outcome.NoSuchSlot v
  missing_step slot e = record {
    step = idle (step.Step slot) outcome.NoSuchSlot v refl (record { is = ((ap (option_map call_in_flight_of) e, refl), refl) }) (λ kept. refl);
    sound = record { keeps = λ d. d };
    does = record { is = refl };
    follows = record { is = λ f there. none_some (sym e ∙ there) };
    passes = record { is = tt };
    slots = record { starts = tt; others = λ q off. refl };
    loses = record { none = loses_nothing None (snapshot_of_db store v.db) };
    leaves = record { is = λ w is. subst (λ o. LeaksNoPage (owned_by o) (owned_by o) (now (store v.db.pages)) (now (store v.db.pages)) w) (sym e) (leaves_same_pages [] [] (now (store v.db.pages)) w (λ q i. i)) };
    gives_up = record { is = tt };
    tested = record { is = tt };
    way = record { is = tt };
  }

  pub missing_abandon : (slot : ℕ) → kept_at v.flights slot ≡ None → MachineStepContract store number meant v (step.Abandon slot) outcome.NoSuchSlot v
  missing_abandon slot e = record {
    step = idle (step.Abandon slot) outcome.NoSuchSlot v refl (record { is = ((ap (option_map call_in_flight_of) e, refl), refl) }) (λ kept. refl);
    sound = record { keeps = λ d. d };
    does = record { is = refl };
    follows = record { is = tt };
    passes = record { is = tt };
    slots = record { starts = tt; others = λ q off. refl };
    loses = record { none = loses_nothing None (snapshot_of_db store v.db) };
    leaves = record { is = tt };
    gives_up = record { is = tt };
    tested = record { is = tt };
    way = record { is = tt };
  }

  -- a call is given up
  module _ (slot : ℕ) (f : InFlight) (there : kept_at v.flights slot ≡ Some f) (gs : List (ℕ × InFlight)) (gone : (q : ℕ) → kept_at gs q ≡ put_at (kept_at v.flights) slot None q) where
    pub abandoned : MachineStepContract store number meant v (step.Abandon slot) outcome.Abandoned (record v { flights = gs })
    abandoned = record {
      step = idle (step.Abandon slot) outcome.Abandoned (record v { flights = gs }) refl
          (record { is = (record { flying = call_in_flight_of f; here = ap (option_map call_in_flight_of) there; is = ap (λ z. state_of store meant v.db z v.slots_given) (slots_put v.flights gs slot None gone) }, refl) })
          (λ kept. refl);
      sound = record { keeps = λ d. d };
      does = record { is = refl };
      follows = record { is = tt };
      passes = record { is = tt };
      slots = record { starts = tt; others = elsewhere v.flights gs slot None gone };
      loses = record { none = loses_nothing None (snapshot_of_db store v.db) };
      leaves = record { is = tt };
      gives_up = record { is = tt };
      tested = record { is = tt };
      way = record { is = tt };
    }

    pub abandoned_machine : IsMachine (snapshot_of_db store v.db) gs v.slots_given
    abandoned_machine = record {
      given = λ j h k. im.given j h (fewer v.flights gs slot gone j h k).0;
      known = λ j h k. im.known j h (fewer v.flights gs slot gone j h k).0;
      apart = λ j k h g a b off. im.apart j k h g (fewer v.flights gs slot gone j h a).0 (fewer v.flights gs slot gone k g b).0 off;
    }

  -- a call took its step
  module _ (slot : ℕ) (db : DbValue P M) (gs : List (ℕ × InFlight)) where
    abbrev at : Snapshot
    at = snapshot_of_db store v.db

    abbrev after : Snapshot
    after = snapshot_of_db store db

    reach : (f next : InFlight) (went : Went) → kept_at v.flights slot ≡ Some f → DbStepContract store meant v.db f went db next → (kept : Option InFlight) → option_map call_in_flight_of kept ≡ slot_after went next → kept ≡ flight_after went next → ((q : ℕ) → kept_at gs q ≡ put_at (kept_at v.flights) slot kept q)
        → advances_on_path_as store v (step.Step slot) (outcome_of went) (record v { db = db; flights = gs }) → leaks_no_page_at store v (step.Step slot) (outcome_of went) (record v { db = db; flights = gs })
        → MachineStepContract store number meant v (step.Step slot) (outcome_of went) (record v { db = db; flights = gs })
    reach f next went there flies kept is stands are passes leaves = record {
      step = record {
        maps = maps_added went (maps_of (db_state store meant db));
        step = subst (λ z. Transition (configuration_of store number meant v) (step.Step slot) (outcome_of went) (instant_of_db store meant db z v.slots_given (number db.pages)) (maps_added went (maps_of (db_state store meant db)))) (sym (slots_put v.flights gs slot kept are ∙ ap (put_at (slots_of v.flights) slot) is))
            (flies.step.steps (slots_of v.flights) v.slots_given slot (number v.db.pages) (number db.pages) (ap (option_map call_in_flight_of) there));
        keeps = λ before l. extended (maps_added went (maps_of (db_state store meant db))) (store v.db.pages) (store db.pages) flies.step.extends before l;
      };
      sound = record { keeps = flies.sound.keeps };
      does = record { is = acts_flying went flies };
      follows = record {
        is = λ g here must fits. let same : g ≡ f = some_is (sym here ∙ there) in record {
          went = went;
          next = next;
          outcome = refl;
          there = are slot ∙ put_here (kept_at v.flights) slot kept ∙ stands;
          follows = subst (λ (z : InFlight). follows_as (range_of z.job.call) (store v.db.pages) z went (store db.pages) next) (sym same)
              (flies.follows (subst (λ (z : InFlight). must_refuse (db_state store meant v.db) (ToStep (call_in_flight_of z)) ≡ None) same must) (subst (λ (z : InFlight). z.turns < turns_limit) same fits));
        };
      };
      passes = record { is = passes };
      slots = record { starts = tt; others = elsewhere v.flights gs slot kept are };
      loses = record { none = flies.loses };
      leaves = record { is = leaves };
      gives_up = record { is = tt };
      tested = record { is = tt };
      way = record { is = tt };
    }
      where
        here : slots_of v.flights slot ≡ Some (call_in_flight_of f)
        here = ap (option_map call_in_flight_of) there

        acts_flying : (went : Went) → DbStepContract store meant v.db f went db next → effect_of_machine_step (configuration_of store number meant v).state (step.Step slot) (outcome_of went) (store v.db.pages) (store db.pages)
        acts_flying Moved k = k.does.does
        acts_flying (Yielded key value) k = k.does.does
        acts_flying (Decided reply) k = record { does = k.does.does; quiet = λ b. k.does.quiet (brings b); loud = λ event b. k.does.loud event (brings b) }
          where
            brings : {event : Option Event} → BringsAt (configuration_of store number meant v).state slot event → BringsEvent store meant v.db f (Decided reply) event
            brings {event} b = record {
              reply = reply;
              decided = refl;
              tree = b.tree;
              there = subst (λ (z : CallInFlight). (db_state store meant v.db).trees z.tree.name ≡ Some b.tree) (some_is (sym b.here ∙ here)) b.there;
              is = subst (λ (z : CallInFlight). (answer_of b.tree.merge z.call b.tree.map).event ≡ event) (some_is (sym b.here ∙ here)) b.is;
            }
        acts_flying (Refused r) k = k.does.does

    -- on a clean path the call has a page less ahead of it
    further : (f next : InFlight) → kept_at v.flights slot ≡ Some f → DbStepContract store meant v.db f Moved db next → ((q : ℕ) → kept_at gs q ≡ put_at (kept_at v.flights) slot (Some next) q) → advances_on_path_as store v (step.Step slot) outcome.Moved (record v { db = db; flights = gs })
    further f next there flies e path k walks =
        let same : k.flight ≡ f = some_is (sym k.here ∙ there) in
        let p = (flies.passes (subst (λ (z : InFlight). has_path (range_of z.job.call) z.stage) same walks)).is path (subst (λ (z : InFlight). IsOnPath (now (store v.db.pages)) (course_of z) z.stage path) same k.clean) in
        (p.0, p.1, record { flight = next; here = e slot ∙ put_here (kept_at v.flights) slot (Some next); clean = p.2 })

    -- what the call owned and what it owns, by its slot
    owns : (f : InFlight) (o : Option InFlight) → kept_at v.flights slot ≡ Some f → ((q : ℕ) → kept_at gs q ≡ put_at (kept_at v.flights) slot o q) → (w : Forest) → LeaksNoPage (owned f.stage) (owned_by o) (now (store v.db.pages)) (now (store db.pages)) w
        → LeaksNoPage (owned_by (kept_at v.flights slot)) (owned_by (kept_at gs slot)) (now (store v.db.pages)) (now (store db.pages)) w
    owns f o there are w l =
        subst (λ z. LeaksNoPage (owned_by (kept_at v.flights slot)) (owned_by z) (now (store v.db.pages)) (now (store db.pages)) w) (sym (are slot ∙ put_here (kept_at v.flights) slot o))
        (subst (λ z. LeaksNoPage (owned_by z) (owned_by o) (now (store v.db.pages)) (now (store db.pages)) w) (sym there) l)

    -- what the others know is kept
    kept : (f next : InFlight) (went : Went) → kept_at v.flights slot ≡ Some f → DbStepContract store meant v.db f went db next → (j : ℕ) (h : InFlight) → j ≢ slot → kept_at v.flights j ≡ Some h → IsKnown after h × (HasMore went → AreApart next h)
    kept f next went there flies j h off e = flies.knows.others h (im.apart slot j f h there e (λ s. off (sym s))) (im.known j h e)

    ended_machine : (f next : InFlight) (went : Went) → kept_at v.flights slot ≡ Some f → DbStepContract store meant v.db f went db next → ((q : ℕ) → kept_at gs q ≡ put_at (kept_at v.flights) slot None q) → IsMachine after gs v.slots_given
    ended_machine f next went there flies e =
        let less = fewer v.flights gs slot e in record {
          given = λ j h k. im.given j h (less j h k).0;
          known = λ j h k. let l = less j h k in (kept f next went there flies j h l.1 l.0).0;
          apart = λ j k h g a b off. im.apart j k h g (less j h a).0 (less k g b).0 off;
        }

    -- .. and the call has more to do
    going_machine : (f next : InFlight) (went : Went) → HasMore went → kept_at v.flights slot ≡ Some f → DbStepContract store meant v.db f went db next → ((q : ℕ) → kept_at gs q ≡ put_at (kept_at v.flights) slot (Some next) q) → IsMachine after gs v.slots_given
    going_machine f next went more there flies e =
        let cases = other_or_new v.flights gs slot next e in record {
          given = λ j h k. elim (cases j h k) [
            | inl s ↦ subst (λ z. z ≤ v.slots_given) (sym s.0) (im.given slot f there)
            | inr o ↦ im.given j h o.1
          ];
          known = λ j h k. elim (cases j h k) [
            | inl s ↦ subst (λ z. IsKnown after z) (sym s.1) (flies.knows.goes_on more).1
            | inr o ↦ (kept f next went there flies j h o.0 o.1).0
          ];
          apart = λ j k h g a b off. elim (cases j h a) [
            | inl s ↦ elim (cases k g b) [
              | inl t ↦ absurd (off (s.0 ∙ sym t.0))
              | inr t ↦ subst (λ z. AreApart z g) (sym s.1) ((kept f next went there flies k g t.0 t.1).1 more)
            ]
            | inr s ↦ elim (cases k g b) [
              | inl t ↦ subst (λ z. AreApart h z) (sym t.1) (let z = (kept f next went there flies j h s.0 s.1).1 more in record { off = λ q x y. z.off q y x })
              | inr t ↦ im.apart j k h g s.1 t.1 off
            ]
          ];
        }

    pub stepped_as : (f next : InFlight) (went : Went) → kept_at v.flights slot ≡ Some f → DbStepContract store meant v.db f went db next → ((q : ℕ) → kept_at gs q ≡ put_at (kept_at v.flights) slot (flight_after went next) q) → MachineStepContract store number meant v (step.Step slot) (outcome_of went) (record v { db = db; flights = gs }) × IsMachine after gs v.slots_given
    stepped_as f next Moved there flies e = (reach f next Moved there flies (Some next) refl refl e (further f next there flies e) (λ w is. owns f (Some next) there e w (flies.leaves w is)), going_machine f next Moved tt there flies e)
    stepped_as f next (Yielded key value) there flies e = (reach f next (Yielded key value) there flies (Some next) refl refl e tt (λ w is. owns f (Some next) there e w (flies.leaves w is)), going_machine f next (Yielded key value) tt there flies e)
    stepped_as f next (Decided reply) there flies e = (reach f next (Decided reply) there flies None refl refl e tt (λ w is. owns f None there e w (flies.leaves w is)), ended_machine f next (Decided reply) there flies e)
    stepped_as f next (Refused r) there flies e = (reach f next (Refused r) there flies None refl refl e tt tt, ended_machine f next (Refused r) there flies e)

  -- a call begins, or is refused
  pub begin_refused : (tree : Tree) (call : Call) (e : Error) → MayRefuse (state_of store meant v.db (slots_of v.flights) v.slots_given) (store v.db.pages) (store v.db.pages) (ToBegin tree call) e → MachineStepContract store number meant v (step.Begin tree call) (outcome.Refused e) v
  begin_refused tree call e may = record {
    step = idle (step.Begin tree call) (outcome.Refused e) v refl (record { is = (may, refl, refl) }) (λ kept. refl);
    sound = record { keeps = λ d. d };
    does = record { is = refl };
    follows = record { is = tt };
    passes = record { is = tt };
    slots = record { starts = tt; others = λ q off. refl };
    loses = record { none = loses_nothing None (snapshot_of_db store v.db) };
    leaves = record { is = tt };
    gives_up = record { is = tt };
    tested = record { is = tt };
    way = record { is = tt };
  }

  pub begin_untested : (tree : Tree) (call : Call) (e : Error) → MustBeRefused (must_refuse (db_state store meant v.db) (ToBegin tree call)) e → MachineStepContract store number meant v (step.Begin tree call) (outcome.Refused e) v
  begin_untested tree call e tested = begin_refused tree call e (record { is = go (must_refuse (db_state store meant v.db) (ToBegin tree call)) tested.is })
    where
      go : (o : Option MustRefuse) → must_be_refused_as o e → may_refuse_as o (cause_of (state_of store meant v.db (slots_of v.flights) v.slots_given) (store v.db.pages) (store v.db.pages) (ToBegin tree call)) e
      go None t = absurd t
      go (Some m) t = t

  pub free_slot : (slot : ℕ) → slot ≡ v.slots_given + 1 → kept_at v.flights slot ≡ None
  free_slot slot next = go (kept_at v.flights slot) refl
    where
      go : (o : Option InFlight) → kept_at v.flights slot ≡ o → o ≡ None
      go None k = refl
      go (Some g) k = let h = im.given slot g k in absurd (omega arith)

  module _ (tree : Tree) (call : Call) (must : must_refuse (db_state store meant v.db) (ToBegin tree call) ≡ None) where
    pub begin_caused : (e : Error) → cause_of (state_of store meant v.db (slots_of v.flights) v.slots_given) (store v.db.pages) (store v.db.pages) (ToBegin tree call) e → MachineStepContract store number meant v (step.Begin tree call) (outcome.Refused e) v
    begin_caused e cause = begin_refused tree call e (record { is = subst (λ o. may_refuse_as o (cause_of (state_of store meant v.db (slots_of v.flights) v.slots_given) (store v.db.pages) (store v.db.pages) (ToBegin tree call)) e) (sym must) cause })

    module _ (f : InFlight) (is : f ≡ record { job = record { tree = tree; call = call }; aim = Own; stage = Root; turns = 0 }) (slot : ℕ) (next : slot ≡ v.slots_given + 1) (gs : List (ℕ × InFlight)) (added : (q : ℕ) → kept_at gs q ≡ put_at (kept_at v.flights) slot (Some f) q) where
      pub begun_call : MachineStepContract store number meant v (step.Begin tree call) (outcome.Begun slot) (record v { flights = gs; slots_given = slot })
      begun_call = record {
        step = idle (step.Begin tree call) (outcome.Begun slot) (record v { flights = gs; slots_given = slot }) refl
            (record {
              is = (
                record {
                  free = must;
                  next = next;
                  is = ap (λ z. state_of store meant v.db z slot) (slots_put v.flights gs slot (Some f) added ∙ ap (λ z. put_at (slots_of v.flights) slot (Some z)) (ap call_in_flight_of is ∙ begun_flying tree call));
                },
                refl,
              );
            })
            (λ kept. refl);
        sound = record { keeps = λ d. d };
        does = record { is = refl };
        follows = record { is = tt };
        passes = record { is = tt };
        slots = record { starts = added slot ∙ put_here (kept_at v.flights) slot (Some f) ∙ ap Some is; others = elsewhere v.flights gs slot (Some f) added };
        loses = record { none = loses_nothing None (snapshot_of_db store v.db) };
        leaves = record { is = tt };
        gives_up = record { is = tt };
        tested = record { is = tt };
        way = record { is = tt };
      }

      pub begun_machine : IsMachine (snapshot_of_db store v.db) gs slot
      begun_machine =
          let cases = other_or_new v.flights gs slot f added in record {
            given = λ j h k. elim (cases j h k) [
              | inl s ↦ let z = s.0 in omega arith
              | inr o ↦ let z = im.given j h o.1 in omega arith
            ];
            known = λ j h k. elim (cases j h k) [
              | inl s ↦ subst (λ z. IsKnown (snapshot_of_db store v.db) z) (sym (s.1 ∙ is)) (known_new (snapshot_of_db store v.db) tree call)
              | inr o ↦ im.known j h o.1
            ];
            apart = λ j k h g a b off. elim (cases j h a) [
              | inl s ↦ subst (λ z. AreApart z g) (sym (s.1 ∙ is)) (record { off = λ q x y. x })
              | inr s ↦ elim (cases k g b) [
                | inl t ↦ subst (λ z. AreApart h z) (sym (t.1 ∙ is)) (record { off = λ q x y. y })
                | inr t ↦ im.apart j k h g s.1 t.1 off
              ]
            ];
          }

  -- a flush
  module _ (db : DbValue P M) (same : db ≡ record (v.db) { pages = db.pages }) (stays : SameNow (store v.db.pages) (store db.pages)) where
    flush_loses : (o : Outcome) → MachineKeepsTreePages store v (step.Whole Flush) o (record v { db = db })
    flush_loses o = record { none = subst (λ (m : Snapshot). KeepsTreePages None (snapshot_of_db store v.db) m) (sym (stays_moment store meant v.db db same stays)) (loses_nothing None (snapshot_of_db store v.db)) }

    pub stays_machine : IsMachine (snapshot_of_db store db) v.flights v.slots_given
    stays_machine = subst (λ (m : Snapshot). IsMachine m v.flights v.slots_given) (sym (stays_moment store meant v.db db same stays)) im

  pub flushed_all : (db : DbValue P M) (n : ℕ) → FlushesDb store number meant v.db n db → MachineStepContract store number meant v (step.Whole Flush) (outcome.Decided (Number n)) (record v { db = db })
  flushed_all db n f = record {
    step = record {
      maps = [];
      step = record { is = (f.free, ap Number f.answers, stays_state store meant v.db db f.same (flushed_now f.is) (slots_of v.flights) v.slots_given, refl) };
      keeps = λ kept l. record { is = subst (λ z. StutterEquivalent z (maps_of (db_state store meant db) ∷ [])) (sym (ap (map trees_of) f.left ∙ ap (λ z. z ∷ []) f.maps)) (matches_same _) };
    };
    sound = record { keeps = f.sound };
    does = record { is = f.is };
    follows = record { is = tt };
    passes = record { is = tt };
    slots = record { starts = tt; others = λ q off. refl };
    loses = flush_loses db f.same (flushed_now f.is) (outcome.Decided (Number n));
    leaves = record { is = tt };
    gives_up = record { is = tt };
    tested = record { is = tt };
    way = record { is = tt };
  }

  pub flushed_machine : (db : DbValue P M) (n : ℕ) → FlushesDb store number meant v.db n db → IsMachine (snapshot_of_db store db) v.flights v.slots_given
  flushed_machine db n f = stays_machine db f.same (flushed_now f.is)

  pub flush_refused : (db : DbValue P M) (e : Error) → RefusesFlush store meant v.db db e → MachineStepContract store number meant v (step.Whole Flush) (outcome.Refused e) (record v { db = db })
  flush_refused db e f = let rests = rests_only_faults e (store v.db.pages) (store db.pages) f.is in record {
    step = record {
      maps = [];
      step = record { is = (f.may (slots_of v.flights) v.slots_given, stays_state store meant v.db db f.same (rests_now rests) (slots_of v.flights) v.slots_given, refl) };
      keeps = λ kept l. extended [] (store v.db.pages) (store db.pages) (rests_extends rests) kept l;
    };
    sound = record { keeps = f.sound };
    does = record { is = f.is };
    follows = record { is = tt };
    passes = record { is = tt };
    slots = record { starts = tt; others = λ q off. refl };
    loses = flush_loses db f.same (rests_now rests) (outcome.Refused e);
    leaves = record { is = tt };
    gives_up = record { is = tt };
    tested = record { is = tt };
    way = record { is = tt };
  }

  pub refused_machine : (db : DbValue P M) (e : Error) → RefusesFlush store meant v.db db e → IsMachine (snapshot_of_db store db) v.flights v.slots_given
  refused_machine db e f = stays_machine db f.same (rests_now (rests_only_faults e (store v.db.pages) (store db.pages) f.is))

-- The same, where a method knows the machine and the slot by their fields
module _ {P M : Type 0} (store : P → Store) (number : P → ℕ) (meant : M → Merge) (inside old : MachineValue P M) (e : inside ≡ old) (im : IsMachine (snapshot_of_db store inside.db) inside.flights inside.slots_given) (n slot : ℕ) (same : n ≡ slot) where
  -- no call has the slot, and all stays as it was
  module _ (db : DbValue P M) (gs : List (ℕ × InFlight)) (d : db ≡ inside.db) (g : gs ≡ inside.flights) where
    pub rests_as : inside ≡ record inside { db = db; flights = gs }
    rests_as = ap (λ z. record inside { db = z }) (sym d) ∙ ap (λ z. record inside { db = db; flights = z }) (sym g)

    pub rests_machine : IsMachine (snapshot_of_db store db) gs inside.slots_given
    rests_machine = subst (λ (m : MachineValue P M). IsMachine (snapshot_of_db store m.db) m.flights m.slots_given) rests_as im

    pub missing_step_as : kept_at inside.flights n ≡ None → MachineStepContract store number meant old (step.Step slot) outcome.NoSuchSlot (record inside { db = db; flights = gs })
    missing_step_as k = subst (λ z. MachineStepContract store number meant old (step.Step slot) outcome.NoSuchSlot z) (sym e ∙ rests_as)
        (subst (λ s. MachineStepContract store number meant old (step.Step s) outcome.NoSuchSlot old) same (subst (λ z. MachineStepContract store number meant z (step.Step n) outcome.NoSuchSlot z) e (missing_step store number meant inside im n k)))

    pub missing_abandon_as : kept_at inside.flights n ≡ None → MachineStepContract store number meant old (step.Abandon slot) outcome.NoSuchSlot (record inside { db = db; flights = gs })
    missing_abandon_as k = subst (λ z. MachineStepContract store number meant old (step.Abandon slot) outcome.NoSuchSlot z) (sym e ∙ rests_as)
        (subst (λ s. MachineStepContract store number meant old (step.Abandon s) outcome.NoSuchSlot old) same (subst (λ z. MachineStepContract store number meant z (step.Abandon n) outcome.NoSuchSlot z) e (missing_abandon store number meant inside im n k)))

  pub abandoned_as : (f : InFlight) → kept_at inside.flights n ≡ Some f → (gs : List (ℕ × InFlight)) → ((q : ℕ) → kept_at gs q ≡ put_at (kept_at inside.flights) n None q) → MachineStepContract store number meant old (step.Abandon slot) outcome.Abandoned (record inside { flights = gs })
  abandoned_as f there gs gone = subst (λ k. MachineStepContract store number meant old (step.Abandon k) outcome.Abandoned (record inside { flights = gs })) same (subst (λ z. MachineStepContract store number meant z (step.Abandon n) outcome.Abandoned (record inside { flights = gs })) e (abandoned store number meant inside im n f there gs gone))

  pub stepped_slot : (db : DbValue P M) (gs : List (ℕ × InFlight)) (o : Outcome) (f next : InFlight) (went : Went) → o ≡ outcome_of went → kept_at inside.flights n ≡ Some f → DbStepContract store meant inside.db f went db next → ((q : ℕ) → kept_at gs q ≡ put_at (kept_at inside.flights) n (flight_after went next) q)
      → MachineStepContract store number meant old (step.Step slot) o (record inside { db = db; flights = gs })
  stepped_slot db gs o f next went is there flies are =
      subst (λ z. MachineStepContract store number meant old (step.Step slot) z (record inside { db = db; flights = gs })) (sym is)
      (subst (λ k. MachineStepContract store number meant old (step.Step k) (outcome_of went) (record inside { db = db; flights = gs })) same
      (subst (λ z. MachineStepContract store number meant z (step.Step n) (outcome_of went) (record inside { db = db; flights = gs })) e (stepped_as store number meant inside im n db gs f next went there flies are).0))

module _ {P M : Type 0} (store : P → Store) (number : P → ℕ) (meant : M → Merge) (inside old : MachineValue P M) (e : inside ≡ old) (im : IsMachine (snapshot_of_db store inside.db) inside.flights inside.slots_given) where
  pub untested_as : (tree : Tree) (call : Call) (r : Error) → MustBeRefused (must_refuse (db_state store meant inside.db) (ToBegin tree call)) r → MachineStepContract store number meant old (step.Begin tree call) (outcome.Refused r) old
  untested_as tree call r t = subst (λ z. MachineStepContract store number meant z (step.Begin tree call) (outcome.Refused r) z) e (begin_untested store number meant inside im tree call r t)

  pub caused_as : (tree : Tree) (call : Call) (r : Error) → must_refuse (db_state store meant inside.db) (ToBegin tree call) ≡ None → cause_of (state_of store meant inside.db (slots_of inside.flights) inside.slots_given) (store inside.db.pages) (store inside.db.pages) (ToBegin tree call) r → MachineStepContract store number meant old (step.Begin tree call) (outcome.Refused r) old
  caused_as tree call r must cause = subst (λ z. MachineStepContract store number meant z (step.Begin tree call) (outcome.Refused r) z) e (begin_caused store number meant inside im tree call must r cause)

  tested_inside : (tree : Tree) (call : Call) → must_refuse (db_state store meant old.db) (ToBegin tree call) ≡ None → must_refuse (db_state store meant inside.db) (ToBegin tree call) ≡ None
  tested_inside tree call must = subst (λ (z : MachineValue P M). must_refuse (db_state store meant z.db) (ToBegin tree call) ≡ None) (sym e) must

  -- .. where the list has room, and so may be another one
  pub begun_as : (tree copy : Tree) (call : Call) → copy ≡ tree → must_refuse (db_state store meant old.db) (ToBegin tree call) ≡ None → (f : InFlight) → f ≡ record { job = record { tree = copy; call = call }; aim = Own; stage = Root; turns = 0 }
      → (slot : ℕ) → slot ≡ inside.slots_given + 1 → (gs : List (ℕ × InFlight)) → ((q : ℕ) → kept_at gs q ≡ put_at (kept_at inside.flights) slot (Some f) q) → MachineStepContract store number meant old (step.Begin tree call) (outcome.Begun slot) (record inside { flights = gs; slots_given = slot })
  begun_as tree copy call c must f is slot next gs g = subst (λ z. MachineStepContract store number meant z (step.Begin tree call) (outcome.Begun slot) (record inside { flights = gs; slots_given = slot })) e
      (begun_call store number meant inside im tree call (tested_inside tree call must) f (is ∙ ap (λ t. record { job = record { tree = t; call = call }; aim = Own; stage = Root; turns = 0 }) c) slot next gs g)

  pub begun_machine_as : (tree copy : Tree) (call : Call) → copy ≡ tree → must_refuse (db_state store meant old.db) (ToBegin tree call) ≡ None → (f : InFlight) → f ≡ record { job = record { tree = copy; call = call }; aim = Own; stage = Root; turns = 0 }
      → (slot : ℕ) → slot ≡ inside.slots_given + 1 → (gs : List (ℕ × InFlight)) → ((q : ℕ) → kept_at gs q ≡ put_at (kept_at inside.flights) slot (Some f) q) → IsMachine (snapshot_of_db store inside.db) gs slot
  begun_machine_as tree copy call c must f is slot next gs g = begun_machine store number meant inside im tree call (tested_inside tree call must) f (is ∙ ap (λ t. record { job = record { tree = t; call = call }; aim = Own; stage = Root; turns = 0 }) c) slot next gs g

  pub flushed_as : (db : DbValue P M) (n : ℕ) → FlushesDb store number meant inside.db n db → MachineStepContract store number meant old (step.Whole Flush) (outcome.Decided (Number n)) (record inside { db = db })
  flushed_as db n f = subst (λ z. MachineStepContract store number meant z (step.Whole Flush) (outcome.Decided (Number n)) (record inside { db = db })) e (flushed_all store number meant inside im db n f)

  pub flush_refused_as : (db : DbValue P M) (r : Error) → RefusesFlush store meant inside.db db r → MachineStepContract store number meant old (step.Whole Flush) (outcome.Refused r) (record inside { db = db })
  flush_refused_as db r f = subst (λ z. MachineStepContract store number meant z (step.Whole Flush) (outcome.Refused r) (record inside { db = db })) e (flush_refused store number meant inside im db r f)

  -- no memory, where the list of calls may have got room
  pub memory_as : (tree : Tree) (call : Call) (r : Error) → must_refuse (db_state store meant inside.db) (ToBegin tree call) ≡ None → r ≡ Rattle.sled_nodes.specs.declared.error.Error.TheVariants.NoMemory → MachineStepContract store number meant old (step.Begin tree call) (outcome.Refused r) old
  memory_as tree call r must m = subst (λ x. MachineStepContract store number meant old (step.Begin tree call) (outcome.Refused x) old) (sym m) (caused_as tree call Rattle.sled_nodes.specs.declared.error.Error.TheVariants.NoMemory must tt)

  -- .. of a call that passed the tests before
  pub short_as : (tree : Tree) (call : Call) (r : Error) → must_refuse (db_state store meant old.db) (ToBegin tree call) ≡ None → r ≡ Rattle.sled_nodes.specs.declared.error.Error.TheVariants.NoMemory → MachineStepContract store number meant old (step.Begin tree call) (outcome.Refused r) old
  short_as tree call r must m = memory_as tree call r (tested_inside tree call must) m

  pub room_as : (tree : Tree) (call : Call) (r : Error) → must_refuse (db_state store meant old.db) (ToBegin tree call) ≡ None → r ≡ Rattle.sled_nodes.specs.declared.error.Error.TheVariants.NoMemory → (gs : List (ℕ × InFlight)) → gs ≡ inside.flights
      → MachineStepContract store number meant old (step.Begin tree call) (outcome.Refused r) (record inside { flights = gs })
  room_as tree call r must m gs g = subst (λ z. MachineStepContract store number meant old (step.Begin tree call) (outcome.Refused r) z) (sym e ∙ ap (λ z. record inside { flights = z }) (sym g)) (short_as tree call r must m)
