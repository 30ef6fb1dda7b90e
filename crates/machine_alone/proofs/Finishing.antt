-- Steps of one call until it ends.
use Rattle.std.proofs.Common.{◌≡◌, ◌≢◌, ℕ, zero, suc, ◌+◌, ◌<◌, cond, List, [], ◌∷◌, length, Some, None, option_map, inr, sym, refl, ap, ◌∙◌, subst, arith}
use Rattle.std.specs.Cmp.{unsigned_tied}
use Rattle.std.specs.declared.ops.Bound.TheVariants.{Included}
use Rattle.sled_nodes.proofs.Basics.{none_some, some_is}
use Rattle.sled_store.specs.Update.{put_at}
use Rattle.sled_store.specs.Store.{Store, now}
use Rattle.sled_store.specs.theory.Facts.{put_here}
use Rattle.sled_nodes.specs.declared.error.Error.{Error}
use Rattle.sled_model.specs.Answer.{key_of}
use Rattle.sled_model.specs.Maps.{Merge}
use Rattle.sled_model.specs.Refusal.{TellsTurns, ToBegin, ToStep, must_refuse, turns_limit}
use Rattle.sled_model.specs.State.{CallInFlight, IsOnKey, range_of}
use Rattle.sled_model.specs.declared.call.Call.{Call}
use Rattle.sled_model.specs.declared.tree.Tree.{Tree}
use Rattle.sled_model.specs.declared.reply.Reply.{Reply}
use Rattle.sled_model.specs.declared.outcome.Outcome.{Outcome}
use Rattle.sled_model.specs.declared.outcome.Outcome.TheVariants as outcome
use Rattle.sled_model.specs.declared.outcome.Step.TheVariants as step
use Rattle.tree_laws.specs.Paths.{IsClean}
use Rattle.sled_tree.specs.Known.{IsKnown}
use Rattle.sled_tree.specs.Passing.{IsOnPath}
use Rattle.sled_tree.specs.Course.{course_of}
use Rattle.sled_tree.specs.declared.flight.Aim.TheVariants.{Own}
use Rattle.sled_tree.specs.declared.flight.InFlight.{InFlight}
use Rattle.sled_tree.proofs.Known.{known_new as known_begun}
use Rattle.tree_laws.specs.declared.flight.Stage.TheVariants.{Root}
use Rattle.sled_tree.specs.declared.flight.Went.{Went}
use Rattle.sled_tree.specs.declared.flight.Went.TheVariants.{Moved, Yielded, Decided, Refused}
use Rattle.sled.specs.Values.{DbValue, db_state, snapshot_of_db}
use Rattle.tree_steps.specs.Outcomes.{outcome_of}
use Rattle.sled.specs.Flights.{DbSteps, DbRunsToEnd, Ends, GoesOn, call_in_flight_of, has_turns}
use Rattle.sled.proofs.Flying.{end_reached, only_ends}
use Rattle.machine_alone.specs.Values.{MachineValue, kept_at}
use Rattle.machine_alone.specs.Sound.{IsMachine}
use Rattle.machine_alone.specs.Step.{MachineStepContract}
use Rattle.machine_alone.specs.StepsInSlot.{flight_after}
use Rattle.machine_alone.specs.Run.{MachineRun, MachineSteps, NoCalls, OneCall}
use Rattle.machine_alone.specs.Finish.{steps_of, outcomes_of, RunsToEnd, Completes}
use Rattle.machine_alone.proofs.Steps.{put_same, put_again, put_itself}
use Rattle.machine_alone.proofs.Runs.{performs_none, performs_first}
use Rattle.machine_alone.proofs.Machines.{missing_step, stepped_as, begun_call, begun_machine, free_slot, rests_as}

-- a call stands in its slot as it is now, wherever it stood
onto : (fs : List (ℕ × InFlight)) (slot : ℕ) (h : InFlight) (q : ℕ) → kept_at ((slot, h) ∷ fs) q ≡ put_at (kept_at fs) slot (Some h) q
onto fs slot h q = ap (λ b. cond b (Some h) (kept_at fs q)) (unsigned_tied q slot)

no_move : (went : Went) → went ≢ Moved → outcome_of went ≢ outcome.Moved
no_move Moved off e = off refl
no_move (Yielded key value) off e = apart e
  where
    apart : outcome.Yielded key value ≡ outcome.Moved → ⊥
    apart e = cc
no_move (Decided reply) off e = apart e
  where
    apart : outcome.Decided reply ≡ outcome.Moved → ⊥
    apart e = cc
no_move (Refused r) off e = apart e
  where
    apart : outcome.Refused r ≡ outcome.Moved → ⊥
    apart e = cc

missing_off : outcome.NoSuchSlot ≢ outcome.Moved
missing_off e = cc

-- a call that is refused is told why
same_error : {x e : Error} → outcome.Refused x ≡ outcome.Refused e → x ≡ e
same_error e = cc

tells_turns : (went : Went) → has_turns went → (e : Error) → outcome_of went ≡ outcome.Refused e → TellsTurns e → ⊥
tells_turns Moved has e is tells = apart is
  where
    apart : outcome.Moved ≡ outcome.Refused e → ⊥
    apart e = cc
tells_turns (Yielded key value) has e is tells = apart is
  where
    apart : outcome.Yielded key value ≡ outcome.Refused e → ⊥
    apart e = cc
tells_turns (Decided reply) has e is tells = apart is
  where
    apart : outcome.Decided reply ≡ outcome.Refused e → ⊥
    apart e = cc
tells_turns (Refused x) has e is tells = has (subst TellsTurns (sym (same_error is)) tells)

module _ {P M : Type 0} (store : P → Store) (number : P → ℕ) (meant : M → Merge) (slot given : ℕ) where
  abbrev value : DbValue P M → List (ℕ × InFlight) → MachineValue P M
  value d fs = record { db = d; flights = fs; slots_given = given }

  -- so many steps of the slot that go on, and one more that comes out so
  pub record EndsIn (n : ℕ) (o : Outcome) (a b : MachineValue P M) : Type 0 where
    pub run : MachineRun store number meant a (steps_of slot n) (outcomes_of n o) b
    pub each : MachineSteps store number meant a (steps_of slot n) (outcomes_of n o) b

  -- the last step
  pub ends_now : (o : Outcome) (a b : MachineValue P M) → MachineStepContract store number meant a (step.Step slot) o b → EndsIn zero o a b
  ends_now o a b r = record { run = performs_first store number meant a b b (step.Step slot) o [] [] r (performs_none store number meant b); each = OneCall r NoCalls }

  -- one step more before it
  ends_later : (n : ℕ) (o : Outcome) (a m b : MachineValue P M) → MachineStepContract store number meant a (step.Step slot) outcome.Moved m → EndsIn n o m b → EndsIn (suc n) o a b
  ends_later n o a m b r e = record { run = performs_first store number meant a m b (step.Step slot) outcome.Moved (steps_of slot n) (outcomes_of n o) r e.run; each = OneCall r e.each }

  -- the call in the slot goes on to its end, and then nothing is kept there; or a scan to its next pair, and then it is
  finishes_from : (n : ℕ) (d e : DbValue P M) (fs gs : List (ℕ × InFlight)) (f g : InFlight) (went : Went) → DbSteps store meant n d f went e g → IsMachine (snapshot_of_db store d) fs given → kept_at fs slot ≡ Some f
      → ((q : ℕ) → kept_at gs q ≡ put_at (kept_at fs) slot (flight_after went g) q) → EndsIn n (outcome_of went) (value d fs) (value e gs) × IsMachine (snapshot_of_db store e) gs given
  finishes_from zero d e fs gs f g went (Ends flies off) im there are =
      let last = stepped_as store number meant (value d fs) im slot e gs f g went there flies are in
      (ends_now (outcome_of went) (value d fs) (value e gs) last.0, last.1)
  finishes_from (suc n) d e fs gs f g went (GoesOn {mid = m} {h = h} flies db rest) im there are =
      let next = stepped_as store number meant (value d fs) im slot m ((slot, h) ∷ fs) f h Moved there flies (onto fs slot h) in
      let later = finishes_from n m e ((slot, h) ∷ fs) gs h g went rest next.1 (onto fs slot h slot ∙ put_here (kept_at fs) slot (Some h))
      (λ q. are q ∙ sym (put_same (kept_at ((slot, h) ∷ fs)) (put_at (kept_at fs) slot (Some h)) slot (flight_after went g) q (onto fs slot h q) ∙ put_again (kept_at fs) slot (Some h) (flight_after went g) q)) in
      (ends_later n (outcome_of went) (value d fs) (value m ((slot, h) ∷ fs)) (value e gs) next.0 later.0, later.1)

module _ {P M : Type 0} (store : P → Store) (number : P → ℕ) (meant : M → Merge) (v : MachineValue P M) (im : IsMachine (snapshot_of_db store v.db) v.flights v.slots_given) where
  pub finished_all : (slot : ℕ) (e : DbValue P M) (gs : List (ℕ × InFlight)) (f g : InFlight) (went : Went) → kept_at v.flights slot ≡ Some f → DbRunsToEnd store meant v.db f went e g → ((q : ℕ) → kept_at gs q ≡ put_at (kept_at v.flights) slot (flight_after went g) q)
      → RunsToEnd store number meant v slot (outcome_of went) (record v { db = e; flights = gs }) × IsMachine (snapshot_of_db store e) gs v.slots_given
  finished_all slot e gs f g went there flies are =
      let all = finishes_from store number meant slot v.slots_given flies.moves v.db e v.flights gs f g went flies.flies im there are in (
        record {
          moves = flies.moves;
          ends = no_move went (end_reached store meant v.db e f g went flies);
          run = all.0.run;
          each = all.0.each;
          passes = λ flying path here key none clean fits.
              let same : call_in_flight_of f ≡ flying = some_is (sym (ap (option_map call_in_flight_of) there) ∙ here) in
              let on_key : IsOnKey f.job.call = ap (λ (z : CallInFlight). range_of z.call) same ∙ key in
              let unused : f.turns ≡ 0 = ap (λ (z : CallInFlight). z.turns) same ∙ none in
              let start : IsOnPath (now (store v.db.pages)) (course_of f) f.stage path =
              subst (λ z. IsOnPath (now (store v.db.pages)) (course_of f) z path) (sym ((im.known slot f there).begins on_key unused))
              (subst (λ aim. IsClean (now (store v.db.pages)) f.job.tree.name aim path) (sym ((im.known slot f there).aimed.key on_key))
              (subst (λ (z : CallInFlight). IsClean (now (store v.db.pages)) z.tree.name (Included (key_of z.call)) path) (sym same) clean)) in
              let p = flies.passes on_key path start (below f.turns (length path) unused fits) in record {
                fits = p.fits;
                unlimited = tells_turns went p.unlimited;
              };
        },
        all.1,
      )
    where
      below : (t n : ℕ) → t ≡ 0 → n < turns_limit → t + n < turns_limit
      below t n e fits = omega arith

  -- no call has the slot
  pub missing_finish : (slot : ℕ) → kept_at v.flights slot ≡ None → RunsToEnd store number meant v slot outcome.NoSuchSlot v
  missing_finish slot free =
      let e = ends_now store number meant slot v.slots_given outcome.NoSuchSlot v v (missing_step store number meant v im slot free) in record {
        moves = zero;
        ends = missing_off;
        run = e.run;
        each = e.each;
        passes = λ flying path here key none clean fits. none_some (sym (ap (option_map call_in_flight_of) free) ∙ here);
      }

-- a call on a key that came to its end is not kept
gone_on_key : {P M : Type 0} (store : P → Store) (meant : M → Merge) (old new : DbValue P M) (f g : InFlight) (went : Went) → DbRunsToEnd store meant old f went new g → IsOnKey f.job.call → flight_after went g ≡ None
gone_on_key store meant old new f g Moved flies on_key = absurd (end_reached store meant old new f g Moved flies refl)
gone_on_key store meant old new f g (Yielded key value) flies on_key = absurd (only_ends store meant old new f g (Yielded key value) flies on_key (λ reply e. decides e) (λ e h. refuses h))
  where
    decides : {reply : Reply} → Yielded key value ≡ Decided reply → ⊥
    decides e = cc

    refuses : {e : Error} → Yielded key value ≡ Refused e → ⊥
    refuses e = cc
gone_on_key store meant old new f g (Decided reply) flies on_key = refl
gone_on_key store meant old new f g (Refused e) flies on_key = refl

-- a call on a key that begins and ends at once
module _ {P M : Type 0} (store : P → Store) (number : P → ℕ) (meant : M → Merge) (v : MachineValue P M) (im : IsMachine (snapshot_of_db store v.db) v.flights v.slots_given) where
  module _ (tree : Tree) (call : Call) (must : must_refuse (db_state store meant v.db) (ToBegin tree call) ≡ None) (on_key : IsOnKey call) (f : InFlight) (is : f ≡ record { job = record { tree = tree; call = call }; aim = Own; stage = Root; turns = 0 }) where
    completed : (slot : ℕ) → slot ≡ v.slots_given + 1 → (e : DbValue P M) (g : InFlight) (went : Went) → DbRunsToEnd store meant v.db f went e g
        → Completes store number meant v tree call (outcome_of went) (record v { db = e; slots_given = slot }) × IsMachine (snapshot_of_db store e) v.flights slot
    completed slot next e g went flies =
        let gs : List (ℕ × InFlight) = (slot, f) ∷ v.flights in
        let begun : MachineValue P M = record v { flights = gs; slots_given = slot } in
        let free = free_slot store number meant v im slot next in
        let are = onto v.flights slot f in
        let gone : flight_after went g ≡ None = gone_on_key store meant v.db e f g went flies (ap (λ (z : InFlight). range_of z.job.call) is ∙ on_key) in
        let end = finished_all store number meant begun (begun_machine store number meant v im tree call must f is slot next gs are) slot e v.flights f g went (are slot ∙ put_here (kept_at v.flights) slot (Some f)) flies
        (λ q. sym (put_itself (kept_at v.flights) slot None q free) ∙ sym (put_again (kept_at v.flights) slot (Some f) None q) ∙ sym (put_same (kept_at gs) (put_at (kept_at v.flights) slot (Some f)) slot None q (are q)) ∙ ap (λ o. put_at (kept_at gs) slot o q) (sym gone)) in
        (inr (record { slot = slot; begun = begun; begins = begun_call store number meant v im tree call must f is slot next gs are; finishes = end.0 }), end.1)

-- the same, where a method knows the machine by its fields
module _ {P M : Type 0} (store : P → Store) (number : P → ℕ) (meant : M → Merge) (inside old : MachineValue P M) (e : inside ≡ old) (im : IsMachine (snapshot_of_db store inside.db) inside.flights inside.slots_given) where
  module _ (n slot : ℕ) (same : n ≡ slot) where
    pub missing_finish_as : (db : DbValue P M) (gs : List (ℕ × InFlight)) → db ≡ inside.db → gs ≡ inside.flights → kept_at inside.flights n ≡ None → RunsToEnd store number meant old slot outcome.NoSuchSlot (record inside { db = db; flights = gs })
    missing_finish_as db gs d g free = subst (λ z. RunsToEnd store number meant old slot outcome.NoSuchSlot z) (sym e ∙ rests_as store number meant inside old e im n slot same db gs d g)
        (subst (λ s. RunsToEnd store number meant old s outcome.NoSuchSlot old) same (subst (λ z. RunsToEnd store number meant z n outcome.NoSuchSlot z) e (missing_finish store number meant inside im n free)))

    pub finished_as : (db : DbValue P M) (gs : List (ℕ × InFlight)) (o : Outcome) (f g : InFlight) (went : Went) → o ≡ outcome_of went → kept_at inside.flights n ≡ Some f → DbRunsToEnd store meant inside.db f went db g → ((q : ℕ) → kept_at gs q ≡ put_at (kept_at inside.flights) n (flight_after went g) q)
        → RunsToEnd store number meant old slot o (record inside { db = db; flights = gs })
    finished_as db gs o f g went is there flies are =
        subst (λ z. RunsToEnd store number meant old slot z (record inside { db = db; flights = gs })) (sym is)
        (subst (λ s. RunsToEnd store number meant old s (outcome_of went) (record inside { db = db; flights = gs })) same
        (subst (λ z. RunsToEnd store number meant z n (outcome_of went) (record inside { db = db; flights = gs })) e (finished_all store number meant inside im n db gs f g went there flies are).0))

  module _ (tree copy : Tree) (call : Call) (c : copy ≡ tree) (must : must_refuse (db_state store meant old.db) (ToBegin tree call) ≡ None) (f : InFlight) (is : f ≡ record { job = record { tree = copy; call = call }; aim = Own; stage = Root; turns = 0 }) where
    begun_is : f ≡ record { job = record { tree = tree; call = call }; aim = Own; stage = Root; turns = 0 }
    begun_is = is ∙ ap (λ t. record { job = record { tree = t; call = call }; aim = Own; stage = Root; turns = 0 }) c

    tested : must_refuse (db_state store meant inside.db) (ToBegin tree call) ≡ None
    tested = subst (λ (z : MachineValue P M). must_refuse (db_state store meant z.db) (ToBegin tree call) ≡ None) (sym e) must

    pub known_new : IsKnown (snapshot_of_db store inside.db) f
    known_new = subst (λ z. IsKnown (snapshot_of_db store inside.db) z) (sym begun_is) (known_begun (snapshot_of_db store inside.db) tree call)

    pub tested_new : must_refuse (db_state store meant inside.db) (ToStep (call_in_flight_of f)) ≡ None
    tested_new = ap (λ (z : InFlight). must_refuse (db_state store meant inside.db) (ToStep (call_in_flight_of z))) begun_is ∙ tested

    pub completed_as : IsOnKey call → (slot : ℕ) → slot ≡ inside.slots_given + 1 → (db : DbValue P M) (g : InFlight) (went : Went) (o : Outcome) → o ≡ outcome_of went → DbRunsToEnd store meant inside.db f went db g → Completes store number meant old tree call o (record inside { db = db; slots_given = slot })
    completed_as on_key slot next db g went o same flies =
        subst (λ z. Completes store number meant old tree call z (record inside { db = db; slots_given = slot })) (sym same)
        (subst (λ z. Completes store number meant z tree call (outcome_of went) (record inside { db = db; slots_given = slot })) e (completed store number meant inside im tree call tested on_key f begun_is slot next db g went flies).0)

    pub completed_machine : IsOnKey call → (slot : ℕ) → slot ≡ inside.slots_given + 1 → (db : DbValue P M) (g : InFlight) (went : Went) → DbRunsToEnd store meant inside.db f went db g → IsMachine (snapshot_of_db store db) inside.flights slot
    completed_machine on_key slot next db g went flies = (completed store number meant inside im tree call tested on_key f begun_is slot next db g went flies).1
