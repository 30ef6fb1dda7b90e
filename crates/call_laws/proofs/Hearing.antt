-- What a subscriber hears over a list of calls of one owner.
use Rattle.std.proofs.Common.{◌≡◌, ◌∙◌, ℕ, ◌≤◌, true, false, cond, List, [], ◌∷◌, ◌++◌, append_assoc, Option, Some, None, refl, sym, ap, subst, ◌⊎◌, inl, inr, arith}
use Rattle.std.proofs.lemmas.Bool.{eq-eqb}
use Rattle.std.proofs.lemmas.Bool.Decides.{nat_tests}
use Rattle.sled_nodes.proofs.Basics.{none_some, some_is}
use Rattle.sled_nodes.specs.Order.{Key}
use Rattle.sled_nodes.specs.declared.error.Error.{Error}
use Rattle.sled_store.specs.Store.{Store}
use Rattle.sled_model.specs.Backlog.{no_backlog}
use Rattle.sled_model.specs.Collections.{Content}
use Rattle.sled_model.specs.Groups.{writes_of}
use Rattle.sled_model.specs.Maps.{Map, Maps, Merge}
use Rattle.sled_model.specs.Queues.{backlog_in, waiting_in}
use Rattle.sled_model.specs.State.{State, NamedTree, Queue}
use Rattle.sled_model.specs.Transition.{Configuration, transition_as}
use Rattle.sled_model.specs.declared.call.Whole.{Whole}
use Rattle.sled_model.specs.declared.call.Whole.TheVariants as whole
use Rattle.sled_model.specs.declared.event.Event.{Event}
use Rattle.sled_model.specs.declared.event.Next.{Next}
use Rattle.sled_model.specs.declared.outcome.Step.{Step}
use Rattle.sled_model.specs.declared.outcome.Step.TheVariants as step
use Rattle.sled_model.specs.declared.outcome.Outcome.{Outcome}
use Rattle.sled_model.specs.declared.outcome.Outcome.TheVariants as outcome
use Rattle.sled_model.specs.declared.tree.Tree.{Tree}
use Rattle.sled_model.specs.declared.reply.Reply.{Reply}
use Rattle.sled_model.specs.declared.reply.Reply.TheVariants as reply
use Rattle.sled_queues.specs.Copies.{IsCopy, after_events, came_to, events_told, TellsEvents}
use Rattle.sled_queues.specs.Events.{Turn, after_turns, taken_by, brought}
use Rattle.sled_queues.specs.Hears as hearing
use Rattle.sled_queues.specs.Trees.{AreNumbered, drops}
use Rattle.sled_queues.specs.Turns.{turns_of, told_at, gives_up}
use Rattle.sled_queues.proofs.Copied.{follows_law}
use Rattle.sled_queues.proofs.Hearing.{hears_law}
use Rattle.sled.specs.Imports.{ImportStops}
use Rattle.sled.specs.Sound.{IsDb}
use Rattle.sled.specs.Values.{DbValue, db_state, configuration_of as instant_of, named, numbers_of, given_to}
use Rattle.sled.specs.Watch.{WatchesDb}
use Rattle.sled.proofs.Flushing.{stays_state}
use Rattle.sled.proofs.Removing.{drop_decided}
use Rattle.sled.proofs.Resting.{flushed_now, rests_only_faults, rests_now}
use Rattle.machine_alone.specs.Hears.{queues_at, turns_of_step, IsCopyOfTree}
use Rattle.machine_alone.specs.Step.{MachineStep}
use Rattle.machine_alone.specs.Values.{MachineValue, configuration_of, slots_of}
use Rattle.machine_shared.specs.Made.{MadeValue}
use Rattle.machine_shared.specs.WholeNotes.{noted_whole}
use Rattle.call_laws.specs.Calls.{DbCall, DidPoint, PointStopped, FetchStopped, DidWhole, WholeStopped, Flushed, FlushStopped, DidGroup, GroupStopped, Imported, ImportStopped, Dropped, DropStopped, GaveId, IdStopped, TookIds, SetOperator, OperatorStopped, Watched, WatchStopped, ToldNext, Unsubscribed, MachineCall, Stepped, Did, Stopped, Called, MakesCalls, NoCall, OneCall, IsOfSlot}
use Rattle.call_laws.specs.Hears.{IsKept, KeepsTree, turns_before, turns_of_db, turns_of_machine, told_by_db, told_by, turns_of_calls, told_to, BringsBoth, HearsLaw}
use Rattle.call_laws.proofs.Heard.{Heard, all_kept, all_stay, nothing_told, when, by_step, both, beside, rests, stands, told_again, point, writes, parts, stops, operated}

-- ---- what a call made tells whether it gives a subscriber up or drops a tree

kept_both : (n : ℕ) (xs ys : List MadeValue) → IsKept n (xs ++ ys) → IsKept n xs × IsKept n ys
kept_both n [] ys k = (tt, k)
kept_both n (x ∷ xs) ys k = let more = kept_both n xs ys k.1 in ((k.0, more.0), more.1)

keeps_both : (name : Key) (xs ys : List MadeValue) → KeepsTree name (xs ++ ys) → KeepsTree name xs × KeepsTree name ys
keeps_both name [] ys k = (tt, k)
keeps_both name (x ∷ xs) ys k = let more = keeps_both name xs ys k.1 in ((k.0, more.0), more.1)

decided_kept : (n : ℕ) (w : Whole) (r : Reply) → IsKept n (noted_whole w (outcome.Decided r) 0) → gives_up n (step.Whole w) ≡ false
decided_kept n (whole.Unsubscribe subscriber) r k = k.0
decided_kept n other r k = refl

decided_keeps : (name : Key) (w : Whole) (r : Reply) → KeepsTree name (noted_whole w (outcome.Decided r) 0) → drops name (step.Whole w) (outcome.Decided r) ≡ false
decided_keeps name (whole.DropTree dropped) r k = k.0
decided_keeps name other r k = refl

-- a whole call that is refused does neither, and tells nobody anything
refused_kept : (n : ℕ) (a b : Configuration) (w : Whole) (e : Error) (maps : List Maps) → transition_as a (step.Whole w) (outcome.Refused e) b maps → gives_up n (step.Whole w) ≡ false
refused_kept n a b (whole.Unsubscribe subscriber) e maps t = absurd t
refused_kept n a b other e maps t = refl

refused_keeps : (name : Key) (w : Whole) (e : Error) → drops name (step.Whole w) (outcome.Refused e) ≡ false
refused_keeps name (whole.DropTree dropped) e = refl
refused_keeps name other e = refl

refused_untold : (n : ℕ) (w : Whole) (e : Error) → [] ≡ told_at n (step.Whole w) (outcome.Refused e)
refused_untold n (whole.Next subscriber) e = refl
refused_untold n other e = refl

-- and nor does a step of a slot
slot_kept : (n : ℕ) (s : Step) → IsOfSlot s → gives_up n s ≡ false
slot_kept n (step.Whole w) off = absurd off
slot_kept n other off = refl

slot_keeps : (name : Key) (s : Step) (o : Outcome) → IsOfSlot s → drops name s o ≡ false
slot_keeps name (step.Whole w) o off = absurd off
slot_keeps name other o off = refl

slot_untold : (n : ℕ) (s : Step) (o : Outcome) → IsOfSlot s → [] ≡ told_at n s o
slot_untold n (step.Whole w) o off = absurd off
slot_untold n other o off = refl

-- what gives up no subscriber and drops no tree
quiet : {a b : State} {ts : List Turn} {kept : ℕ → Type 0} {keeps : Key → Type 0} → Heard a b ts nothing_told all_kept all_stay → Heard a b ts nothing_told kept keeps
quiet h = when (λ n. refl) (λ n k. tt) (λ name k. tt) h

module _ {P M : Type 0} (store : P → Store) (number : P → ℕ) (meant : M → Merge) where
  abbrev state : DbValue P M → State
  state d = db_state store meant d

  abbrev at : DbValue P M → Configuration
  at d = instant_of store meant d (λ n. None) 0 0

  abbrev Kept : List MadeValue → ℕ → Type 0
  Kept made n = IsKept n made

  abbrev Keeps : List MadeValue → Key → Type 0
  Keeps made name = KeepsTree name made

  -- ---- one call of the database

  abbrev HeardDb : DbValue P M → DbValue P M → List Turn → (ℕ → List Next) → List MadeValue → Type 0
  HeardDb old new ts told made = Heard (state old) (state new) ts told (Kept made) (Keeps made)

  decided : (old new : DbValue P M) (w : Whole) (r : Reply) (maps : List Maps) (t : transition_as (at old) (step.Whole w) (outcome.Decided r) (at new) maps)
      → HeardDb old new (turns_of (at old) (step.Whole w) (outcome.Decided r) (at new) maps t) (λ n. told_at n (step.Whole w) (outcome.Decided r)) (noted_whole w (outcome.Decided r) 0)
  decided old new w r maps t = when (λ n. refl) (λ n k. decided_kept n w r k) (λ name k. decided_keeps name w r k) (by_step (at old) (step.Whole w) (outcome.Decided r) (at new) maps t)

  refused : (old new : DbValue P M) (made : List MadeValue) (w : Whole) (e : Error) (maps : List Maps) (t : transition_as (at old) (step.Whole w) (outcome.Refused e) (at new) maps)
      → HeardDb old new (turns_of (at old) (step.Whole w) (outcome.Refused e) (at new) maps t) nothing_told made
  refused old new made w e maps t = when (λ n. refused_untold n w e) (λ n k. refused_kept n (at old) (at new) w e maps t) (λ name k. refused_keeps name w e) (by_step (at old) (step.Whole w) (outcome.Refused e) (at new) maps t)

  stopped_import : (old new : DbValue P M) (all : List Content) (e : Error) (maps : List Maps) {A : Type 0} (s : (A × (new ≡ old) × (maps ≡ [])) ⊎ ImportStops store meant old all e new maps) → Heard (state old) (state new) (turns_before store number meant s) nothing_told all_kept all_stay
  stopped_import old new all e maps (inl at_once) = stands (state old) (state new) (ap state at_once.1)
  stopped_import old new all e maps (inr s) = told_again (state old) (state s.mid) (state new) _ nothing_told all_kept all_stay (s.stays (λ n. None) 0) (parts (store old.pages) (s.state (λ n. None) 0).does)

  db_heard : (old new : DbValue P M) (made : List MadeValue) (call : DbCall store number meant old made new) → HeardDb old new (turns_of_db store number meant call) (λ n. told_by_db store number meant n call) made
  db_heard old new made (DidPoint {tree = tree} {call = call} {reply = r} d) = quiet (point (store old.pages) (state old) (state new) tree call r d.decides)
  db_heard old new made (PointStopped d) = quiet (stands (state old) (state new) d.refuses.is)
  db_heard old new made (FetchStopped same c) = quiet (stands (state old) (state new) same)
  db_heard old new made (DidWhole {whole = w} {reply = r} off d) = decided old new w r d.maps (d.decides (λ n. None) 0 0)
  db_heard old new made (WholeStopped {whole = w} {e = e} d c) = refused old new made w e d.maps (d.refuses (λ n. None) 0)
  db_heard old new made (Flushed f) = quiet (stands (state old) (state new) (stays_state store meant old new f.same (flushed_now f.is) (λ n. None) 0))
  db_heard old new made (FlushStopped {e = e} f) = quiet (stands (state old) (state new) (stays_state store meant old new f.same (rests_now (rests_only_faults e (store old.pages) (store new.pages) f.is)) (λ n. None) 0))
  db_heard old new made (DidGroup {batches = batches} d) = quiet (told_again (state old) _ (state new) _ nothing_told all_kept all_stay (d.decides (λ n. None) 0).is (writes (store old.pages) (writes_of batches) (state old)))
  db_heard old new made (GroupStopped d) = quiet (stops (state old) (state new) (d.refuses (λ n. None) 0).is)
  db_heard old new made (Imported d) = quiet (parts (store old.pages) (d.decides (λ n. None) 0).does)
  db_heard old new made (ImportStopped {all = all} {e = e} d) = quiet (stopped_import old new all e d.is.maps d.is.refuses)
  db_heard old new made (Dropped {name = name} d) = let w = drop_decided store meant _ _ _ _ d in decided old new (whole.DropTree name) _ w.maps (w.decides (λ n. None) 0 0)
  db_heard old new made (DropStopped d) = quiet (stands (state old) (state new) (d.state (λ n. None) 0))
  db_heard old new made (GaveId d) = let e = d.state (λ n. None) 0 in quiet (rests (state old) (state new) (ap (λ (s : State). s.queues) e) (ap (λ (s : State). s.trees) e) (ap (λ (s : State). s.trees_given) e) (ap (λ (s : State). s.is_open) e))
  db_heard old new made (IdStopped d) = quiet (stands (state old) (state new) (d.state (λ n. None) 0))
  db_heard old new made (TookIds d) = let e = d.state (λ n. None) 0 in quiet (rests (state old) (state new) (ap (λ (s : State). s.queues) e) (ap (λ (s : State). s.trees) e) (ap (λ (s : State). s.trees_given) e) (ap (λ (s : State). s.is_open) e))
  db_heard old new made (SetOperator {tree = tree} {merge = merge} d) = quiet (operated (state old) (state new) tree merge (d.sets (λ n. None) 0))
  db_heard old new made (OperatorStopped d) = quiet (stands (state old) (state new) (ap state d.is))
  db_heard old new made (Watched {tree = tree} {prefix = prefix} {number = n} d) = decided old new (whole.Watch tree prefix) (reply.Subscriber n) [] (n, refl, d.watches (λ n. None) 0, refl)
  db_heard old new made (WatchStopped d) = quiet (stands (state old) (state new) (ap state d.is))
  db_heard old new made (ToldNext {subscriber = subscriber} {next = next} d) = decided old new (whole.Next subscriber) (reply.Next next) [] (next, refl, d.takes (λ n. None) 0, refl)
  db_heard old new made (Unsubscribed {subscriber = subscriber} d) = decided old new (whole.Unsubscribe subscriber) reply.Done [] (refl, d.gives_up (λ n. None) 0, refl)

  -- ---- one call of a machine

  -- a step of the machine, whatever calls are in flight
  stepped : (a b : MachineValue P M) (s : Step) (o : Outcome) (one : MachineStep store number meant a s o b)
      → Heard (state a.db) (state b.db) (turns_of_step store number meant a s o b one) (λ n. told_at n s o) (λ n. gives_up n s ≡ false) (λ name. drops name s o ≡ false)
  stepped a b s o one =
      beside (state a.db) (state b.db) (turns_of_step store number meant a s o b one) (λ n. told_at n s o) (λ n. gives_up n s ≡ false) (λ name. drops name s o ≡ false) (slots_of a.flights) (slots_of b.flights) a.slots_given b.slots_given
      (by_step (configuration_of store number meant a) s o (configuration_of store number meant b) one.maps one.step.is)

  machine_heard : (a b : MachineValue P M) (made : List MadeValue) (call : MachineCall store number meant a made b) → HeardDb a.db b.db (turns_of_machine store number meant call) (λ n. told_by store number meant n call) made
  machine_heard a b made (Stepped {s = s} {o = o} off one) = when (λ n. slot_untold n s o off) (λ n k. slot_kept n s off) (λ name k. slot_keeps name s o off) (stepped a b s o one)
  machine_heard a b made (Did {whole = w} {reply = r} one) = when (λ n. refl) (λ n k. decided_kept n w r k) (λ name k. decided_keeps name w r k) (stepped a b (step.Whole w) (outcome.Decided r) one)
  machine_heard a b made (Stopped {whole = w} {e = e} one counts) =
      when (λ n. refused_untold n w e) (λ n k. refused_kept n (configuration_of store number meant a) (configuration_of store number meant b) w e one.maps one.step.is) (λ name k. refused_keeps name w e) (stepped a b (step.Whole w) (outcome.Refused e) one)
  machine_heard a b made (Called {new = new} call) = db_heard a.db new made call

  -- ---- calls one after the other

  calls_heard : {a b : MachineValue P M} {made : List MadeValue} (calls : MakesCalls store number meant a made b) → HeardDb a.db b.db (turns_of_calls store number meant calls) (λ n. told_to store number meant n calls) made
  calls_heard (NoCall {m = m}) = quiet (stands (state m.db) (state m.db) refl)
  calls_heard (OneCall {a = a} {m = m} {b = b} {made = made} {more = more} one rest) =
      when (λ n. refl) (λ n k. kept_both n made more k) (λ name k. keeps_both name made more k)
      (both (state a.db) (state m.db) (state b.db) (turns_of_machine store number meant one) (turns_of_calls store number meant rest) (λ n. told_by store number meant n one) (λ n. told_to store number meant n rest) (Kept made) (Kept more) (Keeps made) (Keeps more)
      (machine_heard a m made one) (calls_heard rest))

  -- calls and then more calls, of which both are heard
  joined : {a m b : MachineValue P M} {made more : List MadeValue} (first : MakesCalls store number meant a made m) (second : MakesCalls store number meant m more b) → (calls : MakesCalls store number meant a (made ++ more) b) × BringsBoth store number meant first second calls
  joined NoCall second = (second, record { turns_are = refl; told = λ n. refl })
  joined {b = b} {more = last} (OneCall {a = a} {made = made} {more = more} one rest) second =
      let k = joined rest second in
      subst (λ l. (calls : MakesCalls store number meant a l b) × BringsBoth store number meant (OneCall one rest) second calls) (sym (append_assoc made more last)) (
        OneCall one k.0,
        record {
          turns_are = ap (λ l. turns_of_machine store number meant one ++ l) k.1.turns_are ∙ sym (append_assoc (turns_of_machine store number meant one) (turns_of_calls store number meant rest) (turns_of_calls store number meant second));
          told = λ n. ap (λ l. told_by store number meant n one ++ l) (k.1.told n) ∙ sym (append_assoc (told_by store number meant n one) (told_to store number meant n rest) (told_to store number meant n second));
        },
      )

  -- ---- the law

  number_named : (o : Option ℕ) (m : Option Map) (merge : ℕ → Option Merge) (t : NamedTree) → named o m merge ≡ Some t → o ≡ Some t.number
  number_named None m merge t e = none_some e
  number_named (Some n) None merge t e = none_some e
  number_named (Some n) (Some m) merge t e = ap Some (ap (λ (z : NamedTree). z.number) (some_is e))

  up_to : (last n : ℕ) → given_to last n ≡ true → n ≤ last
  up_to last n e = grind (arith, nat_tests)

  numbered : (d : DbValue P M) → IsDb store d → AreNumbered (state d)
  numbered d db = record {
    given = λ name t there. up_to d.trees_given t.number (db.is.given name t.number (is name t there));
    apart = λ a b t u p q same. db.is.apart a b t.number (is a t p) (is b u q ∙ ap Some (sym same));
  }
    where
      is : (name : Key) (t : NamedTree) → (state d).trees name ≡ Some t → numbers_of d.trees name ≡ Some t.number
      is name t there = number_named (numbers_of d.trees name) _ _ t there

  begins : (m : MachineValue P M) (new : DbValue P M) (tree : Tree) (prefix : Key) (n : ℕ) → WatchesDb store meant m.db tree prefix n new
      → queues_at (record m { db = new }) n ≡ Some (record { tree = tree.number; prefix = prefix; backlog = no_backlog })
  begins m new tree prefix n d =
      ap (λ (s : State). s.queues n) (d.watches (λ n. None) 0).is
      ∙ ap (λ z. cond z (Some (record { tree = tree.number; prefix = prefix; backlog = no_backlog })) (queues_at m n)) (eq-eqb n n refl)

  hears : {a b : MachineValue P M} {made : List MadeValue} (calls : MakesCalls store number meant a made b) (n : ℕ) (q : Queue) → queues_at a n ≡ Some q → IsKept n made
      → hearing.CountsAll n (turns_of_calls store number meant calls) (queues_at a) → (all : List Event) → hearing.Holds q.backlog all
      → hearing.Hears (told_to store number meant n calls) (all ++ brought q (turns_of_calls store number meant calls)) (backlog_in (queues_at b n))
  hears {a = a} {b = b} calls n q here kept counts all holds =
      let ts = turns_of_calls store number meant calls in
      let h = calls_heard calls in
      let x = h.heard n q here kept in
      subst (λ l. hearing.Hears l (all ++ brought q ts) (backlog_in (queues_at b n))) (sym x.1)
      (subst (λ (f : ℕ → Option Queue). hearing.Hears (taken_by n ts (queues_at a)) (all ++ brought q ts) (backlog_in (f n))) (sym h.queues)
      (hears_law ts n (queues_at a) q here x.0 counts all holds))

  follows : {a b : MachineValue P M} {made : List MadeValue} (calls : MakesCalls store number meant a made b) → IsDb store a.db → (state b.db).is_open ≡ true
      → (n : ℕ) (q : Queue) → queues_at a n ≡ Some q → IsKept n made → (name : Key) → KeepsTree name made
      → TellsEvents (told_to store number meant n calls) → (backlog_in (queues_at b n)).missed ≡ 0
      → (copy : Map) → IsCopyOfTree store meant a name q.tree q.prefix (after_events q.backlog.events copy)
      → IsCopyOfTree store meant b name q.tree q.prefix (after_events (waiting_in (queues_at b n)) (after_events (events_told (told_to store number meant n calls)) copy))
  follows {a = a} {b = b} calls db is_open n q here kept name keeps told none copy c =
      let ts = turns_of_calls store number meant calls in
      let said = told_to store number meant n calls in
      let h = calls_heard calls in
      let k = h.heard n q here kept in
      let x = h.trees (numbered a.db db) is_open name c.tree c.there keeps in
      let e : x.tree.map ≡ after_events (came_to q.tree ts) c.tree.map = x.map ∙ ap (λ k. after_events (came_to k ts) c.tree.map) c.same in
      let f : after_events (waiting_in (queues_at b n)) (after_events (events_told said) copy) ≡ after_events (waiting_in (after_turns ts (queues_at a) n)) (after_events (events_told (taken_by n ts (queues_at a))) copy)
      = ap (λ (g : ℕ → Option Queue). after_events (waiting_in (g n)) (after_events (events_told said) copy)) h.queues
      ∙ ap (λ l. after_events (waiting_in (after_turns ts (queues_at a) n)) (after_events (events_told l) copy)) k.1 in
      let all : TellsEvents (taken_by n ts (queues_at a)) = subst TellsEvents k.1 told in
      let counted : (backlog_in (after_turns ts (queues_at a) n)).missed ≡ 0 = subst (λ (g : ℕ → Option Queue). (backlog_in (g n)).missed ≡ 0) h.queues none in
      record {
        tree = x.tree;
        there = x.there;
        same = x.number ∙ c.same;
        copied = subst (λ z. IsCopy q.prefix z x.tree.map) (sym f) (subst (IsCopy q.prefix (after_events (waiting_in (after_turns ts (queues_at a) n)) (after_events (events_told (taken_by n ts (queues_at a))) copy))) (sym e) (follows_law ts n (queues_at a) q here k.0 all counted copy c.tree.map c.copied));
      }

  pub hears_calls : HearsLaw store number meant
  hears_calls = record {
    begins = begins;
    joined = λ a m b made more first second. joined first second;
    queues = λ a b made calls. (calls_heard calls).queues;
    hears = λ a b made calls. hears calls;
    follows = λ a b made calls. follows calls;
  }
