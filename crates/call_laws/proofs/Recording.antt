-- What is a record of the calls of an owner is one of more calls.
use Rattle.std.proofs.Common.{◌≡◌, ◌≢◌, ◌∙◌, ℕ, ◌≤◌, false, List, [], ◌∷◌, ◌++◌, append-nil, append_assoc, map, Option, Some, None, option_map, sym, refl, ap, subst}
use Rattle.std.proofs.Math.Path.{fun_ext}
use Rattle.std.proofs.lemmas.List.{map-append}
use Rattle.sled_nodes.specs.declared.error.Error.{Error}
use Rattle.sled_batch.specs.Batch.{Writes}
use Rattle.sled_store.specs.Store.{Store, now}
use Rattle.sled_store.specs.theory.Facts.{now_left}
use Rattle.sled_model.specs.Collections.{Content}
use Rattle.sled_model.specs.Groups.{writes_of, DecidesGroup}
use Rattle.sled_model.specs.Imports.{Imports}
use Rattle.sled_model.specs.Maps.{Map, Maps, Merge}
use Rattle.sled_model.specs.Refusal.{ToPoint, trees_of_batches}
use Rattle.sled_model.specs.State.{State, NamedTree, maps_of}
use Rattle.sled_model.specs.declared.call.Call.{Call}
use Rattle.sled_model.specs.declared.call.Whole.{Whole}
use Rattle.sled_model.specs.declared.call.Whole.TheVariants as whole
use Rattle.sled_model.specs.declared.outcome.Step.{Step}
use Rattle.sled_model.specs.declared.outcome.Step.TheVariants as step
use Rattle.sled_model.specs.declared.outcome.Outcome.{Outcome}
use Rattle.sled_model.specs.declared.outcome.Outcome.TheVariants as outcome
use Rattle.sled_model.specs.declared.tree.Tree.{Tree}
use Rattle.sled_model.specs.declared.reply.Reply.{Reply}
use Rattle.sled_model.specs.declared.reply.Reply.TheVariants.{Number, Done}
use Rattle.tree_laws.specs.Contents.{trees_of}
use Rattle.tree_laws.specs.Crashes.{AddsCrashStates, StutterEquivalent}
use Rattle.tree_laws.proofs.Crashing.{matches_same, extends_same}
use Rattle.tree_pages.specs.Export.{collections}
use Rattle.sled.specs.Direct.{Conducts, PointDecided, WholeDecided, WholeRefused}
use Rattle.sled.specs.Flush.{FlushesDb, RefusesFlush}
use Rattle.sled.specs.Groups.{GroupDecided, GroupRefused}
use Rattle.sled.specs.Imports.{ImportDecided}
use Rattle.sled.specs.Parts.{ImportRefusedAfter}
use Rattle.sled.specs.Sound.{IsDb}
use Rattle.sled.specs.Values.{DbValue, db_state, named, numbers_of}
use Rattle.sled.proofs.Flushing.{stays_state}
use Rattle.sled.proofs.Grouped.{tested_open}
use Rattle.sled.proofs.Numbering.{id_decided, id_refused}
use Rattle.sled.proofs.Removing.{drop_decided, drop_refused}
use Rattle.sled.proofs.Resting.{flushed_now, rests_only_faults, rests_now, rests_extends}
use Rattle.sled.proofs.Trees.{maps_are}
use Rattle.sled.proofs.Subscribing.{watch_decided, watch_refused, next_decided, unsubscribe_decided}
use Rattle.machine_alone.specs.CrashMaps.{AreCrashMaps, crash_maps_after}
use Rattle.machine_alone.specs.Ids.{RiseBetween}
use Rattle.machine_alone.specs.Kept.{CountsParts}
use Rattle.machine_alone.specs.Step.{MachineStep}
use Rattle.machine_alone.specs.Values.{MachineValue, configuration_of, slots_of}
use Rattle.machine_alone.proofs.Rising.{at_most}
use Rattle.machine_alone.proofs.Runs.{extended}
use Rattle.machine_shared.specs.Crashes.{LeadsNoMore}
use Rattle.machine_shared.specs.History.{IsLegal, NoEntries, MakesPoint, ids_made, maps_from}
use Rattle.machine_shared.specs.Made.{MadeValue, PointMade, WholeMade}
use Rattle.machine_shared.specs.Notes.{noted_in}
use Rattle.machine_shared.specs.Moments.{LastMoment}
use Rattle.machine_shared.specs.Sound.{CrashLeaves, maps_now}
use Rattle.machine_shared.specs.WholeNotes.{noted_whole, noted_with}
use Rattle.machine_shared.specs.Wholes as value
use Rattle.machine_shared.proofs.Fetching.{point_made}
use Rattle.machine_shared.proofs.Ids.{longer_rises, none_risen, step_risen, begun_risen, abandoned_risen, came_risen, parts_ids}
use Rattle.machine_shared.proofs.Legal.{maps_same}
use Rattle.machine_shared.proofs.OpeningMaps.{opened}
use Rattle.machine_shared.proofs.Moments.{GoesOn}
use Rattle.machine_shared.proofs.Leading.{Ends, tested, adds, goes, matched, led, ends, still, rests, none_added, step_leaves, begun_leaves, unbegun_leaves, abandon_leaves, entry, decided_whole, group_stops, import_refused, refused_whole, legal_of}
use Rattle.machine_shared.proofs.WholeMakes.{have_maps, writes, parts}
use Rattle.machine_shared.proofs.WholeTests.{pass_each}
use Rattle.call_laws.specs.Calls.{DbCall, DidPoint, PointStopped, FetchStopped, DidWhole, WholeStopped, Flushed, FlushStopped, DidGroup, GroupStopped, Imported, ImportStopped, Dropped, DropStopped, GaveId, IdStopped, TookIds, SetOperator, OperatorStopped, Watched, WatchStopped, ToldNext, Unsubscribed, MachineCall, Stepped, Did, Stopped, Called, MakesCalls, NoCall, OneCall, IsOfSlot, made_by_step, owned, IsRecord, LeavesBefore, alone}
use Rattle.call_laws.specs.Laws.{RecordLaw, JoinedLaw}

-- what is made later stands behind what was made before
joined : (before made : List MadeValue) → owned (before ++ made) ≡ owned before ++ owned made
joined before made = map-append (λ m. record { by = 0; made = m }) before made

kept_other : (w : Whole) → w ≢ whole.Flush → (reply : Reply) (added : List Maps) (after : Maps) (kept : List Maps) → crash_maps_after (step.Whole w) (outcome.Decided reply) added after kept ≡ kept ++ added
kept_other whole.Flush off reply added after kept = absurd (off refl)
kept_other other off reply added after kept = refl

-- after a refusal it goes on by what the call added
goes_on : (w : Whole) (e : Error) (added : List Maps) (after : Maps) (kept : List Maps) (so : List Maps → Type 0) → so (kept ++ added) → so (crash_maps_after (step.Whole w) (outcome.Refused e) added after kept)
goes_on whole.Flush e added after kept so k = k
goes_on other e added after kept so k = k

-- no map depends on the operators
same_maps : {P M : Type 0} (store : P → Store) (meant : M → Merge) (d : DbValue P M) (operators : List (ℕ × M)) → maps_of (db_state store meant (record d { operators = operators })) ≡ maps_of (db_state store meant d)
same_maps store meant d operators = fun_ext (λ name. go (numbers_of d.trees name) (trees_of (now (store d.pages)) name) _ _)
  where
    go : (o : Option ℕ) (t : Option Map) (f g : ℕ → Option Merge) → option_map (λ (t : NamedTree). t.map) (named o t f) ≡ option_map (λ (t : NamedTree). t.map) (named o t g)
    go None t f g = refl
    go (Some n) None f g = refl
    go (Some n) (Some x) f g = refl

module _ {P M : Type 0} (store : P → Store) (number : P → ℕ) (meant : M → Merge) where
  -- ---- whole calls of a database, as steps of a machine that has it

  whole_step : (m : MachineValue P M) (new : DbValue P M) (w : Whole) (reply : Reply) → w ≢ whole.Flush → WholeDecided store meant m.db w reply new → MachineStep store number meant m (step.Whole w) (outcome.Decided reply) (record m { db = new })
  whole_step m new w reply off d = record {
    maps = d.maps;
    step = record { is = d.decides (slots_of m.flights) m.slots_given (number m.db.pages) };
    keeps = λ kept l. subst (AreCrashMaps (store new.pages)) (sym (kept_other w off reply d.maps (maps_of (configuration_of store number meant (record m { db = new })).state) kept)) (extended d.maps (store m.db.pages) (store new.pages) d.leaves.extends kept l);
  }

  whole_stops : (m : MachineValue P M) (new : DbValue P M) (w : Whole) (e : Error) → WholeRefused store meant m.db w e new → MachineStep store number meant m (step.Whole w) (outcome.Refused e) (record m { db = new })
  whole_stops m new w e d = record {
    maps = d.maps;
    step = record { is = d.refuses (slots_of m.flights) m.slots_given };
    keeps = λ kept l. goes_on w e d.maps (maps_of (configuration_of store number meant (record m { db = new })).state) kept (AreCrashMaps (store new.pages)) (extended d.maps (store m.db.pages) (store new.pages) d.leaves.extends kept l);
  }

  flush_step : (m : MachineValue P M) (new : DbValue P M) (n : ℕ) → FlushesDb store number meant m.db n new → MachineStep store number meant m (step.Whole whole.Flush) (outcome.Decided (Number n)) (record m { db = new })
  flush_step m new n f = record {
    maps = [];
    step = record { is = (f.free, ap Number f.answers, stays_state store meant m.db new f.same (flushed_now f.is) (slots_of m.flights) m.slots_given, refl) };
    keeps = λ kept l. record { is = subst (λ z. StutterEquivalent z (maps_of (db_state store meant new) ∷ [])) (sym (ap (map trees_of) f.left ∙ ap (λ z. z ∷ []) f.maps)) (matches_same _) };
  }

  flush_stops : (m : MachineValue P M) (new : DbValue P M) (e : Error) → RefusesFlush store meant m.db new e → MachineStep store number meant m (step.Whole whole.Flush) (outcome.Refused e) (record m { db = new })
  flush_stops m new e f = let rest = rests_only_faults e (store m.db.pages) (store new.pages) f.is in record {
    maps = [];
    step = record { is = (f.may (slots_of m.flights) m.slots_given, stays_state store meant m.db new f.same (rests_now rest) (slots_of m.flights) m.slots_given, refl) };
    keeps = λ kept l. extended [] (store m.db.pages) (store new.pages) (rests_extends rest) kept l;
  }

  -- ---- one call

  module _ (a : MachineValue P M) (opening : List Content) (earlier : List Maps) (before : List MadeValue) (r : IsRecord store a opening earlier before) where
    abbrev Records : MachineValue P M → List MadeValue → Type 0
    Records b made = IsRecord store b opening earlier (before ++ made)

    -- what a crash may leave, where nothing of before the opening is forgotten
    abbrev Along : MachineValue P M → List MadeValue → Type 0
    Along b made = (c : CrashLeaves store b opening (owned made)) × (c.earlier ≡ r.crashes.earlier) × GoesOn r.crashes.moments c.moments

    recorded : (b : MachineValue P M) (made : List MadeValue) → Along b (before ++ made) → RiseBetween 0 (ids_made (owned (before ++ made))) b.db.greatest_id → Records b made
    recorded b made c i = record { legal = legal_of c.0; crashes = c.0; begins = c.1 ∙ r.begins; ids = i }

    -- where nothing was made the list stays
    unlonger : (b : MachineValue P M) → IsRecord store b opening earlier before → Records b []
    unlonger b k = subst (λ l. IsRecord store b opening earlier l) (sym (append-nil before)) k

    risen : (b : MachineValue P M) (made : List MadeValue) → RiseBetween a.db.greatest_id (ids_made (owned made)) b.db.greatest_id → RiseBetween 0 (ids_made (owned (before ++ made))) b.db.greatest_id
    risen b made x = longer_rises 0 a.db.greatest_id b.db.greatest_id (owned before) (owned made) (owned (before ++ made)) (joined before made) r.ids x

    -- a step of a slot
    stepped : (b : MachineValue P M) (slot : ℕ) (o : Outcome) → MachineStep store number meant a (step.Step slot) o b → Records b (noted_in o (slots_of a.flights slot))
    stepped b slot o s =
        recorded b (noted_in o (slots_of a.flights slot))
        (step_leaves store number meant a b opening (owned before) r.crashes 0 slot o (owned (before ++ noted_in o (slots_of a.flights slot))) s (joined before (noted_in o (slots_of a.flights slot))))
        (step_risen store number meant a b 0 slot o s.maps (owned before) (owned (before ++ noted_in o (slots_of a.flights slot))) s.step.is (joined before (noted_in o (slots_of a.flights slot))) r.ids)

    begun : (b : MachineValue P M) (tree : Tree) (call : Call) (o : Outcome) → MachineStep store number meant a (step.Begin tree call) o b → IsRecord store b opening earlier before
    begun b tree call (outcome.Begun slot) s =
        let c = begun_leaves store number meant a b opening (owned before) r.crashes tree call slot s in
        record { legal = legal_of c.0; crashes = c.0; begins = c.1 ∙ r.begins; ids = begun_risen store number meant a b tree call (outcome.Begun slot) s.maps (owned before) s.step.is r.ids }
    begun b tree call (outcome.Refused x) s =
        let c = unbegun_leaves store number meant a b opening (owned before) r.crashes tree call x s in
        record { legal = legal_of c.0; crashes = c.0; begins = c.1 ∙ r.begins; ids = begun_risen store number meant a b tree call (outcome.Refused x) s.maps (owned before) s.step.is r.ids }
    begun b tree call other s = absurd s.step.is

    given_up : (b : MachineValue P M) (slot : ℕ) (o : Outcome) → MachineStep store number meant a (step.Abandon slot) o b → IsRecord store b opening earlier before
    given_up b slot o s =
        let c = abandon_leaves store number meant a b opening (owned before) r.crashes slot o s in
        record { legal = legal_of c.0; crashes = c.0; begins = c.1 ∙ r.begins; ids = abandoned_risen store number meant a b slot o s.maps (owned before) s.step.is r.ids }

    of_slot : (b : MachineValue P M) (s : Step) (o : Outcome) → IsOfSlot s → MachineStep store number meant a s o b → Records b (made_by_step s o (slots_of a.flights))
    of_slot b (step.Step slot) o off s = stepped b slot o s
    of_slot b (step.Begin tree call) o off s = unlonger b (begun b tree call o s)
    of_slot b (step.Abandon slot) o off s = unlonger b (given_up b slot o s)
    of_slot b (step.Whole w) o off s = absurd off

    -- whole calls
    did : (b : MachineValue P M) (w : Whole) (reply : Reply) → MachineStep store number meant a (step.Whole w) (outcome.Decided reply) b → Records b (noted_whole w (outcome.Decided reply) 0)
    did b w reply s =
        recorded b (noted_whole w (outcome.Decided reply) 0)
        (decided_whole store number meant a b opening (owned before) r.crashes (owned (before ++ noted_whole w (outcome.Decided reply) 0)) 0 w reply s.maps 0 s.step.is (joined before (noted_whole w (outcome.Decided reply) 0)) (s.keeps r.crashes.left r.crashes.leaves))
        (risen b (noted_whole w (outcome.Decided reply) 0) (came_risen store number meant a b 0 w (outcome.Decided reply) s.maps 0 s.step.is))

    stopped : (b : MachineValue P M) (w : Whole) (e : Error) (n : ℕ) → MachineStep store number meant a (step.Whole w) (outcome.Refused e) b → CountsParts store meant a.db w (outcome.Refused e) n b.db → Records b (noted_whole w (outcome.Refused e) n)
    stopped b w e n s c =
        recorded b (noted_whole w (outcome.Refused e) n)
        (refused_whole store number meant a b opening (owned before) r.crashes (owned (before ++ noted_whole w (outcome.Refused e) n)) 0 w e s.maps n s.step.is c.is (joined before (noted_whole w (outcome.Refused e) n))
        (subst (AreCrashMaps (store b.db.pages)) (goes_on w e s.maps (maps_of (configuration_of store number meant b).state) r.crashes.left (λ l. l ≡ r.crashes.left ++ s.maps) refl) (s.keeps r.crashes.left r.crashes.leaves)))
        (risen b (noted_whole w (outcome.Refused e) n) (came_risen store number meant a b 0 w (outcome.Refused e) s.maps n s.step.is))

    -- ---- a call of the database

    module _ (new : DbValue P M) where
      abbrev b : MachineValue P M
      b = record a { db = new }

      -- what changes no map
      nothing : maps_of (db_state store meant new) ≡ maps_of (db_state store meant a.db) → (db_state store meant new).is_open ≡ (db_state store meant a.db).is_open → AddsCrashStates [] (store a.db.pages) (store new.pages) → a.db.greatest_id ≤ new.greatest_id
          → Records b []
      nothing same opens extends rises =
          recorded b []
          (rests store number meant a b opening (owned before) r.crashes (owned (before ++ [])) (joined before [])
          (still store number meant a b opening (owned before) r.crashes opens same)
          (none_added store number meant a b opening (owned before) r.crashes [] refl (extended [] (store a.db.pages) (store new.pages) extends r.crashes.left r.crashes.leaves)))
          (risen b [] rises)

      unchanged : (e : Option Error) → db_state store meant new ≡ db_state store meant a.db → Conducts store [] e a.db new → Records b []
      unchanged e same c = nothing (ap maps_of same) (ap (λ (s : State). s.is_open) same) c.leaves.extends (at_most _ _ (ap (λ (x : DbValue P M). x.greatest_id) c.same))

      pointed : (tree : Tree) (call : Call) (reply : Reply) → PointDecided store meant a.db tree call reply new → Records b (PointMade tree call reply ∷ [])
      pointed tree call reply d =
          let made : List MadeValue = PointMade tree call reply ∷ [] in
          let after : Maps = maps_of (db_state store meant new) in
          recorded b made
          (adds store number meant a b opening (owned before) r.crashes (owned (before ++ made)) 0 (PointMade tree call reply) after (after ∷ []) (joined before made)
          (subst (λ m. MakesPoint m tree call reply after) (sym (led store number meant a b opening (owned before) r.crashes (tested (db_state store meant a.db) (ToPoint tree call) d.decides.free)))
          (point_made (db_state store meant a.db) tree call reply (db_state store meant new) d.decides))
          refl (λ o. maps_same store meant b number)
          (extended (after ∷ []) (store a.db.pages) (store new.pages) d.conducts.leaves.extends r.crashes.left r.crashes.leaves))
          (risen b made (at_most _ _ (ap (λ (x : DbValue P M). x.greatest_id) d.conducts.same)))

      grouped : (batches : List (Tree × Writes)) → GroupDecided store meant a.db batches new → Records b (WholeMade (value.Group batches) Done ∷ [])
      grouped batches d =
          let made : List MadeValue = WholeMade (value.Group batches) Done ∷ [] in
          let A : State = (configuration_of store number meant a).state in
          let B : State = (configuration_of store number meant b).state in
          let t : DecidesGroup A batches Done B d.maps = d.decides (slots_of a.flights) a.slots_given in
          recorded b made
          (entry store number meant a b opening (owned before) r.crashes (owned (before ++ made)) 0 (value.Group batches) Done (maps_of B ∷ []) (joined before made) (tested_open A (trees_of_batches batches) t.free)
          (t.replies, have_maps A batches (pass_each A batches t.free), ap maps_of t.is ∙ writes (writes_of batches) A) refl
          (subst (λ x. AreCrashMaps (store new.pages) (r.crashes.left ++ x)) t.added (extended d.maps (store a.db.pages) (store new.pages) d.leaves.extends r.crashes.left r.crashes.leaves)))
          (risen b made (at_most _ _ (ap (λ (x : DbValue P M). x.greatest_id) d.same)))

      ungrouped : (batches : List (Tree × Writes)) (e : Error) → GroupRefused store meant a.db batches e new → Records b []
      ungrouped batches e d =
          let t = d.refuses (slots_of a.flights) a.slots_given in
          recorded b []
          (rests store number meant a b opening (owned before) r.crashes (owned (before ++ [])) (joined before [])
          (group_stops store number meant a b opening (owned before) r.crashes (owned (before ++ [])) 0 _ t.is)
          (none_added store number meant a b opening (owned before) r.crashes d.maps t.added (extended d.maps (store a.db.pages) (store new.pages) d.leaves.extends r.crashes.left r.crashes.leaves)))
          (risen b [] (at_most _ _ (ap (λ (x : DbValue P M). x.greatest_id) d.same)))

      imported : (all : List Content) → ImportDecided store meant a.db all new → Records b (WholeMade (value.Import all) Done ∷ [])
      imported all d =
          let made : List MadeValue = WholeMade (value.Import all) Done ∷ [] in
          let A : State = (configuration_of store number meant a).state in
          let B : State = (configuration_of store number meant b).state in
          let t : Imports A all B d.maps = d.decides (slots_of a.flights) a.slots_given in
          let opens = tested_open A [] t.free in
          let g = goes t.does in
          recorded b made
          (entry store number meant a b opening (owned before) r.crashes (owned (before ++ made)) 0 (value.Import all) Done g.0 (joined before made) opens (t.trees, refl, parts t.does) g.1
          (matched (store new.pages) (r.crashes.left ++ d.maps) (r.crashes.left ++ g.0) (extended d.maps (store a.db.pages) (store new.pages) d.leaves.extends r.crashes.left r.crashes.leaves)
          (g.2 r.crashes.left (subst (λ x. Ends r.crashes.left x) (led store number meant a b opening (owned before) r.crashes opens) (ends store number meant a b opening (owned before) r.crashes)))))
          (risen b made (at_most _ _ (ap (λ (x : DbValue P M). x.greatest_id) d.same)))

      unimported : (all : List Content) (e : Error) (n : ℕ) → ImportRefusedAfter store meant a.db all n e new → Records b (noted_with (value.Import all) None n)
      unimported all e n d =
          let made : List MadeValue = noted_with (value.Import all) None n in
          recorded b made
          (import_refused store number meant a b opening (owned before) r.crashes (owned (before ++ made)) 0 all e n d.is.maps d.is.refuses d.told (joined before made)
          (extended d.is.maps (store a.db.pages) (store new.pages) d.is.leaves.extends r.crashes.left r.crashes.leaves))
          (risen b made (subst (λ l. RiseBetween a.db.greatest_id l new.greatest_id) (sym (parts_ids 0 (value.Import all) n)) (at_most _ _ (ap (λ (x : DbValue P M). x.greatest_id) d.is.same))))

    of_db : (new : DbValue P M) (made : List MadeValue) → DbCall store number meant a.db made new → Records (record a { db = new }) made
    of_db new made (DidPoint {tree = tree} {call = call} {reply = reply} d) = pointed new tree call reply d
    of_db new made (PointStopped {e = e} d) = unchanged new (Some e) d.refuses.is d.conducts
    of_db new made (FetchStopped {e = e} same c) = unchanged new (Some e) same c
    of_db new made (DidWhole {whole = w} {reply = reply} off d) = did (record a { db = new }) w reply (whole_step a new w reply off d)
    of_db new made (WholeStopped {whole = w} {e = e} {number = n} d c) = stopped (record a { db = new }) w e n (whole_stops a new w e d) c
    of_db new made (Flushed {number = n} f) = did (record a { db = new }) whole.Flush (Number n) (flush_step a new n f)
    of_db new made (FlushStopped {e = e} f) = stopped (record a { db = new }) whole.Flush e 0 (flush_stops a new e f) (record { is = refl })
    of_db new made (DidGroup {batches = batches} d) = grouped new batches d
    of_db new made (GroupStopped {batches = batches} {e = e} d) = ungrouped new batches e d
    of_db new made (Imported {all = all} d) = imported new all d
    of_db new made (ImportStopped {all = all} {e = e} {number = n} d) = unimported new all e n d
    of_db new made (Dropped {name = name} {dropped = dropped} d) = did (record a { db = new }) (whole.DropTree name) _ (whole_step a new (whole.DropTree name) _ (λ e. cc) (drop_decided store meant _ _ _ _ d))
    of_db new made (DropStopped {name = name} {e = e} d) = stopped (record a { db = new }) (whole.DropTree name) e 0 (whole_stops a new (whole.DropTree name) e (drop_refused store meant _ _ _ _ d)) (record { is = refl })
    of_db new made (GaveId {id = id} d) = did (record a { db = new }) whole.GenerateId (Number id) (whole_step a new whole.GenerateId (Number id) (λ e. cc) (id_decided store meant _ _ _ d))
    of_db new made (IdStopped {e = e} d) = stopped (record a { db = new }) whole.GenerateId e 0 (whole_stops a new whole.GenerateId e (id_refused store meant _ _ _ d)) (record { is = refl })
    of_db new made (TookIds d) = nothing new (ap maps_of (d.state (λ n. None) 0)) (ap (λ (s : State). s.is_open) (d.state (λ n. None) 0)) d.leaves.extends d.rises
    of_db new made (SetOperator d) = subst (λ (x : DbValue P M). Records (record a { db = x }) []) (sym d.same) (nothing (record a.db { operators = new.operators }) (same_maps store meant a.db new.operators) refl (extends_same (store a.db.pages)) (at_most _ _ refl))
    of_db new made (OperatorStopped d) = subst (λ (x : DbValue P M). Records (record a { db = x }) []) (sym d.is) (nothing a.db refl refl (extends_same (store a.db.pages)) (at_most _ _ refl))
    of_db new made (Watched {tree = tree} {prefix = prefix} d) = did (record a { db = new }) (whole.Watch tree prefix) _ (whole_step a new (whole.Watch tree prefix) _ (λ e. cc) (watch_decided store meant _ _ _ _ _ d))
    of_db new made (WatchStopped {tree = tree} {prefix = prefix} {e = e} d) = stopped (record a { db = new }) (whole.Watch tree prefix) e 0 (whole_stops a new (whole.Watch tree prefix) e (watch_refused store meant _ _ _ _ _ d)) (record { is = refl })
    of_db new made (ToldNext {subscriber = subscriber} d) = did (record a { db = new }) (whole.Next subscriber) _ (whole_step a new (whole.Next subscriber) _ (λ e. cc) (next_decided store meant _ _ _ _ d))
    of_db new made (Unsubscribed {subscriber = subscriber} d) = did (record a { db = new }) (whole.Unsubscribe subscriber) _ (whole_step a new (whole.Unsubscribe subscriber) _ (λ e. cc) (unsubscribe_decided store meant _ _ _ d))

    one_call : (b : MachineValue P M) (made : List MadeValue) → MachineCall store number meant a made b → Records b made
    one_call b made (Stepped {s = s} {o = o} off k) = of_slot b s o off k
    one_call b made (Did {whole = w} {reply = reply} k) = did b w reply k
    one_call b made (Stopped {whole = w} {e = e} {number = n} k c) = stopped b w e n k c
    one_call b made (Called {new = new} k) = of_db new made k

  pub records : RecordLaw store number meant
  records a b opening earlier before made r NoCall = subst (λ l. IsRecord store a opening earlier l) (sym (append-nil before)) r
  records a b opening earlier before all r (OneCall {m = m} {made = made} {more = more} one rest) =
      subst (λ l. IsRecord store b opening earlier l) (append_assoc before made more) (records m b opening earlier (before ++ made) more (one_call a opening earlier before r m made one) rest)

  pub joins : JoinedLaw store number meant
  joins a m b made more NoCall k = k
  joins a m b all more (OneCall {m = next} {made = made} {more = rest} one calls) k = subst (λ l. MakesCalls store number meant a l b) (sym (append_assoc made rest more)) (OneCall one (joins next m b rest more calls k))

-- ---- the beginning

module _ {P M : Type 0} (store : P → Store) (d : DbValue P M) (sound : IsDb store d) where
  abbrev opening : List Content
  opening = collections (trees_of (now (store d.pages))) d.trees

  begins_now : maps_from opening ≡ maps_now store (alone d)
  begins_now = opened store d sound opening refl (alone d) refl

  pub in_pages : maps_from opening ≡ trees_of (now (store d.pages))
  in_pages = begins_now ∙ maps_are store (λ (o : M) k value bytes. None) d sound.forest sound.is

  pub begun_record : (earlier : List Maps) → LeavesBefore (store d.pages) earlier → IsRecord store (alone d) opening earlier []
  begun_record earlier before = record {
    legal = λ o. subst (λ m. IsLegal (maps_from opening) [] m) begins_now NoEntries;
    crashes = record {
      earlier = earlier;
      last = maps_from opening;
      left = earlier ++ maps_from opening ∷ [];
      leads = LeadsNoMore;
      moments = maps_from opening ∷ [];
      are = LastMoment;
      now = λ o. begins_now;
      leaves = record { is = subst (λ x. StutterEquivalent x (earlier ++ maps_from opening ∷ [])) (sym (before ∙ ap (λ x. earlier ++ x ∷ []) (sym in_pages))) (matches_same (earlier ++ maps_from opening ∷ [])) };
    };
    begins = refl;
    ids = none_risen d.greatest_id [] refl;
  }

-- outside every group the maps now are the last that a crash may leave
pub some_before : (s : Store) → (now s).in_group ≡ false → (earlier : List Maps) × LeavesBefore s earlier
some_before s opens = let before = now_left s opens in (map trees_of before.0, ap (map trees_of) before.1 ∙ map-append trees_of before.0 (now s ∷ []))
