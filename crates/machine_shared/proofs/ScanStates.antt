-- What is known of scans in a state, after each of its calls.
use Rattle.std.proofs.Common.{◌≡◌, ◌≤◌, ◌∙◌, ◌⊎◌, inl, inr, ℕ, List, [], ◌++◌, length, Option, Some, None, option_map, Result, Ok, Err, IfOk, IfErr, OnOk, OnErr, sym, refl, ap, subst, le_of_eq, arith}
use Rattle.std.proofs.lemmas.List.{length-append}
use Rattle.std.specs.Global.{Vec}
use Rattle.sled_nodes.proofs.Basics.{none_some, some_is}
use Rattle.sled_nodes.specs.Order.{Key}
use Rattle.sled_nodes.specs.declared.error.Error.{Error}
use Rattle.sled_store.specs.In.{In}
use Rattle.sled_store.specs.Store.{Store}
use Rattle.sled_batch.specs.Batch.{Writes}
use Rattle.sled_model.specs.Collections.{Content}
use Rattle.sled_model.specs.Maps.{Maps, Merge}
use Rattle.sled_model.specs.Refusal.{ToPoint}
use Rattle.sled_model.specs.State.{State, CallInFlight, IsOnKey, maps_of, range_of}
use Rattle.sled_model.specs.Transition.{Configuration}
use Rattle.sled_model.specs.declared.call.Call.{Call}
use Rattle.sled_model.specs.declared.call.Call.TheVariants.{CompareAndSwap}
use Rattle.sled_model.specs.declared.call.Whole.{Whole}
use Rattle.sled_model.specs.declared.call.Whole.TheVariants.{Group}
use Rattle.sled_model.specs.declared.tree.Tree.{Tree}
use Rattle.sled_model.specs.declared.outcome.Step.TheVariants as step
use Rattle.sled_model.specs.declared.outcome.Outcome.{Outcome}
use Rattle.sled_model.specs.declared.outcome.Outcome.TheVariants as outcome
use Rattle.scan_laws.specs.Scanned.{Ascend}
use Rattle.sled_tree.specs.declared.flight.InFlight.{InFlight}
use Rattle.sled.specs.Flights.{call_in_flight_of}
use Rattle.sled.specs.Transactions.{TakesIds}
use Rattle.sled.specs.Values.{DbValue, db_state}
use Rattle.machine_alone.specs.Sound.{AreSlotsGiven}
use Rattle.machine_alone.specs.Step.{MachineStep, MachineStepContract}
use Rattle.machine_alone.specs.Values.{MachineValue, configuration_of, job_of_call, kept_at, slots_of}
use Rattle.machine_shared.specs.Made.{EntryValue, MadeValue}
use Rattle.machine_shared.specs.WholeNotes.{NotesWhole}
use Rattle.machine_shared.specs.Scans.{ScansValue, NotesScan, begun_of, noted_at, scanned_of}
use Rattle.machine_shared.specs.Sound.{CrashLeaves, HasScans, IsOpen}
use Rattle.machine_shared.specs.Values.{StateValue}
use Rattle.machine_shared.specs.Fetches.{StaysStill, SwapsNow}
use Rattle.machine_shared.specs.theory.Transacting.{GroupMade, GroupUnmade}
use Rattle.machine_shared.specs.Scanned.{AreOfScans}
use Rattle.machine_shared.specs.UnderWay.{MachineScans}
use Rattle.machine_shared.proofs.Leading.{tested}
use Rattle.machine_shared.proofs.Legal.{maps_same}
use Rattle.machine_shared.proofs.Moments.{GoesOn, last_there}
use Rattle.machine_shared.proofs.ScanSteps.{AtLast, scans_begin, scans_beside, scans_key, scans_quiet, scans_step}

module _ {P M : Type 0} (store : P → Store) (number : P → ℕ) (meant : M → Merge) where
  abbrev pub at_of : MachineValue P M → Configuration
  at_of m = configuration_of store number meant m

  -- the maps of an open database are those of the last moment
  pub last_moment : (m : MachineValue P M) (opening : List Content) (history : List EntryValue) (l : CrashLeaves store m opening history) → AtLast (at_of m) l.moments (length history)
  last_moment m opening history l o from le = record {
    at = length history;
    behind = le;
    before = le_of_eq refl;
    maps = l.last;
    there = last_there l.are;
    so = maps_same store meant m number ∙ sym (l.now o);
  }

  module _ (a b : MachineValue P M) (opening : List Content) (history longer : List EntryValue) (l : CrashLeaves store a opening history) (c : CrashLeaves store b opening longer) (goes : GoesOn l.moments c.moments) (more : length history ≤ length longer)
      (scans : ScansValue) (h : MachineScans store a l.moments (length history) scans) (ascend : Ascend (at_of a).state) where
    pub after_begin : (tree : Tree) (call : Call) (r : Result ℕ Error) (new : ScansValue) → IfOk r (λ slot. MachineStepContract store number meant a (step.Begin tree call) (outcome.Begun slot) b)
        → IfErr r (λ e. MachineStepContract store number meant a (step.Begin tree call) (outcome.Refused e) b) → IfOk r (λ slot. NotesScan scans (noted_at slot (length history) (begun_of tree call)) new) → OnErr r (new ≡ scans)
        → MachineScans store b c.moments (length longer) new
    after_begin tree call (Ok slot) new ok err notes same = scans_begin (at_of a) (at_of b) l.moments c.moments (length history) (length longer) goes more (last_moment a opening history l) (last_moment b opening longer c) scans h ascend tree call slot ok.step.maps ok.step.step new notes
    after_begin tree call (Err x) new ok err notes same = subst (λ (z : ScansValue). MachineScans store b c.moments (length longer) z) (sym same) (scans_quiet (at_of a) (at_of b) l.moments c.moments (length history) (length longer) goes more (last_moment a opening history l) (last_moment b opening longer c) scans h ascend (step.Begin tree call) (outcome.Refused x) err.step.maps err.step.step (λ s. refl) tt)

    pub after_step : (i : ℕ) (o : Outcome) → MachineStep store number meant a (step.Step i) o b → AreSlotsGiven a.flights a.slots_given → (new : ScansValue) → NotesScan scans (noted_at i (length history) (scanned_of o)) new
        → MachineScans store b c.moments (length longer) new
    after_step i o t given new notes = scans_step (at_of a) (at_of b) l.moments c.moments (length history) (length longer) goes more (last_moment a opening history l) (last_moment b opening longer c) scans h ascend i o t.maps t.step (λ slot f e. go slot (kept_at a.flights slot) refl e) new notes
      where
        go : (slot : ℕ) {f : CallInFlight} (k : Option InFlight) → kept_at a.flights slot ≡ k → option_map call_in_flight_of k ≡ Some f → slot ≤ a.slots_given
        go slot None here e = none_some e
        go slot (Some g) here e = given slot g here

    pub after_key_step : (i : ℕ) (o : Outcome) → MachineStep store number meant a (step.Step i) o b → (tree : Tree) (call : Call) → option_map job_of_call (slots_of a.flights i) ≡ Some (tree, call) → IsOnKey call → MachineScans store b c.moments (length longer) scans
    after_key_step i o t tree call here key = go (slots_of a.flights i) refl here
      where
        go : (x : Option CallInFlight) → slots_of a.flights i ≡ x → option_map job_of_call x ≡ Some (tree, call) → MachineScans store b c.moments (length longer) scans
        go None is e = none_some e
        go (Some f) is e = scans_key (at_of a) (at_of b) l.moments c.moments (length history) (length longer) goes more (last_moment a opening history l) (last_moment b opening longer c) scans h ascend i o t.maps t.step f is (ap (λ (j : Tree × Call). range_of j.1) (some_is e) ∙ key)

    pub after_abandon : (i : ℕ) (o : Outcome) → MachineStepContract store number meant a (step.Abandon i) o b → MachineScans store b c.moments (length longer) scans
    after_abandon i o s = scans_quiet (at_of a) (at_of b) l.moments c.moments (length history) (length longer) goes more (last_moment a opening history l) (last_moment b opening longer c) scans h ascend (step.Abandon i) o s.step.maps s.step.step (λ slot. refl) tt

    -- where nothing was done
    pub after_none : b ≡ a → MachineScans store b c.moments (length longer) scans
    after_none same = scans_beside (at_of a) (at_of b) l.moments c.moments (length history) (length longer) goes more (last_moment a opening history l) (last_moment b opening longer c) scans h ascend (ap (λ (m : MachineValue P M). slots_of m.flights) same) (ap (λ (m : MachineValue P M). m.slots_given) same) (subst (λ m. Ascend (at_of m).state) (sym same) ascend) (λ o. subst (λ m. IsOpen store m) same o)

    -- where ids were taken, or nothing was done
    pub after_run : b ≡ record a { db = b.db } → TakesIds store meant a.db b.db ⊎ (b.db ≡ a.db) → MachineScans store b c.moments (length longer) scans
    after_run same (inl t) = scans_beside (at_of a) (at_of b) l.moments c.moments (length history) (length longer) goes more (last_moment a opening history l) (last_moment b opening longer c) scans h ascend (ap (λ (m : MachineValue P M). slots_of m.flights) same) (ap (λ (m : MachineValue P M). m.slots_given) same)
        (λ name map there. ascend name map (sym (ap (λ (s : State). maps_of s name) (t.state (slots_of b.flights) b.slots_given)) ∙ there)) (λ o. ap (λ (s : State). s.is_open) (sym (t.state (slots_of b.flights) b.slots_given)) ∙ o)
    after_run same (inr none) = after_none (same ∙ ap (λ (d : DbValue P M). record a { db = d }) none)

    pub after_whole : (n : ℕ) (made more_made : List MadeValue) (w : Whole) (o : Outcome) → NotesWhole store number meant a history n made w o b longer more_made → MachineScans store b c.moments (length longer) scans
    after_whole n made more_made w o notes = elim notes.comes [
      | inl d ↦ scans_quiet (at_of a) (at_of b) l.moments c.moments (length history) (length longer) goes more (last_moment a opening history l) (last_moment b opening longer c) scans h ascend (step.Whole w) o d.step.step.maps d.step.step.step (λ slot. refl) tt
      | inr d ↦ after_none d.same
    ]

    pub after_group : (group : Vec (Tree × Writes)) (r : Result (Unit {0}) Error) → OnOk r (GroupMade store number meant a group b) → IfErr r (GroupUnmade store number meant a group b) → MachineScans store b c.moments (length longer) scans
    after_group group (Ok x) made unmade = scans_quiet (at_of a) (at_of b) l.moments c.moments (length history) (length longer) goes more (last_moment a opening history l) (last_moment b opening longer c) scans h ascend (step.Whole (Group group)) (outcome.Decided made.reply) made.step.step.maps made.step.step.step (λ slot. refl) tt
    after_group group (Err x) made unmade = elim unmade [
      | inl u ↦ after_none u.0
      | inr g ↦ scans_quiet (at_of a) (at_of b) l.moments c.moments (length history) (length longer) goes more (last_moment a opening history l) (last_moment b opening longer c) scans h ascend (step.Whole (Group group)) (outcome.Refused x) g.step.step.maps g.step.step.step (λ slot. refl) tt
    ]

    pub after_fetch : (tree : Tree) (key : Key) (r : Result (Option Key × Option Key) Error) → IfOk r (λ both. SwapsNow store meant a tree key both.0 both.1 b) → OnErr r (StaysStill store meant a b) → b ≡ record a { db = b.db } → Ascend (at_of b).state
        → MachineScans store b c.moments (length longer) scans
    after_fetch tree key r swaps stays same asc = scans_beside (at_of a) (at_of b) l.moments c.moments (length history) (length longer) goes more (last_moment a opening history l) (last_moment b opening longer c) scans h ascend (ap (λ (m : MachineValue P M). slots_of m.flights) same) (ap (λ (m : MachineValue P M). m.slots_given) same) asc (opens r swaps stays)
      where
        opens : (r : Result (Option Key × Option Key) Error) → IfOk r (λ both. SwapsNow store meant a tree key both.0 both.1 b) → OnErr r (StaysStill store meant a b) → IsOpen store b → IsOpen store a
        opens (Ok both) swaps stays o = tested (db_state store meant a.db) (ToPoint tree (CompareAndSwap key both.0 both.1)) swaps.swaps.decides.free
        opens (Err x) swaps stays o = ap (λ (s : State). s.is_open) (sym stays.state) ∙ o

-- a history that grew is no shorter
pub no_shorter : (history longer more : List EntryValue) → longer ≡ history ++ more → length history ≤ length longer
no_shorter history longer more e =
    let sum = length-append history more in
    let same = ap length e in
    omega (arith, sum, same)

-- what a state tells of its scans
pub has_scans : {P M : Type 0} (store : P → Store) (s : StateValue P M) (c : CrashLeaves store s.machine s.opening.contents s.history) (to : ℕ) → MachineScans store s.machine c.moments to s.scans → HasScans store s
has_scans store s c to h = record { moments = c.moments; last = c.last; are = c.are; now = c.now; gave = h.gave; of_scans = h.of_scans; going = h.going }

-- before anything was noted
pub first_scans : {P M : Type 0} (store : P → Store) (m : MachineValue P M) (moments : List Maps) (to : ℕ) (scans : ScansValue) → scans.notes ≡ [] → m.flights ≡ [] → MachineScans store m moments to scans
first_scans store m moments to scans none empty = record {
  gave = λ n tree lo hi back i d. absurd (subst (λ ns. In n ns) none i);
  of_scans = subst (λ ns. AreOfScans [] ns) (sym none) tt;
  going = λ k slot f e. none_some (sym (ap (λ fs. slots_of fs slot) empty) ∙ e);
  bounded = λ n i. absurd (subst (λ ns. In n ns) none i);
  under_way = λ k o n tree lo hi back i d f e. absurd (subst (λ ns. In n ns) none i);
}
