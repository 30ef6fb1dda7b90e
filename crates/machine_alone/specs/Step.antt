-- One step of the machine.
use Rattle.std.specs.Prelude.{◌≡◌, ◌≢◌, ℕ, suc, ◌<◌, List, [], length, Option, Some, None}
use Rattle.sled_store.specs.Store.{Store, now}
use Rattle.sled_nodes.specs.Order.{Key}
use Rattle.sled_model.specs.Maps.{Maps, Merge}
use Rattle.sled_model.specs.Answer.{answer_of}
use Rattle.sled_model.specs.Refusal.{ToCall, ToStep, must_refuse, turns_limit}
use Rattle.sled_model.specs.State.{State, NamedTree, CallInFlight, maps_of, range_of}
use Rattle.sled_model.specs.Transition.{Transition, Kind, Flushing, kind_of}
use Rattle.sled_nodes.specs.declared.error.Error.{Error}
use Rattle.sled_model.specs.declared.call.Whole.{Whole}
use Rattle.sled_model.specs.declared.outcome.Step.{Step}
use Rattle.sled_model.specs.declared.outcome.Step.TheVariants as step
use Rattle.sled_model.specs.declared.outcome.Outcome.{Outcome}
use Rattle.sled_model.specs.declared.outcome.Outcome.TheVariants.{Begun, Moved, Yielded, Decided, Refused, NoSuchSlot}
use Rattle.sled_model.specs.declared.event.Event.{Event}
use Rattle.tree_laws.specs.Forest.{Forest}
use Rattle.tree_laws.specs.Snapshot.{Snapshot, HasForest}
use Rattle.tree_laws.specs.Stages.{owned}
use Rattle.sled_tree.specs.StageAction.{ActsOnce, ActsAtMostOnce, LeaksNoPage}
use Rattle.sled_tree.specs.Passing.{IsOnPath}
use Rattle.sled_tree.specs.Course.{course_of}
use Rattle.sled_tree.specs.declared.flight.Aim.TheVariants.{Own}
use Rattle.sled_tree.specs.declared.flight.InFlight.{InFlight}
use Rattle.tree_laws.specs.declared.flight.Stage.TheVariants.{Root}
use Rattle.sled_tree.specs.declared.flight.Went.{Went}
use Rattle.sled.specs.Sound.{IsDb}
use Rattle.sled.specs.Values.{DbValue, db_state, snapshot_of_db}
use Rattle.tree_steps.specs.Outcomes.{outcome_of}
use Rattle.sled.specs.Flights.{IsStepRefused, KeepsTreePages, call_in_flight_of, follows_as, has_path}
use Rattle.sled.specs.Direct.{KeepsOrFreesTreePages, effect_of_whole, lost_of}
use Rattle.machine_alone.specs.CrashMaps.{AreCrashMaps, crash_maps_after}
use Rattle.machine_alone.specs.StepsInSlot.{flight_after}
use Rattle.machine_alone.specs.Ways.{way_for}
use Rattle.machine_alone.specs.Values.{MachineValue, kept_at, configuration_of}

-- One step of the machine is a step of the model, which adds these maps to those after each decided call. Whatever maps a crash might leave
-- before it, those that it might leave after it are what the step makes of them
pub record MachineStep {P M : Type 0} (store : P → Store) (flush_number : P → ℕ) (meant : M → Merge) (old : MachineValue P M) (s : Step) (o : Outcome) (new : MachineValue P M) : Type 0 where
  pub maps : List Maps
  pub step : Transition (configuration_of store flush_number meant old) s o (configuration_of store flush_number meant new) maps
  pub keeps : (kept : List Maps) → AreCrashMaps (store old.db.pages) kept → AreCrashMaps (store new.db.pages) (crash_maps_after s o maps (maps_of (configuration_of store flush_number meant new).state) kept)

-- The pages stay well formed, now and after every crash
pub record MachineSound {P M : Type 0} (store : P → Store) (old new : MachineValue P M) : Type 0 where
  pub keeps : IsDb store old.db → IsDb store new.db

-- the call in the slot brings this event by the map now, or none
pub record BringsAt (s : State) (slot : ℕ) (event : Option Event) : Type 0 where
  pub flying : CallInFlight
  pub here : s.slots slot ≡ Some flying
  pub tree : NamedTree
  pub there : s.trees flying.tree.name ≡ Some tree
  pub is : (answer_of tree.merge flying.call tree.map).event ≡ event

-- what a decided call does: no action if it brings no event, and one changing action if it brings one
pub record DecidesBy (s : State) (slot : ℕ) (old new : Store) : Type 0 where
  pub does : ActsAtMostOnce old new
  pub quiet : BringsAt s slot None → new ≡ old
  pub loud : (event : Event) → BringsAt s slot (Some event) → ActsOnce old new

-- What a step does to the store: a call that begins or is abandoned, or that no slot has, does nothing. A step of a slot does at most
-- one changing action: none if a scan gives a pair, or the call is refused or decided without an event, and one if it is decided with
-- one. A fault that the store counts refuses the call with `Io`
abbrev pub effect_of_machine_step : State → Step → Outcome → Store → Store → Type 0
effect_of_machine_step s (step.Begin tree call) o old new = new ≡ old
effect_of_machine_step s (step.Step slot) (Yielded key value) old new = new ≡ old
effect_of_machine_step s (step.Step slot) (Decided reply) old new = DecidesBy s slot old new
effect_of_machine_step s (step.Step slot) (Refused e) old new = IsStepRefused e old new
effect_of_machine_step s (step.Step slot) NoSuchSlot old new = new ≡ old
effect_of_machine_step s (step.Step slot) o old new = ActsAtMostOnce old new
effect_of_machine_step s (step.Abandon slot) o old new = new ≡ old
effect_of_machine_step s (step.Whole whole) o old new = effect_of_whole (kind_of whole) o old new

pub record MachineActs {P M : Type 0} (store : P → Store) (meant : M → Merge) (old : MachineValue P M) (s : Step) (o : Outcome) (new : MachineValue P M) : Type 0 where
  pub is : effect_of_machine_step (configuration_of store (λ p. 0) meant old).state s o (store old.db.pages) (store new.db.pages)

-- the call did what its stage is to do, and is at the stage that follows; and a scan gave the next pair, or went on from behind its leaf
pub record FollowsAt {P M : Type 0} (store : P → Store) (old : MachineValue P M) (f : InFlight) (slot : ℕ) (o : Outcome) (new : MachineValue P M) : Type 0 where
  pub went : Went
  pub next : InFlight
  pub outcome : o ≡ outcome_of went
  pub there : kept_at new.flights slot ≡ flight_after went next
  pub follows : follows_as (range_of f.job.call) (store old.db.pages) f went (store new.db.pages) next

-- a step of a slot follows from the stage of its call, if the tests pass and a turn is left
abbrev pub follows_stage_as : {P M : Type 0} → (P → Store) → (M → Merge) → MachineValue P M → Step → Outcome → MachineValue P M → Type 0
follows_stage_as store meant old (step.Step slot) o new = (f : InFlight) → kept_at old.flights slot ≡ Some f → must_refuse (db_state store meant old.db) (ToStep (call_in_flight_of f)) ≡ None → f.turns < turns_limit → FollowsAt store old f slot o new
follows_stage_as store meant old s o new = Unit {0}

pub record MachineFollows {P M : Type 0} (store : P → Store) (meant : M → Merge) (old : MachineValue P M) (s : Step) (o : Outcome) (new : MachineValue P M) : Type 0 where
  pub is : follows_stage_as store meant old s o new

-- the call in the slot has this path of pages ahead of it, and nothing to repair on it
pub record IsPathAhead {P M : Type 0} (store : P → Store) (m : MachineValue P M) (slot : ℕ) (path : List ℕ) : Type 0 where
  pub flight : InFlight
  pub here : kept_at m.flights slot ≡ Some flight
  pub clean : IsOnPath (now (store m.db.pages)) (course_of flight) flight.stage path

-- a step of a slot that goes on along a clean path has a page less ahead of it: any step of a call on a key, and of a scan each until it
-- has its leaf
abbrev pub advances_on_path_as : {P M : Type 0} → (P → Store) → MachineValue P M → Step → Outcome → MachineValue P M → Type 0
advances_on_path_as store old (step.Step slot) Moved new = (path : List ℕ) → (ahead : IsPathAhead store old slot path) → has_path (range_of ahead.flight.job.call) ahead.flight.stage
    → (rest : List ℕ) × (length path ≡ suc (length rest)) × IsPathAhead store new slot rest
advances_on_path_as store old s o new = Unit {0}

pub record MachinePasses {P M : Type 0} (store : P → Store) (old : MachineValue P M) (s : Step) (o : Outcome) (new : MachineValue P M) : Type 0 where
  pub is : advances_on_path_as store old s o new

-- the slot that a step is about; a whole call is about none, and nor is a call that does not begin
abbrev pub slot_of : Step → Outcome → Option ℕ
slot_of (step.Begin tree call) (Begun slot) = Some slot
slot_of (step.Step slot) o = Some slot
slot_of (step.Abandon slot) o = Some slot
slot_of s o = None

-- a call that begins has yet to read its tree's root
abbrev pub starts_as : {P M : Type 0} → Step → Outcome → MachineValue P M → Type 0
starts_as (step.Begin tree call) (Begun slot) new = kept_at new.flights slot ≡ Some (record { job = record { tree = tree; call = call }; aim = Own; stage = Root; turns = 0 })
starts_as s o new = Unit {0}

-- a call that begins is in its slot; and the calls in all other slots are as they were, with what they know of the pages and what they
-- own
pub record MachineSlots {P M : Type 0} (old : MachineValue P M) (s : Step) (o : Outcome) (new : MachineValue P M) : Type 0 where
  pub starts : starts_as s o new
  pub others : (slot : ℕ) → slot_of s o ≢ Some slot → kept_at new.flights slot ≡ kept_at old.flights slot

-- the tree that a step drops, if it drops one
abbrev pub lost_by : Step → Outcome → Option Key
lost_by (step.Whole whole) (Decided reply) = lost_of whole reply
lost_by s o = None

-- each page of a tree is still there, or is merging, but for those of the tree that is lost. A whole call but a flush does many actions,
-- and a page that merged may have been freed by then
abbrev pub whole_keeps_tree_pages : Kind → Option Key → Snapshot → Snapshot → Type 0
whole_keeps_tree_pages Flushing lost old new = KeepsTreePages None old new
whole_keeps_tree_pages kind lost old new = KeepsOrFreesTreePages lost old new

abbrev pub keeps_tree_pages_as : Step → Outcome → Snapshot → Snapshot → Type 0
keeps_tree_pages_as (step.Whole whole) o old new = whole_keeps_tree_pages (kind_of whole) (lost_by (step.Whole whole) o) old new
keeps_tree_pages_as s o old new = KeepsTreePages None old new

-- no page of a tree is lost
pub record MachineKeepsTreePages {P M : Type 0} (store : P → Store) (old : MachineValue P M) (s : Step) (o : Outcome) (new : MachineValue P M) : Type 0 where
  pub none : keeps_tree_pages_as s o (snapshot_of_db store old.db) (snapshot_of_db store new.db)

-- the pages that are the own of the call in a slot, if there is one
abbrev pub owned_by : Option InFlight → List ℕ
owned_by None = []
owned_by (Some f) = owned f.stage

-- a step of a slot leaves no page behind, unless the call is refused
abbrev pub leaks_no_page_at : {P M : Type 0} → (P → Store) → MachineValue P M → Step → Outcome → MachineValue P M → Type 0
leaks_no_page_at store old (step.Step slot) (Refused e) new = Unit {0}
leaks_no_page_at store old (step.Step slot) o new = (v : Forest) → HasForest (snapshot_of_db store new.db) v
    → LeaksNoPage (owned_by (kept_at old.flights slot)) (owned_by (kept_at new.flights slot)) (now (store old.db.pages)) (now (store new.db.pages)) v
leaks_no_page_at store old s o new = Unit {0}

pub record MachineLeaksNoPage {P M : Type 0} (store : P → Store) (old : MachineValue P M) (s : Step) (o : Outcome) (new : MachineValue P M) : Type 0 where
  pub is : leaks_no_page_at store old s o new

-- when a whole call may be refused for its turns
abbrev pub whole_gives_up : {P M : Type 0} → (P → Store) → (M → Merge) → DbValue P M → Whole → Error → Type 0
whole_gives_up store meant old whole e = (way_for store meant old whole).gives_up e

abbrev pub gives_up_as : {P M : Type 0} → (P → Store) → (M → Merge) → DbValue P M → Step → Outcome → Type 0
gives_up_as store meant old (step.Whole whole) (Refused e) = whole_gives_up store meant old whole e
gives_up_as store meant old s o = Unit {0}

pub record MachineGivesUp {P M : Type 0} (store : P → Store) (meant : M → Merge) (old : MachineValue P M) (s : Step) (o : Outcome) : Type 0 where
  pub is : gives_up_as store meant old.db s o

-- a whole call but the flush that a test refuses does nothing
abbrev pub whole_tested : Kind → Type 0 → Type 0
whole_tested Flushing told = Unit {0}
whole_tested kind told = told

abbrev pub tested_as : {P M : Type 0} → (P → Store) → (M → Merge) → MachineValue P M → Step → Outcome → MachineValue P M → Type 0
tested_as store meant old (step.Whole whole) (Refused e) new = whole_tested (kind_of whole) (must_refuse (db_state store meant old.db) (ToCall whole) ≢ None → new ≡ old)
tested_as store meant old s o new = Unit {0}

pub record MachineTested {P M : Type 0} (store : P → Store) (meant : M → Merge) (old : MachineValue P M) (s : Step) (o : Outcome) (new : MachineValue P M) : Type 0 where
  pub is : tested_as store meant old s o new

-- the way in which a whole call gets its answer
abbrev pub way_of_whole : {P M : Type 0} → (P → Store) → (M → Merge) → DbValue P M → Whole → Outcome → DbValue P M → Type 0
way_of_whole store meant old whole o new = (way_for store meant old whole).way o new

abbrev pub way_as : {P M : Type 0} → (P → Store) → (M → Merge) → DbValue P M → Step → Outcome → DbValue P M → Type 0
way_as store meant old (step.Whole whole) o new = way_of_whole store meant old whole o new
way_as store meant old s o new = Unit {0}

pub record MachineWay {P M : Type 0} (store : P → Store) (meant : M → Merge) (old : MachineValue P M) (s : Step) (o : Outcome) (new : MachineValue P M) : Type 0 where
  pub is : way_as store meant old.db s o new.db

-- All that is said of one step
pub record MachineStepContract {P M : Type 0} (store : P → Store) (flush_number : P → ℕ) (meant : M → Merge) (old : MachineValue P M) (s : Step) (o : Outcome) (new : MachineValue P M) : Type 0 where
  pub step : MachineStep store flush_number meant old s o new
  pub sound : MachineSound store old new
  pub does : MachineActs store meant old s o new
  pub follows : MachineFollows store meant old s o new
  pub passes : MachinePasses store old s o new
  pub slots : MachineSlots old s o new
  pub loses : MachineKeepsTreePages store old s o new
  pub leaves : MachineLeaksNoPage store old s o new
  pub gives_up : MachineGivesUp store meant old s o
  pub tested : MachineTested store meant old s o new
  pub way : MachineWay store meant old s o new
