-- One step of a call in flight on a database.
use Rattle.std.specs.Prelude.{◌≡◌, ◌≢◌, ℕ, zero, suc, ◌+◌, ◌<◌, ◌≤◌, ◌⊎◌, true, List, [], ◌∷◌, length, Option, Some, None}
use Rattle.sled_store.specs.In.{In}
use Rattle.sled_nodes.specs.declared.error.Error.{Error}
use Rattle.sled_nodes.specs.declared.error.Error.TheVariants.{Io}
use Rattle.sled_nodes.specs.declared.node.Node.{Node}
use Rattle.sled_store.specs.Store.{Store, now, HasUnreadable, only_faults}
use Rattle.sled_store.specs.Update.{put_at}
use Rattle.sled_model.specs.Maps.{Maps, Merge}
use Rattle.sled_model.specs.Answer.{answer_of}
use Rattle.sled_nodes.specs.Ranges.{Range}
use Rattle.sled_model.specs.State.{NamedTree, CallInFlight, maps_of, range_of, IsOnKey}
use Rattle.sled_model.specs.Refusal.{ToStep, must_refuse, TellsTurns, turns_limit}
use Rattle.sled_model.specs.Transition.{Transition}
use Rattle.sled_model.specs.declared.event.Event.{Event}
use Rattle.sled_model.specs.declared.reply.Reply.{Reply}
use Rattle.sled_model.specs.declared.outcome.Step.TheVariants as step
use Rattle.sled_queues.specs.Values.{QueuesValue, queue_at}
use Rattle.sled_queues.specs.Queues.{Becomes}
use Rattle.tree_laws.specs.Forest.{Tree, Place, Forest}
use Rattle.tree_laws.specs.Crashes.{AddsCrashStates}
use Rattle.tree_laws.specs.Snapshot.{Snapshot, nodes_at, HasForest}
use Rattle.tree_laws.specs.Stages.{owned}
use Rattle.tree_laws.specs.declared.flight.Stage.{Stage}
use Rattle.sled_tree.specs.Stages.{IsOnItsWay}
use Rattle.sled_tree.specs.Known.{IsKnown, AreApart}
use Rattle.tree_scans.specs.Scans.{waiting_in, rest_in, ScanStep}
use Rattle.sled_tree.specs.StageAction.{ActsOnce, ActsAtMostOnce, leaks_no_page_as}
use Rattle.sled_tree.specs.Follows.{FollowsOn}
use Rattle.sled_tree.specs.Passing.{IsOnPath, StepsOnPath}
use Rattle.sled_tree.specs.Course.{course_of}
use Rattle.sled_tree.specs.declared.flight.InFlight.{InFlight}
use Rattle.sled_tree.specs.declared.flight.Sequel.{Sequel}
use Rattle.sled_tree.specs.declared.flight.Sequel.TheVariants as sequel
use Rattle.sled_tree.specs.declared.flight.Went.{Went}
use Rattle.sled_tree.specs.declared.flight.Went.TheVariants.{Moved, Yielded, Decided, Refused}
use Rattle.tree_groups.specs.Writes.{PagesLast}
use Rattle.tree_steps.specs.Outcomes.{outcome_of}
use Rattle.sled.specs.Values.{DbValue, db_state, configuration_of, snapshot_of_db}
use Rattle.sled.specs.Sound.{IsDb}

-- a call in flight, as the model has it
abbrev pub call_in_flight_of : InFlight → CallInFlight
call_in_flight_of f = record { tree = f.job.tree; call = f.job.call; turns = f.turns; waiting = waiting_in f.stage f.aim (range_of f.job.call); rest = rest_in f.stage f.aim (range_of f.job.call) }

-- what the call's slot holds after the step
abbrev pub slot_after : Went → InFlight → Option CallInFlight
slot_after Moved g = Some (call_in_flight_of g)
slot_after (Yielded key value) g = Some (call_in_flight_of g)
slot_after (Decided reply) g = None
slot_after (Refused e) g = None

-- the outcome of a step, as the outcome of its page action
abbrev pub sequel_of : Went → InFlight → Sequel
sequel_of Moved g = sequel.Go g.stage
sequel_of (Yielded key value) g = sequel.Go g.stage
sequel_of (Decided reply) g = sequel.Decided reply
sequel_of (Refused e) g = sequel.Refused e

-- the maps that the step added
abbrev pub maps_added : Went → Maps → List Maps
maps_added (Decided reply) maps = maps ∷ []
maps_added other maps = []

-- the step was decided, and brings this event, or none
pub record BringsEvent {P M : Type 0} (store : P → Store) (meant : M → Merge) (old : DbValue P M) (f : InFlight) (went : Went) (event : Option Event) : Type 0 where
  pub reply : Reply
  pub decided : went ≡ Decided reply
  pub tree : NamedTree
  pub there : (db_state store meant old).trees f.job.tree.name ≡ Some tree
  pub is : (answer_of tree.merge f.job.call tree.map).event ≡ event

-- each page that was in a tree is still there, or is merging; but for those of the tree that is lost, if one is
pub record StaysInChain (lost : Option Tree) (old : Snapshot) (w : Forest) (new : Snapshot) (v : Forest) : Type 0 where
  pub is : (x : Place) (p : ℕ) → lost ≢ Some x.tree → In p (w.chain x) → In p (v.chain x) ⊎ ((n : Node) × (nodes_at new p ≡ Some n) × (n.merging ≡ true))
  pub last : PagesLast old new

-- .. at the forests that fit the pages at the two moments
abbrev pub KeepsTreePages : Option Tree → Snapshot → Snapshot → Type 0
KeepsTreePages lost old new = (w v : Forest) → HasForest old w → HasForest new v → StaysInChain lost old w new v

-- a refusal changes nothing; but `Io` counts a fault, or says that some page is not readable
abbrev pub IsStepRefused : Error → Store → Store → Type 0
IsStepRefused (Io fault) old new = only_faults (Io fault) old new ⊎ ((new ≡ old) × HasUnreadable old)
IsStepRefused e old new = only_faults e old new

-- what a step does to the store: at most one changing action, and none if a pair is given or the call is refused
abbrev pub effect_of_step : Went → Store → Store → Type 0
effect_of_step Moved old new = ActsAtMostOnce old new
effect_of_step (Yielded key value) old new = new ≡ old
effect_of_step (Decided reply) old new = ActsAtMostOnce old new
effect_of_step (Refused e) old new = IsStepRefused e old new

-- a step fills the queues if it decides the call, and else leaves them as they are. It gives no subscriber a number
abbrev pub keeps_queues : Went → QueuesValue → QueuesValue → Type 0
keeps_queues (Decided reply) old new = new.given ≡ old.given
keeps_queues other old new = Becomes (queue_at old) old.given new

-- One step of a call in flight. In whatever slot the call is, the machine makes this step, and what a crash may leave grows by the map
-- after the call, if it was decided. Nothing of the database changes but its pages and its queues
pub record DbStep {P M : Type 0} (store : P → Store) (meant : M → Merge) (old : DbValue P M) (f : InFlight) (went : Went) (new : DbValue P M) (g : InFlight) : Type 0 where
  pub steps : (slots : ℕ → Option CallInFlight) (slots_given slot before after : ℕ) → slots slot ≡ Some (call_in_flight_of f)
      → Transition (configuration_of store meant old slots slots_given before) (step.Step slot) (outcome_of went) (configuration_of store meant new (put_at slots slot (slot_after went g)) slots_given after) (maps_added went (maps_of (db_state store meant new)))
  pub extends : AddsCrashStates (maps_added went (maps_of (db_state store meant new))) (store old.pages) (store new.pages)
  pub same : new ≡ record old { pages = new.pages; queues = new.queues }
  pub queues : keeps_queues went old.queues new.queues

-- The pages stay well formed, now and after every crash
pub record DbSound {P M : Type 0} (store : P → Store) (old new : DbValue P M) : Type 0 where
  pub keeps : IsDb store old → IsDb store new

-- At most one changing action is done: none if the call is refused or was decided without an event, and one if it was decided with one
pub record DbActs {P M : Type 0} (store : P → Store) (meant : M → Merge) (old : DbValue P M) (f : InFlight) (went : Went) (new : DbValue P M) : Type 0 where
  pub does : effect_of_step went (store old.pages) (store new.pages)
  pub quiet : BringsEvent store meant old f went None → store new.pages ≡ store old.pages
  pub loud : (event : Event) → BringsEvent store meant old f went (Some event) → ActsOnce (store old.pages) (store new.pages)

-- a scan that goes on aims where it aimed
abbrev pub keeps_aim : Went → InFlight → InFlight → Type 0
keeps_aim Moved f g = g.aim ≡ f.aim
keeps_aim other f g = Unit {0}

-- a scan on its way leads where its stage does, and aims where it aimed
pub record WalksOn (old : Store) (f : InFlight) (went : Went) (new : Store) (g : InFlight) : Type 0 where
  pub follows : FollowsOn old f went new g
  pub aims : keeps_aim went f g

-- a step of a call on a key leads where its stage does, and one of a scan where its range and its leaf do
abbrev pub follows_as : Option Range → Store → InFlight → Went → Store → InFlight → Type 0
follows_as None old f went new g = FollowsOn old f went new g
follows_as (Some range) old f went new g = ScanStep WalksOn old f went new g

-- if the tests pass and a turn is left, the step does what the call's stage is to do, and leads where that leads
abbrev pub DbFollows : {P M : Type 0} → (P → Store) → (M → Merge) → DbValue P M → InFlight → Went → DbValue P M → InFlight → Type 0
DbFollows store meant old f went new g = must_refuse (db_state store meant old) (ToStep (call_in_flight_of f)) ≡ None → f.turns < turns_limit → follows_as (range_of f.job.call) (store old.pages) f went (store new.pages) g

-- a call on a key goes over a path at every step, and a scan until it has its leaf
abbrev pub has_path : Option Range → Stage → Type 0
has_path None a = Unit {0}
has_path (Some range) a = IsOnItsWay a

-- on a clean path the call goes one page further, or ends
abbrev pub DbPasses : {P M : Type 0} → (P → Store) → DbValue P M → InFlight → Went → DbValue P M → InFlight → Type 0
DbPasses store old f went new g = has_path (range_of f.job.call) f.stage → StepsOnPath (now (store old.pages)) f went (now (store new.pages)) g

-- no page of the call's own is left behind, but by a call that is refused
abbrev pub DbLeaksNoPage : {P M : Type 0} → (P → Store) → DbValue P M → InFlight → Went → DbValue P M → InFlight → Type 0
DbLeaksNoPage store old f went new g = (v : Forest) → HasForest (snapshot_of_db store new) v → leaks_no_page_as (sequel_of went g) (owned f.stage) (now (store old.pages)) (now (store new.pages)) v

-- the call has not ended with the step
abbrev pub HasMore : Went → Type 0
HasMore Moved = Unit {0}
HasMore (Yielded key value) = Unit {0}
HasMore (Decided reply) = ⊥
HasMore (Refused e) = ⊥

-- What the calls know: the call goes on and knows what it needs; and what another call knows stays true, and no page becomes the two
-- calls' own
pub record DbKnows {P M : Type 0} (store : P → Store) (old : DbValue P M) (f : InFlight) (went : Went) (new : DbValue P M) (g : InFlight) : Type 0 where
  pub goes_on : HasMore went → (g.job ≡ f.job) × IsKnown (snapshot_of_db store new) g
  pub others : (h : InFlight) → AreApart f h → IsKnown (snapshot_of_db store old) h → IsKnown (snapshot_of_db store new) h × (HasMore went → AreApart g h)

-- All that is said of one step
pub record DbStepContract {P M : Type 0} (store : P → Store) (meant : M → Merge) (old : DbValue P M) (f : InFlight) (went : Went) (new : DbValue P M) (g : InFlight) : Type 0 where
  pub step : DbStep store meant old f went new g
  pub sound : DbSound store old new
  pub does : DbActs store meant old f went new
  pub follows : DbFollows store meant old f went new g
  pub passes : DbPasses store old f went new g
  -- no page of a tree is lost
  pub loses : KeepsTreePages None (snapshot_of_db store old) (snapshot_of_db store new)
  pub leaves : DbLeaksNoPage store old f went new g
  pub knows : DbKnows store old f went new g

-- Steps of a call in flight, one after the other, of which so many go on and the next gives a pair of a scan or ends the call. Between them
-- the database is as it should be
pub data DbSteps {P M : Type 0} (store : P → Store) (meant : M → Merge) : ℕ → DbValue P M → InFlight → Went → DbValue P M → InFlight → Type 0 where
  Ends : {old new : DbValue P M} {f g : InFlight} {went : Went} → DbStepContract store meant old f went new g → went ≢ Moved → DbSteps store meant zero old f went new g
  GoesOn : {n : ℕ} {old mid new : DbValue P M} {f h g : InFlight} {went : Went} → DbStepContract store meant old f Moved mid h → IsDb store mid → DbSteps store meant n mid h went new g → DbSteps store meant (suc n) old f went new g

-- the call was not refused for its turns
abbrev pub has_turns : Went → Type 0
has_turns (Refused e) = TellsTurns e → ⊥
has_turns other = Unit {0}

-- the call went on at most once for each page of the path, and was not refused for its turns
pub record TakesAtMost (moves : ℕ) (went : Went) (path : List ℕ) : Type 0 where
  pub fits : moves ≤ length path
  pub unlimited : has_turns went

-- All steps of a call in flight to its end, or of a scan to its next pair. Over a clean path of fewer pages than it has turns left a call
-- on a key goes on at most once a page
pub record DbRunsToEnd {P M : Type 0} (store : P → Store) (meant : M → Merge) (old : DbValue P M) (f : InFlight) (went : Went) (new : DbValue P M) (g : InFlight) : Type 0 where
  pub moves : ℕ
  pub flies : DbSteps store meant moves old f went new g
  pub passes : IsOnKey f.job.call → (path : List ℕ) → IsOnPath (now (store old.pages)) (course_of f) f.stage path → f.turns + length path < turns_limit → TakesAtMost moves went path
