-- Of StageAction, for proofs. What one page action of a call in flight does.
use Rattle.std.specs.Prelude.{◌≡◌, ◌≢◌, ℕ, ◌+◌, ◌⊎◌, Bool, List, [], Option, Some, None}
use Rattle.sled_store.specs.Store.{Store, now, HasUnreadable, is_refused_as}
use Rattle.sled_store.specs.declared.page.View.{View}
use Rattle.sled_nodes.specs.declared.error.Error.{Error}
use Rattle.sled_nodes.specs.declared.error.Error.TheVariants.{Io}
use Rattle.sled_model.specs.Maps.{Merge as Operator}
use Rattle.sled_model.specs.Answer.{answer_of}
use Rattle.sled_model.specs.State.{IsOnKey}
use Rattle.sled_model.specs.declared.reply.Reply.{Reply}
use Rattle.tree_laws.specs.Forest.{Tree, Forest, contents}
use Rattle.tree_laws.specs.Snapshot.{Snapshot, snapshot_of, nodes_at, HasForest}
use Rattle.tree_laws.specs.theory.Snapshot.{KeepsForest}
use Rattle.tree_laws.specs.Stages.{owned}
use Rattle.tree_laws.specs.theory.Stages.{IsHere}
use Rattle.tree_laws.specs.declared.flight.Stage.{Stage}
use Rattle.tree_laws.specs.declared.flight.Reached.{Reached}
use Rattle.sled_tree.specs.declared.flight.Sequel.{Sequel}
use Rattle.sled_tree.specs.declared.flight.Sequel.TheVariants.{Go, Decided, Refused}
use Rattle.sled_tree.specs.declared.flight.InFlight.{InFlight}
use Rattle.sled_tree.specs.declared.flight.Went.{Went}
use Rattle.sled_tree.specs.declared.flight.Went.TheVariants as went
use Rattle.sled_tree.specs.Course.{Course, course_of, IsAimed}
use Rattle.sled_tree.specs.Stages.{Knows}
use Rattle.sled_tree.specs.StageAction.{ActsOnce, ActsAtMostOnce, leaks_no_page_as}

abbrev pub is_action_refused_as : Error → Store → Store → Type 0
is_action_refused_as (Io fault) old new = is_refused_as (Io fault) old new ⊎ ((new ≡ old) × HasUnreadable old)
is_action_refused_as e old new = is_refused_as e old new

-- a refusal changes nothing, but that a fault may be counted; without one some page is not readable
abbrev pub effect_of_action : Sequel → Store → Store → Type 0
effect_of_action (Go stage) old new = ActsAtMostOnce old new
effect_of_action (Decided reply) old new = ActsAtMostOnce old new
effect_of_action (Refused e) old new = is_action_refused_as e old new

-- no tree's contents change
pub record KeepsContents (old : Snapshot) (w : Forest) (new : Snapshot) (v : Forest) : Type 0 where
  pub same : (t : Tree) → contents (nodes_at new) v t ≡ contents (nodes_at old) w t

-- The call, which is on a key, replies and changes its tree as its answer on the contents now says, by this operator. Without an event nothing is touched,
-- and with one there is exactly one action
pub record DecidesAs (operator : Option Operator) (j : Course) (reply : Reply) (a b : Store) (old : Snapshot) (w : Forest) (new : Snapshot) (v : Forest) : Type 0 where
  pub on_key : IsOnKey j.call
  pub replies : reply ≡ (answer_of operator j.call (contents (nodes_at old) w j.tree.name)).reply
  pub here : contents (nodes_at new) v j.tree.name ≡ (answer_of operator j.call (contents (nodes_at old) w j.tree.name)).map
  pub others : (t : Tree) → t ≢ j.tree.name → contents (nodes_at new) v t ≡ contents (nodes_at old) w t
  pub quiet : (answer_of operator j.call (contents (nodes_at old) w j.tree.name)).event ≡ None → b ≡ a
  pub loud : (answer_of operator j.call (contents (nodes_at old) w j.tree.name)).event ≢ None → ActsOnce a b

abbrev pub owned_next : Sequel → List ℕ
owned_next (Go stage) = owned stage
owned_next (Decided reply) = []
owned_next (Refused e) = []

-- what comes of an action from the store a to the store b. The call is decided as it is by each of these operators
abbrev pub StageOutcome : (Option Operator → Type 0) → Course → Store → Store → Snapshot → Forest → Sequel → Snapshot → Forest → Type 0
StageOutcome by j a b old w (Go stage) new v = Knows new v j stage × KeepsContents old w new v
StageOutcome by j a b old w (Decided reply) new v = (operator : Option Operator) → by operator → DecidesAs operator j reply a b old w new v
StageOutcome by j a b old w (Refused e) new v = KeepsContents old w new v

-- all operators, and this one alone
abbrev pub Whichever : Option Operator → Type 0
Whichever operator = Unit {0}

abbrev pub Only : Option Operator → Option Operator → Type 0
Only this operator = operator ≡ this

-- One page action of a call whose tree is current, from a stage to what comes next.
-- At every forest that shows the pages well formed, if the stage's facts hold, there is a forest after
pub record StageActionBy (by : Option Operator → Type 0) (j : Course) (old : Store) (stage : Stage) (next : Sequel) (new : Store) : Type 0 where
  pub touches : effect_of_action next old new
  pub is : (numbers : Tree → Option ℕ) (given : ℕ → Bool) (w : Forest)
      → HasForest (snapshot_of old numbers given) w → numbers j.tree.name ≡ Some j.tree.number → Knows (snapshot_of old numbers given) w j stage
      → (v : Forest) × KeepsForest (owned stage) (owned_next next) (snapshot_of old numbers given) w (snapshot_of new numbers given) v × StageOutcome by j old new (snapshot_of old numbers given) w next (snapshot_of new numbers given) v × leaks_no_page_as next (owned stage) (now old) (now new) v

-- .. that does not ask for the operator
abbrev pub StageAction : Course → Store → Stage → Sequel → Store → Type 0
StageAction = StageActionBy Whichever

abbrev pub flight_step_as : (Option Operator → Type 0) → Store → InFlight → Went → Store → InFlight → Type 0
flight_step_as by old f went.Moved new g = (g.job ≡ f.job) × (g.aim ≡ f.aim) × (g.turns ≡ f.turns + 1) × StageActionBy by (course_of f) old f.stage (Go g.stage) new
flight_step_as by old f (went.Yielded key value) new g = ⊥
flight_step_as by old f (went.Decided reply) new g = StageActionBy by (course_of f) old f.stage (Decided reply) new
flight_step_as by old f (went.Refused e) new g = StageActionBy by (course_of f) old f.stage (Refused e) new

-- one step of a call in flight: its stage's page action. If the call goes on it has one turn more
pub record FlightStepBy (by : Option Operator → Type 0) (old : Store) (f : InFlight) (went : Went) (new : Store) (g : InFlight) : Type 0 where
  pub is : flight_step_as by old f went new g

abbrev pub FlightStep : Store → InFlight → Went → Store → InFlight → Type 0
FlightStep = FlightStepBy Whichever

-- a page that was just read, how the walk reached it, and that a call on a key aims at it
abbrev pub IsReadPage : Snapshot → Forest → Course → View → Reached → Type 0
IsReadPage m w j v by = IsHere m w j.tree.name j.tree.number j.aim v by × IsAimed j

-- what comes of a read, which changes nothing
abbrev pub ReadOutcome : Course → Store → Snapshot → Forest → Sequel → Type 0
ReadOutcome j s m w next = (owned_next next ≡ []) × StageOutcome Whichever j s s m w next m w

-- What comes after a page was read, for every store from which it was read
pub record AfterPage (j : Course) (view : View) (by : Reached) (next : Sequel) : Type 0 where
  pub touches : (s : Store) → effect_of_action next s s
  pub is : (s : Store) (numbers : Tree → Option ℕ) (given : ℕ → Bool) (w : Forest)
      → HasForest (snapshot_of s numbers given) w → numbers j.tree.name ≡ Some j.tree.number → IsReadPage (snapshot_of s numbers given) w j view by
      → ReadOutcome j s (snapshot_of s numbers given) w next

-- the page is live as it was read
abbrev pub IsUnchangedNow : Snapshot → View → Type 0
IsUnchangedNow m v = m.state.pages v.pid ≡ Some (record { version = v.version; node = v.node })

-- what comes after a stage of a merge has read its page
pub record AfterRead (j : Course) (taken : Stage) (pid : ℕ) (view : View) (next : Sequel) : Type 0 where
  pub touches : (s : Store) → effect_of_action next s s
  pub is : (s : Store) (numbers : Tree → Option ℕ) (given : ℕ → Bool) (w : Forest)
      → HasForest (snapshot_of s numbers given) w → numbers j.tree.name ≡ Some j.tree.number → view.pid ≡ pid → IsUnchangedNow (snapshot_of s numbers given) view → Knows (snapshot_of s numbers given) w j taken
      → ReadOutcome j s (snapshot_of s numbers given) w next
