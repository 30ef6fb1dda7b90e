-- Calls that are made at once, in no slot.
use Rattle.std.specs.Prelude.{◌≡◌, ◌≢◌, ℕ, ◌≤◌, ◌⊎◌, true, List, [], ◌∷◌, length, Option, Some, None, Result}
use Rattle.sled_store.specs.In.{In}
use Rattle.std.specs.declared.ops.Bound.TheVariants.{Included}
use Rattle.sled_nodes.specs.Order.{Key}
use Rattle.sled_store.specs.State.{GroupEnds}
use Rattle.sled_store.specs.Store.{Store, now, after_action, after_flush, only_faults}
use Rattle.sled_nodes.specs.declared.node.Node.{Node}
use Rattle.sled_nodes.specs.declared.error.Error.{Error}
use Rattle.sled_nodes.specs.declared.error.Error.TheVariants.{NoMemory}
use Rattle.sled_model.specs.Maps.{Maps, Merge}
use Rattle.sled_model.specs.Answer.{key_of}
use Rattle.sled_model.specs.State.{CallInFlight, maps_of}
use Rattle.sled_model.specs.Transition.{does_of, Kind, Flushing, Telling, Changing, Grouping, InParts, Dropping, Listening, kind_of}
use Rattle.sled_model.specs.Whole.{DecidesPoint, RefusesPoint}
use Rattle.sled_model.specs.Refusal.{ToPoint, ToCall, must_refuse, TellsTurns, turns_limit}
use Rattle.sled_model.specs.declared.call.Call.{Call}
use Rattle.sled_model.specs.declared.call.Whole.{Whole}
use Rattle.sled_model.specs.declared.call.Whole.TheVariants.{Flush, PopMin, PopMax, Clear, Group, OpenTree, DropTree, GenerateId, Import, Watch, Next, Unsubscribe}
use Rattle.sled_model.specs.declared.outcome.Outcome.{Outcome}
use Rattle.sled_model.specs.declared.outcome.Outcome.TheVariants as outcome
use Rattle.sled_model.specs.declared.tree.Tree.{Tree}
use Rattle.sled_model.specs.declared.reply.Reply.{Reply}
use Rattle.sled_model.specs.declared.reply.Reply.TheVariants.{Flag}
use Rattle.tree_laws.specs.Forest.{Place, Forest}
use Rattle.tree_laws.specs.Snapshot.{Snapshot, nodes_at, HasForest}
use Rattle.tree_laws.specs.Paths.{IsClean}
use Rattle.tree_laws.specs.Crashes.{AddsCrashStates}
use Rattle.tree_laws.specs.declared.flight.Stage.TheVariants.{Root}
use Rattle.sled_tree.specs.Known.{IsKnown}
use Rattle.sled_tree.specs.declared.flight.Aim.TheVariants.{Own}
use Rattle.sled_tree.specs.declared.flight.InFlight.{InFlight}
use Rattle.sled_tree.specs.declared.flight.Went.TheVariants.{Decided, Refused}
use Rattle.tree_groups.specs.Writes.{ActsOften, PagesLast}
use Rattle.tree_groups.specs.Groups.{ActsInside}
use Rattle.tree_quick.specs.Outcomes.{went_of}
use Rattle.sled.specs.Values.{DbValue, db_state, state_of, configuration_of, snapshot_of_db}
use Rattle.sled.specs.Sound.{IsDb}
use Rattle.sled.specs.Flights.{IsStepRefused, DbRunsToEnd}

-- changing actions, one after the other, and faults that are counted between them
pub record ActsAndCounts (old new : Store) : Type 0 where
  pub last : Store
  pub acts : ActsOften old last
  pub counts : last.faults ≤ new.faults
  pub is : new ≡ record last { faults = new.faults }

-- what a call does to the store. One that is refused does no more after what it was refused
abbrev pub effects_until : Option Error → Store → Store → Type 0
effects_until None old new = ActsOften old new
effects_until (Some e) old new = (last : Store) × ActsOften old last × IsStepRefused e last new

-- each page that was in a tree is still there, or is merging, or was freed; but for those of the tree that is lost, if one is
pub record StaysInChainOrWent (lost : Option Key) (old : Snapshot) (w : Forest) (new : Snapshot) (v : Forest) : Type 0 where
  pub is : (x : Place) (p : ℕ) → lost ≢ Some x.tree → In p (w.chain x) → In p (v.chain x) ⊎ (((n : Node) × (nodes_at new p ≡ Some n) × (n.merging ≡ true)) ⊎ (nodes_at new p ≡ None))
  pub last : PagesLast old new

-- .. at the forests that fit the pages at the two moments: over any number of steps no page of a tree is lost
abbrev pub KeepsOrFreesTreePages : Option Key → Snapshot → Snapshot → Type 0
KeepsOrFreesTreePages lost old new = (w v : Forest) → HasForest old w → HasForest new v → StaysInChainOrWent lost old w new v

-- What a call leaves of all else: what a crash may leave grows by these maps, what every call in flight knows stays true, and no page
-- of a tree is lost but of this one, if there is one
pub record LeavesAll {P M : Type 0} (store : P → Store) (maps : List Maps) (lost : Option Key) (old new : DbValue P M) : Type 0 where
  pub extends : AddsCrashStates maps (store old.pages) (store new.pages)
  pub others : (h : InFlight) → IsKnown (snapshot_of_db store old) h → IsKnown (snapshot_of_db store new) h
  pub loses : KeepsOrFreesTreePages lost (snapshot_of_db store old) (snapshot_of_db store new)
  pub sound : IsDb store old → IsDb store new

-- What a call on a key does and leaves: nothing of the database changes but its pages and its queues
pub record Conducts {P M : Type 0} (store : P → Store) (maps : List Maps) (refused : Option Error) (old new : DbValue P M) : Type 0 where
  pub acts : effects_until refused (store old.pages) (store new.pages)
  pub leaves : LeavesAll store maps None old new
  pub same : new ≡ record old { pages = new.pages; queues = new.queues }

-- a group was begun and refused after that: it does no more after what it was refused, and is left open
abbrev pub is_left_open : Error → Store → Store → Type 0
is_left_open e old new = (last : Store) × ActsInside old last × IsStepRefused e last new × ((now new).in_group ≡ true)

-- What a group does to the store: nothing, or it is begun, its writes do changing actions, one after the other, and it is sealed. One
-- that is refused does nothing if it is refused before its begin, and is left open if it is refused after that
abbrev pub effect_of_group : Option Error → Store → Store → Type 0
effect_of_group None old new = (new ≡ old) ⊎ ((last : Store) × ActsInside old last × (new ≡ after_action GroupEnds last))
effect_of_group (Some e) old new = IsStepRefused e old new ⊎ is_left_open e old new

-- What a whole call does to the store: a flush makes all durable, and a call that only returns something does nothing, but that it may
-- raise the mark. If one of these is refused, nothing but a fault is counted. One that drops a tree does changing actions, and faults
-- may be counted between them, since a refusal after the root went is not returned; if it is refused it does no action. One that learns
-- of changes does nothing. Any other does changing actions, one after the other, and after the last of them nothing; if it is refused
-- then at most a fault is counted
abbrev pub effect_of_whole : Kind → Outcome → Store → Store → Type 0
effect_of_whole Flushing (outcome.Decided reply) old new = new ≡ after_flush old
effect_of_whole Flushing (outcome.Refused e) old new = only_faults e old new
effect_of_whole Telling (outcome.Decided reply) old new = new ≡ record old { mark = new.mark }
effect_of_whole Telling (outcome.Refused e) old new = only_faults e old new
effect_of_whole Dropping (outcome.Decided reply) old new = ActsAndCounts old new
effect_of_whole Dropping (outcome.Refused e) old new = IsStepRefused e old new
effect_of_whole Listening o old new = new ≡ old
effect_of_whole Changing (outcome.Decided reply) old new = effects_until None old new
effect_of_whole Changing (outcome.Refused e) old new = effects_until (Some e) old new
effect_of_whole Grouping (outcome.Decided reply) old new = effect_of_group None old new
effect_of_whole Grouping (outcome.Refused e) old new = effect_of_group (Some e) old new
effect_of_whole InParts (outcome.Decided reply) old new = effects_until None old new
effect_of_whole InParts (outcome.Refused e) old new = effects_until (Some e) old new
effect_of_whole kind o old new = ⊥

-- what a whole call may change of the database, if it is decided and if it is refused
pub record Alters (P M : Type 0) : Type 1 where
  pub decided : DbValue P M → DbValue P M → Type 0
  pub refused : DbValue P M → DbValue P M → Type 0

-- .. each of them: its pages. One that removes or imports keys may change the queues too, one that opens a tree the list of trees, and one
-- that drops a tree that list and the operators. One that takes an id may change the greatest that was given. One that learns of changes
-- touches the queues alone. Refused, a clear may have removed some keys, and an import keeps the parts that it did
abbrev pub alters_of : {P M : Type 0} → Whole → Alters P M
alters_of Flush = record {
  decided = λ old new. new ≡ record old { pages = new.pages };
  refused = λ old new. new ≡ record old { pages = new.pages };
}
alters_of (PopMin tree) = record {
  decided = λ old new. new ≡ record old { pages = new.pages; queues = new.queues };
  refused = λ old new. new ≡ record old { pages = new.pages; queues = new.queues };
}
alters_of (PopMax tree) = record {
  decided = λ old new. new ≡ record old { pages = new.pages; queues = new.queues };
  refused = λ old new. new ≡ record old { pages = new.pages; queues = new.queues };
}
alters_of (Clear tree) = record {
  decided = λ old new. new ≡ record old { pages = new.pages; queues = new.queues };
  refused = λ old new. new ≡ record old { pages = new.pages; queues = new.queues };
}
alters_of (Group batches) = record {
  decided = λ old new. new ≡ record old { pages = new.pages; queues = new.queues };
  refused = λ old new. new ≡ record old { pages = new.pages; queues = new.queues };
}
alters_of (OpenTree name) = record {
  decided = λ old new. new ≡ record old { pages = new.pages; trees = new.trees; trees_given = new.trees_given };
  refused = λ old new. new ≡ record old { pages = new.pages };
}
alters_of (DropTree name) = record {
  decided = λ old new. new ≡ record old { pages = new.pages; trees = new.trees; operators = new.operators };
  refused = λ old new. new ≡ record old { pages = new.pages };
}
alters_of GenerateId = record {
  decided = λ old new. new ≡ record old { pages = new.pages; greatest_id = new.greatest_id };
  refused = λ old new. new ≡ record old { pages = new.pages };
}
alters_of (Import collections) = record {
  decided = λ old new. new ≡ record old { pages = new.pages; queues = new.queues; trees = new.trees; trees_given = new.trees_given };
  refused = λ old new. new ≡ record old { pages = new.pages; queues = new.queues; trees = new.trees; trees_given = new.trees_given };
}
alters_of (Watch tree prefix) = record {
  decided = λ old new. new ≡ record old { queues = new.queues };
  refused = λ old new. new ≡ record old { pages = new.pages };
}
alters_of (Next subscriber) = record {
  decided = λ old new. new ≡ record old { queues = new.queues };
  refused = λ old new. new ≡ record old { pages = new.pages };
}
alters_of (Unsubscribe subscriber) = record {
  decided = λ old new. new ≡ record old { queues = new.queues };
  refused = λ old new. new ≡ record old { pages = new.pages };
}

abbrev pub changes_only : {P M : Type 0} → Whole → DbValue P M → DbValue P M → Type 0
changes_only whole old new = (alters_of whole).decided old new

abbrev pub changes_refused : {P M : Type 0} → Whole → DbValue P M → DbValue P M → Type 0
changes_refused whole old new = (alters_of whole).refused old new

-- the tree that a decided whole call drops, if it drops one
abbrev pub lost_of : Whole → Reply → Option Key
lost_of (DropTree name) (Flag true) = Some name
lost_of whole reply = None

-- a call as it begins
abbrev pub begun_flight : Tree → Call → InFlight
begun_flight tree call = record { job = record { tree = tree; call = call }; aim = Own; stage = Root; turns = 0 }

module _ {P M : Type 0} (store : P → Store) (meant : M → Merge) where
  -- A call on a key of a tree was decided, by the same steps as in a machine
  pub record PointDecided (old : DbValue P M) (tree : Tree) (call : Call) (reply : Reply) (new : DbValue P M) : Type 0 where
    pub decides : DecidesPoint (db_state store meant old) tree call reply (db_state store meant new)
    pub conducts : Conducts store (maps_of (db_state store meant new) ∷ []) None old new
    pub last : InFlight
    pub steps : DbRunsToEnd store meant old (begun_flight tree call) (Decided reply) new last

  -- a call does nothing before its first step: a test refuses it, or there is no memory for it
  pub record StopsAtFirst (old : DbValue P M) (tree : Tree) (call : Call) (e : Error) : Type 0 where
    pub why : (must_refuse (db_state store meant old) (ToPoint tree call) ≢ None) ⊎ (e ≡ NoMemory)

  -- .. or it was refused: before its first step, or at one of them. It is refused for its turns only if there was something to repair on
  -- the way to its key, or if the way has so many levels
  pub record PointRefused (old : DbValue P M) (tree : Tree) (call : Call) (e : Error) (new : DbValue P M) : Type 0 where
    pub refuses : RefusesPoint (db_state store meant old) (store old.pages) (store new.pages) tree call e (db_state store meant new)
    pub conducts : Conducts store [] (Some e) old new
    pub steps : (StopsAtFirst old tree call e × (new ≡ old)) ⊎ ((last : InFlight) × DbRunsToEnd store meant old (begun_flight tree call) (Refused e) new last)
    pub turns : TellsTurns e → (path : List ℕ) → IsClean (now (store old.pages)) tree.name (Included (key_of call)) path → turns_limit ≤ length path

  -- A call on a key of a tree was made at once, by the steps of one in flight from its begin to its end
  pub record RunsAtOnce (old : DbValue P M) (tree : Tree) (call : Call) (made : Result Reply Error) (new : DbValue P M) : Type 0 where
    pub last : InFlight
    pub steps : DbRunsToEnd store meant old (begun_flight tree call) (went_of made) new last

  -- A whole call was decided, in whatever machine the database is
  pub record WholeDecided (old : DbValue P M) (whole : Whole) (reply : Reply) (new : DbValue P M) : Type 0 where
    pub maps : List Maps
    pub decides : (slots : ℕ → Option CallInFlight) (slots_given number : ℕ) → (does_of whole).decides (configuration_of store meant old slots slots_given number) reply (state_of store meant new slots slots_given) maps
    pub acts : effect_of_whole (kind_of whole) (outcome.Decided reply) (store old.pages) (store new.pages)
    pub leaves : LeavesAll store maps (lost_of whole reply) old new
    pub same : changes_only whole old new

  -- .. or it was refused
  pub record WholeRefused (old : DbValue P M) (whole : Whole) (e : Error) (new : DbValue P M) : Type 0 where
    pub maps : List Maps
    pub refuses : (slots : ℕ → Option CallInFlight) (slots_given : ℕ) → (does_of whole).refuses (state_of store meant old slots slots_given) (store old.pages) (store new.pages) e (state_of store meant new slots slots_given) maps
    pub acts : effect_of_whole (kind_of whole) (outcome.Refused e) (store old.pages) (store new.pages)
    pub leaves : LeavesAll store maps None old new
    pub same : changes_refused whole old new
    -- by a test, and then it did nothing
    pub tested : must_refuse (db_state store meant old) (ToCall whole) ≢ None → new ≡ old
