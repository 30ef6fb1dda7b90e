-- One step of the machine, by cases.
use Rattle.std.specs.Prelude.{◌≡◌, ◌⊎◌, true, ℕ, ◌+◌, ◌<◌, List, [], ◌∷◌, Option, Some, None}
use Rattle.sled_nodes.specs.Order.{Key}
use Rattle.sled_nodes.specs.Ranges.{Range}
use Rattle.sled_store.specs.Update.{put_at}
use Rattle.sled_store.specs.Store.{Store}
use Rattle.sled_nodes.specs.declared.error.Error.{Error}
use Rattle.sled_model.specs.Maps.{Maps, IsLeast, IsGreatest}
use Rattle.sled_model.specs.Answer.{answer_of}
use Rattle.sled_model.specs.State.{State, NamedTree, CallInFlight, maps_of, range_of, after_decision_on}
use Rattle.sled_model.specs.Scan.{ReadsPart, is_read}
use Rattle.sled_model.specs.Refusal.{ToBegin, ToStep, ToCall, must_refuse, must_refuse_of, may_refuse_as, cause_of_import, MayRefuse, TellsTurns, turns_limit}
use Rattle.sled_model.specs.declared.call.Call.{Call}
use Rattle.sled_model.specs.declared.call.Whole.{Whole}
use Rattle.sled_model.specs.declared.call.Whole.TheVariants.{Flush, PopMin, PopMax, Clear, Group, OpenTree, DropTree, GenerateId, Import, Watch, Next, Unsubscribe}
use Rattle.sled_model.specs.Whole.{Pops, Clears, StopsClearing, OpensTree, DropsTreeOf, GeneratesId, Watches, TakesNext}
use Rattle.sled_model.specs.Collections.{contents_of}
use Rattle.sled_model.specs.Imports.{Imports, Stop, StopsAtPart}
use Rattle.sled_model.specs.Groups.{DecidesGroup, StopsGroup}
use Rattle.sled_model.specs.declared.tree.Tree.{Tree}
use Rattle.sled_model.specs.declared.reply.Reply.{Reply}
use Rattle.sled_model.specs.declared.event.Next as event
use Rattle.sled_model.specs.declared.reply.Reply.TheVariants.{Number, Done}
use Rattle.sled_model.specs.declared.reply.Reply.TheVariants as told
use Rattle.sled_model.specs.declared.outcome.Step.{Step}
use Rattle.sled_model.specs.declared.outcome.Step.TheVariants as step
use Rattle.sled_model.specs.declared.outcome.Outcome.{Outcome}
use Rattle.sled_model.specs.declared.outcome.Outcome.TheVariants.{Begun, Moved, Yielded, Decided, Refused, Abandoned, NoSuchSlot}

-- the state of a database and the store that it is over, at one moment, and the number that a flush would answer then
pub record Configuration : Type 0 where
  pub state : State
  pub store : Store
  pub flush_number : ℕ

-- the call takes the next slot, with no turns, and a scan has all of its range to read
pub record Begin (old : State) (tree : Tree) (call : Call) (slot : ℕ) (new : State) : Type 0 where
  pub free : must_refuse old (ToBegin tree call) ≡ None
  pub next : slot ≡ old.slots_given + 1
  pub is : new ≡ record old { slots = put_at old.slots slot (Some (record { tree = tree; call = call; turns = 0; waiting = []; rest = range_of call })); slots_given = slot }

-- The call in the slot has one turn more. It has the pairs and the range that it had, or a scan reads a part of its range
pub record Move (old : State) (slot : ℕ) (new : State) : Type 0 where
  pub flying : CallInFlight
  pub here : old.slots slot ≡ Some flying
  pub free : must_refuse old (ToStep flying) ≡ None
  pub fits : flying.turns < turns_limit
  pub waiting : List (Key × Key)
  pub rest : Option Range
  pub tree : NamedTree
  pub there : old.trees flying.tree.name ≡ Some tree
  pub reads : ((waiting ≡ flying.waiting) × (rest ≡ flying.rest)) ⊎ ReadsPart tree.map flying.waiting flying.rest waiting rest
  pub is : new ≡ record old { slots = put_at old.slots slot (Some (record flying { turns = flying.turns + 1; waiting = waiting; rest = rest })) }

-- the scan in the slot gives the first pair that waits, and its turns begin again
pub record Yield (old : State) (slot : ℕ) (key value : Key) (new : State) : Type 0 where
  pub flying : CallInFlight
  pub here : old.slots slot ≡ Some flying
  pub free : must_refuse old (ToStep flying) ≡ None
  pub fits : flying.turns < turns_limit
  pub more : List (Key × Key)
  pub waits : flying.waiting ≡ (key, value) ∷ more
  pub is : new ≡ record old { slots = put_at old.slots slot (Some (record flying { turns = 0; waiting = more })) }

-- The call in the slot replies, changes its tree's map and fills the queues by the answer on the map now, and ends. A scan ends if no
-- pair waits, and nothing is left to read
pub record Decide (old : State) (slot : ℕ) (reply : Reply) (new : State) : Type 0 where
  pub flying : CallInFlight
  pub here : old.slots slot ≡ Some flying
  pub free : must_refuse old (ToStep flying) ≡ None
  pub fits : flying.turns < turns_limit
  pub tree : NamedTree
  pub there : old.trees flying.tree.name ≡ Some tree
  pub none : flying.waiting ≡ []
  pub done : is_read flying.rest ≡ true
  pub replies : reply ≡ (answer_of tree.merge flying.call tree.map).reply
  pub is : new ≡ record (after_decision_on old flying.tree.name tree (answer_of tree.merge flying.call tree.map)) { slots = put_at old.slots slot None }

-- the call in the slot is refused, with its cause, and ends
pub record RefuseStep (old : State) (a b : Store) (slot : ℕ) (e : Error) (new : State) : Type 0 where
  pub flying : CallInFlight
  pub here : old.slots slot ≡ Some flying
  pub may : MayRefuse old a b (ToStep flying) e
  -- without turns left it is refused for that, and for nothing else
  pub limit : must_refuse old (ToStep flying) ≡ None → flying.turns ≡ turns_limit → TellsTurns e
  pub is : new ≡ record old { slots = put_at old.slots slot None }

-- the call in the slot is abandoned
pub record Abandon (old : State) (slot : ℕ) (new : State) : Type 0 where
  pub flying : CallInFlight
  pub here : old.slots slot ≡ Some flying
  pub is : new ≡ record old { slots = put_at old.slots slot None }

-- what a whole call is about: to make durable what was decided, to return something and change no map, or to change maps: in one step, by a
-- group, or part by part. Or it is to drop a tree, or to learn of changes, which touches neither maps nor pages
pub data Kind : Type 0 where
  Flushing : Kind
  Telling : Kind
  Changing : Kind
  Grouping : Kind
  InParts : Kind
  Dropping : Kind
  Listening : Kind

-- a whole call is refused for a cause, and nothing changes
abbrev pub RefusesAtOnce : State → Store → Store → Whole → Error → State → List Maps → Type 0
RefusesAtOnce old a b whole e new maps = MayRefuse old a b (ToCall whole) e × (new ≡ old) × (maps ≡ [])

-- what a whole call does: what it is about, what is so when it is decided with a reply, and when it is refused with a cause
pub record Does : Type 1 where
  pub kind : Kind
  pub decides : Configuration → Reply → State → List Maps → Type 0
  pub refuses : State → Store → Store → Error → State → List Maps → Type 0

-- .. each of them. A flush answers the store's number. A closed database too returns what is next for a subscriber, and drops a queue, with
-- the events that waited there; these two are never refused. If a call is refused nothing changes, but for the parts that a call in parts
-- has done, and that a group refused midway closes the database. An import is refused before its first part, if the database is closed or
-- some collection is of another type, or at one of its parts
abbrev pub does_of : Whole → Does
does_of Flush = record {
  kind = Flushing;
  decides = λ old reply new maps. (must_refuse old.state (ToCall Flush) ≡ None) × (reply ≡ Number old.flush_number) × (new ≡ old.state) × (maps ≡ []);
  refuses = λ old a b e new maps. RefusesAtOnce old a b Flush e new maps;
}
does_of (PopMin tree) = record {
  kind = Changing;
  decides = λ old reply new maps. Pops IsLeast old.state (PopMin tree) tree reply new maps;
  refuses = λ old a b e new maps. RefusesAtOnce old a b (PopMin tree) e new maps;
}
does_of (PopMax tree) = record {
  kind = Changing;
  decides = λ old reply new maps. Pops IsGreatest old.state (PopMax tree) tree reply new maps;
  refuses = λ old a b e new maps. RefusesAtOnce old a b (PopMax tree) e new maps;
}
does_of (Clear tree) = record {
  kind = InParts;
  decides = λ old reply new maps. (reply ≡ Done) × Clears old.state tree new maps;
  refuses = λ old a b e new maps. StopsClearing old a b tree e new maps;
}
does_of (Group batches) = record {
  kind = Grouping;
  decides = λ old reply new maps. DecidesGroup old.state batches.items reply new maps;
  refuses = λ old a b e new maps. StopsGroup old a b batches.items e new maps;
}
does_of (OpenTree name) = record {
  kind = Changing;
  decides = λ old reply new maps. OpensTree old.state name reply new maps;
  refuses = λ old a b e new maps. RefusesAtOnce old a b (OpenTree name) e new maps;
}
does_of (DropTree name) = record {
  kind = Dropping;
  decides = λ old reply new maps. DropsTreeOf old.state name reply new maps;
  refuses = λ old a b e new maps. RefusesAtOnce old a b (DropTree name) e new maps;
}
does_of GenerateId = record {
  kind = Telling;
  decides = λ old reply new maps. GeneratesId old.state reply new maps;
  refuses = λ old a b e new maps. RefusesAtOnce old a b GenerateId e new maps;
}
does_of (Import collections) = record {
  kind = InParts;
  decides = λ old reply new maps. (reply ≡ Done) × Imports old.state (contents_of collections.items) new maps;
  refuses = λ old a b e new maps. (may_refuse_as (must_refuse_of old []) (cause_of_import (contents_of collections.items)) e × (new ≡ old) × (maps ≡ []))
      ⊎ ((stop : Stop) × StopsAtPart old a b (contents_of collections.items) stop e new maps);
}
does_of (Watch tree prefix) = record {
  kind = Listening;
  decides = λ old reply new maps. (number : ℕ) × (reply ≡ told.Subscriber number) × Watches old.state tree prefix number new × (maps ≡ []);
  refuses = λ old a b e new maps. RefusesAtOnce old a b (Watch tree prefix) e new maps;
}
does_of (Next subscriber) = record {
  kind = Listening;
  decides = λ old reply new maps. (next : Option event.Next) × (reply ≡ told.Next next) × TakesNext old.state subscriber next new × (maps ≡ []);
  refuses = λ old a b e new maps. ⊥;
}
does_of (Unsubscribe subscriber) = record {
  kind = Listening;
  decides = λ old reply new maps. (reply ≡ Done) × (new ≡ record old.state { queues = put_at old.state.queues subscriber None }) × (maps ≡ []);
  refuses = λ old a b e new maps. ⊥;
}

abbrev pub kind_of : Whole → Kind
kind_of whole = (does_of whole).kind

-- One step: what was done, how it came out, the state after it, and the maps that it added: those after each call that
-- it decided, in order. Nothing changes if no call has the slot. What no case names stays as it was, and no other case exists
abbrev pub transition_as : Configuration → Step → Outcome → Configuration → List Maps → Type 0
transition_as old (step.Begin tree call) (Begun slot) new maps = Begin old.state tree call slot new.state × (maps ≡ [])
transition_as old (step.Begin tree call) (Refused e) new maps = MayRefuse old.state old.store new.store (ToBegin tree call) e × (new.state ≡ old.state) × (maps ≡ [])
transition_as old (step.Step slot) NoSuchSlot new maps = ((old.state.slots slot ≡ None) × (new.state ≡ old.state)) × (maps ≡ [])
transition_as old (step.Step slot) Moved new maps = Move old.state slot new.state × (maps ≡ [])
transition_as old (step.Step slot) (Yielded key value) new maps = Yield old.state slot key value new.state × (maps ≡ [])
transition_as old (step.Step slot) (Decided reply) new maps = Decide old.state slot reply new.state × (maps ≡ maps_of new.state ∷ [])
transition_as old (step.Step slot) (Refused e) new maps = RefuseStep old.state old.store new.store slot e new.state × (maps ≡ [])
transition_as old (step.Abandon slot) NoSuchSlot new maps = ((old.state.slots slot ≡ None) × (new.state ≡ old.state)) × (maps ≡ [])
transition_as old (step.Abandon slot) Abandoned new maps = Abandon old.state slot new.state × (maps ≡ [])
transition_as old (step.Whole whole) (Decided reply) new maps = (does_of whole).decides old reply new.state maps
transition_as old (step.Whole whole) (Refused e) new maps = (does_of whole).refuses old.state old.store new.store e new.state maps
transition_as old s o new maps = ⊥

pub record Transition (old : Configuration) (s : Step) (o : Outcome) (new : Configuration) (maps : List Maps) : Type 0 where
  pub is : transition_as old s o new maps
