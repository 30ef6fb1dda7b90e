-- What one owner makes of a database, and of the calls in flight on it, call after call.
use Rattle.std.specs.Prelude.{◌≡◌, ◌≢◌, ℕ, Bool, List, [], ◌∷◌, ◌++◌, map, Option, Some, None}
use Rattle.sled_nodes.specs.Order.{Key}
use Rattle.sled_nodes.specs.declared.error.Error.{Error}
use Rattle.sled_batch.specs.Batch.{Writes}
use Rattle.sled_store.specs.Store.{Store, now}
use Rattle.sled_store.specs.Crash.{crash_states}
use Rattle.sled_model.specs.Collections.{Content}
use Rattle.sled_model.specs.Maps.{Maps, Merge}
use Rattle.sled_model.specs.State.{CallInFlight}
use Rattle.sled_model.specs.declared.call.Call.{Call}
use Rattle.sled_model.specs.declared.call.Whole.{Whole}
use Rattle.sled_model.specs.declared.call.Whole.TheVariants.{Flush}
use Rattle.sled_model.specs.declared.event.Next.{Next}
use Rattle.sled_model.specs.declared.outcome.Step.{Step}
use Rattle.sled_model.specs.declared.outcome.Step.TheVariants as step
use Rattle.sled_model.specs.declared.outcome.Outcome.{Outcome}
use Rattle.sled_model.specs.declared.outcome.Outcome.TheVariants as outcome
use Rattle.sled_model.specs.declared.tree.Tree.{Tree}
use Rattle.sled_model.specs.declared.reply.Reply.{Reply}
use Rattle.sled_model.specs.declared.reply.Reply.TheVariants as told
use Rattle.tree_laws.specs.Contents.{trees_of}
use Rattle.sled.specs.Direct.{Conducts, PointDecided, PointRefused, WholeDecided, WholeRefused}
use Rattle.sled.specs.Drops.{DropsTree, RefusesDrop}
use Rattle.sled.specs.Flush.{FlushesDb, RefusesFlush}
use Rattle.sled.specs.Groups.{GroupDecided, GroupRefused}
use Rattle.sled.specs.Ids.{GivesId, RefusesId}
use Rattle.sled.specs.Imports.{ImportDecided}
use Rattle.sled.specs.Operators.{OperatorSet, OperatorNotSet}
use Rattle.sled.specs.Parts.{ImportRefusedAfter}
use Rattle.sled.specs.Transactions.{TakesIds}
use Rattle.sled.specs.Values.{DbValue, db_state}
use Rattle.sled.specs.Watch.{WatchesDb, RefusesWatch, TakesFromDb, EndsSubscriber}
use Rattle.machine_alone.specs.Ids.{RiseBetween}
use Rattle.machine_alone.specs.Kept.{CountsParts}
use Rattle.machine_alone.specs.Step.{MachineStep}
use Rattle.machine_alone.specs.Values.{MachineValue, slots_of}
use Rattle.machine_shared.specs.History.{IsLegal, maps_from, ids_made}
use Rattle.machine_shared.specs.Made.{MadeValue, PointMade, WholeMade, EntryValue}
use Rattle.machine_shared.specs.Notes.{entries_of, noted_in}
use Rattle.machine_shared.specs.Sound.{IsOpen, maps_now, CrashLeaves}
use Rattle.machine_shared.specs.Wholes as value
use Rattle.machine_shared.specs.WholeNotes.{noted_whole, noted_with}

-- the machine over a database on which no call is in flight
abbrev pub alone : {P M : Type 0} → DbValue P M → MachineValue P M
alone d = record { db = d; flights = []; slots_given = 0 }

-- what a step of a slot made: the call on a key that it decided, with its reply, and else nothing
abbrev pub made_by_step : Step → Outcome → (ℕ → Option CallInFlight) → List MadeValue
made_by_step (step.Step slot) o slots = noted_in o (slots slot)
made_by_step s o slots = []

-- a step that begins a call, goes on with one or abandons one
abbrev pub IsOfSlot : Step → Type 0
IsOfSlot (step.Whole whole) = ⊥
IsOfSlot s = Unit {0}

module _ {P M : Type 0} (store : P → Store) (flush_number : P → ℕ) (meant : M → Merge) where
  -- One call of a database by its owner, as its contract states it, and what it made. What is refused made nothing, but for the parts that
  -- a clear and an import did. A read changes nothing, and is none of these
  pub data DbCall : DbValue P M → List MadeValue → DbValue P M → Type 0 where
    -- a call on a key; and a fetch, which makes a swap
    DidPoint : {old new : DbValue P M} {tree : Tree} {call : Call} {reply : Reply} → PointDecided store meant old tree call reply new → DbCall old (PointMade tree call reply ∷ []) new
    PointStopped : {old new : DbValue P M} {tree : Tree} {call : Call} {e : Error} → PointRefused store meant old tree call e new → DbCall old [] new
    FetchStopped : {old new : DbValue P M} {e : Error} → db_state store meant new ≡ db_state store meant old → Conducts store [] (Some e) old new → DbCall old [] new
    -- a pop, a clear, and the opening of a tree
    DidWhole : {old new : DbValue P M} {whole : Whole} {reply : Reply} → whole ≢ Flush → WholeDecided store meant old whole reply new → DbCall old (noted_whole whole (outcome.Decided reply) 0) new
    WholeStopped : {old new : DbValue P M} {whole : Whole} {e : Error} {number : ℕ} → WholeRefused store meant old whole e new → CountsParts store meant old whole (outcome.Refused e) number new → DbCall old (noted_whole whole (outcome.Refused e) number) new
    Flushed : {old new : DbValue P M} {number : ℕ} → FlushesDb store flush_number meant old number new → DbCall old (WholeMade value.Flush (told.Number number) ∷ []) new
    FlushStopped : {old new : DbValue P M} {e : Error} → RefusesFlush store meant old new e → DbCall old [] new
    -- a batch, and the batches of a transaction
    DidGroup : {old new : DbValue P M} {batches : List (Tree × Writes)} → GroupDecided store meant old batches new → DbCall old (WholeMade (value.Group batches) told.Done ∷ []) new
    GroupStopped : {old new : DbValue P M} {batches : List (Tree × Writes)} {e : Error} → GroupRefused store meant old batches e new → DbCall old [] new
    Imported : {old new : DbValue P M} {all : List Content} → ImportDecided store meant old all new → DbCall old (WholeMade (value.Import all) told.Done ∷ []) new
    ImportStopped : {old new : DbValue P M} {all : List Content} {e : Error} {number : ℕ} → ImportRefusedAfter store meant old all number e new → DbCall old (noted_with (value.Import all) None number) new
    Dropped : {old new : DbValue P M} {name : Key} {dropped : Bool} → DropsTree store meant old name dropped new → DbCall old (WholeMade (value.DropTree name) (told.Flag dropped) ∷ []) new
    DropStopped : {old new : DbValue P M} {name : Key} {e : Error} → RefusesDrop store meant old name e new → DbCall old [] new
    -- an id, and what the run of a transaction's closure takes of them
    GaveId : {old new : DbValue P M} {id : ℕ} → GivesId store meant old id new → DbCall old (WholeMade value.GenerateId (told.Number id) ∷ []) new
    IdStopped : {old new : DbValue P M} {e : Error} → RefusesId store meant old e new → DbCall old [] new
    TookIds : {old new : DbValue P M} → TakesIds store meant old new → DbCall old [] new
    -- a merge operator of a tree, which changes no map
    SetOperator : {old new : DbValue P M} {tree : Tree} {merge : Merge} → OperatorSet store meant old tree merge new → DbCall old [] new
    OperatorStopped : {old new : DbValue P M} {tree : Tree} {e : Error} → OperatorNotSet store meant old tree e new → DbCall old [] new
    -- a subscriber; what it got is returned once, and here `Done` is in its place
    Watched : {old new : DbValue P M} {tree : Tree} {prefix : Key} {number : ℕ} → WatchesDb store meant old tree prefix number new → DbCall old (WholeMade (value.Watch tree prefix) (told.Subscriber number) ∷ []) new
    WatchStopped : {old new : DbValue P M} {tree : Tree} {prefix : Key} {e : Error} → RefusesWatch store meant old tree prefix e new → DbCall old [] new
    ToldNext : {old new : DbValue P M} {subscriber : ℕ} {next : Option Next} → TakesFromDb store meant old subscriber next new → DbCall old (WholeMade (value.Next subscriber) told.Done ∷ []) new
    Unsubscribed : {old new : DbValue P M} {subscriber : ℕ} → EndsSubscriber store meant old subscriber new → DbCall old (WholeMade (value.Unsubscribe subscriber) told.Done ∷ []) new

  -- One call of a machine by its owner: a step, a whole call, which may be refused after so many parts, or a call of its database
  pub data MachineCall : MachineValue P M → List MadeValue → MachineValue P M → Type 0 where
    Stepped : {a b : MachineValue P M} {s : Step} {o : Outcome} → IsOfSlot s → MachineStep store flush_number meant a s o b → MachineCall a (made_by_step s o (slots_of a.flights)) b
    Did : {a b : MachineValue P M} {whole : Whole} {reply : Reply} → MachineStep store flush_number meant a (step.Whole whole) (outcome.Decided reply) b → MachineCall a (noted_whole whole (outcome.Decided reply) 0) b
    Stopped : {a b : MachineValue P M} {whole : Whole} {e : Error} {number : ℕ} → MachineStep store flush_number meant a (step.Whole whole) (outcome.Refused e) b → CountsParts store meant a.db whole (outcome.Refused e) number b.db
        → MachineCall a (noted_whole whole (outcome.Refused e) number) b
    Called : {m : MachineValue P M} {new : DbValue P M} {made : List MadeValue} → DbCall m.db made new → MachineCall m made (record m { db = new })

  -- calls, one after the other, and all that they made
  pub data MakesCalls : MachineValue P M → List MadeValue → MachineValue P M → Type 0 where
    NoCall : {m : MachineValue P M} → MakesCalls m [] m
    OneCall : {a m b : MachineValue P M} {made more : List MadeValue} → MachineCall a made m → MakesCalls m more b → MakesCalls a (made ++ more) b

-- what an owner made, as a history with no other caller
abbrev pub owned : List MadeValue → List EntryValue
owned made = entries_of 0 made

-- What was made since the database had these collections, and a crash might have left these maps or those. While it is open the list is
-- legal: from the maps then each call replied and wrote what it does there, in the order of the list, and the maps now are those after the
-- last. A crash may leave what it might have left then, and the maps after each call and part since; from the last flush in the list on
-- those after it alone. The ids that were given rise
pub record IsRecord {P M : Type 0} (store : P → Store) (m : MachineValue P M) (opening : List Content) (earlier : List Maps) (made : List MadeValue) : Type 0 where
  pub legal : IsOpen store m → IsLegal (maps_from opening) (owned made) (maps_now store m)
  pub crashes : CrashLeaves store m opening (owned made)
  pub begins : crashes.earlier ≡ earlier
  pub ids : RiseBetween 0 (ids_made (owned made)) m.db.greatest_id

-- before the maps now a crash may leave these
abbrev pub LeavesBefore : Store → List Maps → Type 0
LeavesBefore s earlier = map trees_of (crash_states s) ≡ earlier ++ trees_of (now s) ∷ []
