-- What a subscriber hears over a list of calls of one owner.
use mathlib.Core.Logic.{inl, inr}
use Rattle.std.specs.Prelude.{◌≡◌, ◌⊎◌, ℕ, nat_eq, Bool, true, false, List, [], ◌∷◌, ◌++◌, Some, None, if◌then◌else◌}
use Rattle.std.specs.Option.{option_to_list}
use Rattle.std.specs.Str.{bytes_eq}
use Rattle.sled_nodes.specs.Order.{Key}
use Rattle.sled_nodes.specs.declared.error.Error.{Error}
use Rattle.sled_batch.specs.Batch.{Writes}
use Rattle.sled_store.specs.Store.{Store}
use Rattle.sled_model.specs.Backlog.{no_backlog}
use Rattle.sled_model.specs.Collections.{Content}
use Rattle.sled_model.specs.Groups.{writes_of, events_of_writes}
use Rattle.sled_model.specs.Maps.{Map, Maps, Merge}
use Rattle.sled_model.specs.Queues.{backlog_in, waiting_in}
use Rattle.sled_model.specs.State.{Queue}
use Rattle.sled_model.specs.declared.event.Event.{Event}
use Rattle.sled_model.specs.declared.event.Next.{Next}
use Rattle.sled_model.specs.declared.tree.Tree.{Tree}
use Rattle.sled_model.specs.declared.outcome.Step.TheVariants as step
use Rattle.sled_model.specs.declared.outcome.Outcome.TheVariants as outcome
use Rattle.sled_queues.specs.Copies.{after_events, events_told, TellsEvents}
use Rattle.sled_queues.specs.Events.{Turn, Watches, Takes, Ends, after_turns, brought}
use Rattle.sled_queues.specs.Hears as hearing
use Rattle.sled_queues.specs.Turns.{turns_of_call, turns_of_events, turns_of_parts, turns_of_refusal, turns_of_whole, told_at}
use Rattle.sled.specs.Imports.{ImportStops}
use Rattle.sled.specs.Sound.{IsDb}
use Rattle.sled.specs.Values.{DbValue, db_state, configuration_of}
use Rattle.sled.specs.Watch.{WatchesDb}
use Rattle.machine_alone.specs.Hears.{queues_at, turns_of_step, IsCopyOfTree}
use Rattle.machine_alone.specs.Values.{MachineValue}
use Rattle.machine_shared.specs.Made.{MadeValue, WholeMade}
use Rattle.machine_shared.specs.Wholes as value
use Rattle.call_laws.specs.Calls.{DbCall, DidPoint, DidWhole, WholeStopped, DidGroup, Imported, ImportStopped, Watched, ToldNext, Unsubscribed, MachineCall, Stepped, Did, Stopped, Called, MakesCalls, NoCall, OneCall}

-- of what was made nothing drops the subscriber
abbrev pub gives_up : ℕ → MadeValue → Bool
gives_up n (WholeMade (value.Unsubscribe subscriber) reply) = nat_eq subscriber n
gives_up n made = false

abbrev pub IsKept : ℕ → List MadeValue → Type 0
IsKept n [] = Unit {0}
IsKept n (m ∷ ms) = (gives_up n m ≡ false) × IsKept n ms

-- .. and nothing drops the tree of this name
abbrev pub drops : Key → MadeValue → Bool
drops name (WholeMade (value.DropTree dropped) reply) = bytes_eq name dropped
drops name made = false

abbrev pub KeepsTree : Key → List MadeValue → Type 0
KeepsTree name [] = Unit {0}
KeepsTree name (m ∷ ms) = (drops name m ≡ false) × KeepsTree name ms

module _ {P M : Type 0} (store : P → Store) (flush_number : P → ℕ) (meant : M → Merge) where
  -- a group brings the events of its writes, in their order
  abbrev pub turns_of_group : DbValue P M → List (Tree × Writes) → List Turn
  turns_of_group old batches = turns_of_events (events_of_writes (writes_of batches) (db_state store meant old))

  -- an import that stopped at a part brings what the parts before it do
  abbrev pub turns_before : {A : Type 0} {old new : DbValue P M} {all : List Content} {e : Error} {maps : List Maps} → A ⊎ ImportStops store meant old all e new maps → List Turn
  turns_before (inl at_once) = []
  turns_before (inr stops) = turns_of_parts (stops.state (λ n. None) 0).does

  -- What a call of a database does to the queues: what it was decided to do on the maps then. All other calls do nothing to them
  abbrev pub turns_of_db : {old new : DbValue P M} {made : List MadeValue} → DbCall store flush_number meant old made new → List Turn
  turns_of_db (DidPoint {call = call} d) = turns_of_call d.decides.named call
  turns_of_db (DidWhole {old = old} {new = new} {whole = whole} {reply = reply} off d) = turns_of_whole (configuration_of store meant old (λ n. None) 0 0) whole reply (db_state store meant new) d.maps (d.decides (λ n. None) 0 0)
  turns_of_db (WholeStopped {old = old} {new = new} {whole = whole} {e = e} d c) = turns_of_refusal (db_state store meant old) (store old.pages) (store new.pages) whole e (db_state store meant new) d.maps (d.refuses (λ n. None) 0)
  turns_of_db (DidGroup {old = old} {batches = batches} d) = turns_of_group old batches
  turns_of_db (Imported d) = turns_of_parts (d.decides (λ n. None) 0).does
  turns_of_db (ImportStopped d) = turns_before d.is.refuses
  turns_of_db (Watched {tree = tree} {prefix = prefix} {number = number} d) = Watches number tree.number prefix ∷ []
  turns_of_db (ToldNext {subscriber = subscriber} d) = Takes subscriber ∷ []
  turns_of_db (Unsubscribed {subscriber = subscriber} d) = Ends subscriber ∷ []
  turns_of_db other = []

  -- .. and one of a machine
  abbrev pub turns_of_machine : {a b : MachineValue P M} {made : List MadeValue} → MachineCall store flush_number meant a made b → List Turn
  turns_of_machine (Stepped {a = a} {b = b} {s = s} {o = o} off one) = turns_of_step store flush_number meant a s o b one
  turns_of_machine (Did {a = a} {b = b} {whole = whole} {reply = reply} one) = turns_of_step store flush_number meant a (step.Whole whole) (outcome.Decided reply) b one
  turns_of_machine (Stopped {a = a} {b = b} {whole = whole} {e = e} one counts) = turns_of_step store flush_number meant a (step.Whole whole) (outcome.Refused e) b one
  turns_of_machine (Called call) = turns_of_db call

  -- what a call returns to a subscriber: its `Next` alone does
  abbrev pub told_by_db : ℕ → {old new : DbValue P M} {made : List MadeValue} → DbCall store flush_number meant old made new → List Next
  told_by_db n (DidWhole {whole = whole} {reply = reply} off d) = told_at n (step.Whole whole) (outcome.Decided reply)
  told_by_db n (ToldNext {subscriber = subscriber} {next = next} d) = if nat_eq subscriber n then option_to_list next else []
  told_by_db n other = []

  abbrev pub told_by : ℕ → {a b : MachineValue P M} {made : List MadeValue} → MachineCall store flush_number meant a made b → List Next
  told_by n (Did {whole = whole} {reply = reply} one) = told_at n (step.Whole whole) (outcome.Decided reply)
  told_by n (Called call) = told_by_db n call
  told_by n other = []

  -- what calls do to the queues, and what they return to a subscriber, in order
  abbrev pub turns_of_calls : {a b : MachineValue P M} {made : List MadeValue} → MakesCalls store flush_number meant a made b → List Turn
  turns_of_calls NoCall = []
  turns_of_calls (OneCall one more) = turns_of_machine one ++ turns_of_calls more

  abbrev pub told_to : ℕ → {a b : MachineValue P M} {made : List MadeValue} → MakesCalls store flush_number meant a made b → List Next
  told_to n NoCall = []
  told_to n (OneCall one more) = told_by n one ++ told_to n more

  -- calls do just this to the queues, and return nothing to a subscriber
  pub record BringsAlone {a b : MachineValue P M} {made : List MadeValue} (calls : MakesCalls store flush_number meant a made b) (turns : List Turn) : Type 0 where
    pub turns_are : turns_of_calls calls ≡ turns
    pub told : (n : ℕ) → told_to n calls ≡ []

  -- calls do to the queues, and return, what some calls do and then others
  pub record BringsBoth {a m b c d : MachineValue P M} {made more all : List MadeValue} (first : MakesCalls store flush_number meant a made m) (second : MakesCalls store flush_number meant b more c) (calls : MakesCalls store flush_number meant a all d) : Type 0 where
    pub turns_are : turns_of_calls calls ≡ turns_of_calls first ++ turns_of_calls second
    pub told : (n : ℕ) → told_to n calls ≡ told_to n first ++ told_to n second

  -- What subscribers hear over every list of calls
  pub record HearsLaw : Type 0 where
    -- a subscriber that is added watches its prefix of its tree, and nothing waits for it yet
    pub begins : (m : MachineValue P M) (new : DbValue P M) (tree : Tree) (prefix : Key) (n : ℕ) → WatchesDb store meant m.db tree prefix n new
        → queues_at (record m { db = new }) n ≡ Some (record { tree = tree.number; prefix = prefix; backlog = no_backlog })
    -- calls and then more calls are calls, of which both are heard
    pub joined : (a m b : MachineValue P M) (made more : List MadeValue) (first : MakesCalls store flush_number meant a made m) (second : MakesCalls store flush_number meant m more b)
        → (calls : MakesCalls store flush_number meant a (made ++ more) b) × BringsBoth first second calls
    -- the queues after the calls are those that their turns make of them
    pub queues : (a b : MachineValue P M) (made : List MadeValue) (calls : MakesCalls store flush_number meant a made b) → queues_at b ≡ after_turns (turns_of_calls calls) (queues_at a)
    -- Two lists are equal while the count was never at the greatest u64. The one is what its calls returned, with n events at each
    -- `Missed(n)`, then as many as its count, and then those that wait for it. The other is what it had at first, and then the events under
    -- its prefix of its tree that the decided calls brought, each once and in the order of the calls
    pub hears : (a b : MachineValue P M) (made : List MadeValue) (calls : MakesCalls store flush_number meant a made b)
        → (n : ℕ) (q : Queue) → queues_at a n ≡ Some q → IsKept n made
        → hearing.CountsAll n (turns_of_calls calls) (queues_at a) → (all : List Event) → hearing.Holds q.backlog all
        → hearing.Hears (told_to n calls) (all ++ brought q (turns_of_calls calls)) (backlog_in (queues_at b n))
    -- while the database is open and it missed none, a copy that it changes by each event that it gets is, once it is changed by those that
    -- wait too, a copy of its tree's map
    pub follows : (a b : MachineValue P M) (made : List MadeValue) (calls : MakesCalls store flush_number meant a made b) → IsDb store a.db → (db_state store meant b.db).is_open ≡ true
        → (n : ℕ) (q : Queue) → queues_at a n ≡ Some q → IsKept n made → (name : Key) → KeepsTree name made
        → TellsEvents (told_to n calls) → (backlog_in (queues_at b n)).missed ≡ 0
        → (copy : Map) → IsCopyOfTree store meant a name q.tree q.prefix (after_events q.backlog.events copy)
        → IsCopyOfTree store meant b name q.tree q.prefix (after_events (waiting_in (queues_at b n)) (after_events (events_told (told_to n calls)) copy))
