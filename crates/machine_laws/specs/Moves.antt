-- The calls in flight of a machine, and steps in a row by which they go on.
use Rattle.std.specs.Prelude.{◌≡◌, ℕ, zero, suc, ◌≤◌, Bool, false, nat_eq, List, [], ◌∷◌, ◌++◌, Option, Some, None, if◌then◌else◌}
use Rattle.sled_nodes.specs.Order.{Key}
use Rattle.sled_store.specs.State.{nodes_of}
use Rattle.sled_store.specs.Store.{Store, now}
use Rattle.sled_model.specs.Maps.{Merge}
use Rattle.sled_model.specs.State.{IsOnKey}
use Rattle.sled_model.specs.declared.call.Call.{Call}
use Rattle.sled_model.specs.declared.outcome.Outcome.{Outcome}
use Rattle.sled_model.specs.declared.outcome.Outcome.TheVariants.{Moved}
use Rattle.sled_model.specs.declared.outcome.Step.{Step}
use Rattle.sled_model.specs.declared.outcome.Step.TheVariants as step
use Rattle.sled_model.specs.declared.tree.Tree.{Tree}
use Rattle.sled_tree.specs.Course.{course_of}
use Rattle.sled_tree.specs.declared.flight.InFlight.{InFlight}
use Rattle.tree_progress.specs.Steps.{HasHalves}
use Rattle.move_laws.specs.Meant.{Flight, flight, moves_bound}
use Rattle.sled.specs.Sound.{IsDb}
use Rattle.sled.specs.Values.{numbers_of, snapshot_of_db}
use Rattle.machine_alone.specs.Finish.{RunsToEnd, Completes}
use Rattle.machine_alone.specs.Sound.{IsMachine}
use Rattle.machine_alone.specs.Step.{MachineStepContract}
use Rattle.machine_alone.specs.Values.{MachineValue, kept_at}

-- whether the tree of a call is there: it has the number that the call has for it
abbrev pub has_number : Option ℕ → ℕ → Bool
has_number None number = false
has_number (Some n) number = nat_eq n number

abbrev pub is_live : (Key → Option ℕ) → InFlight → Bool
is_live numbers f = has_number (numbers f.job.tree.name) f.job.tree.number

-- the flight of the call in a slot; there is none if the slot has no call, or one whose tree was dropped
abbrev pub flights_in : (Key → Option ℕ) → Option InFlight → List Flight
flights_in numbers None = []
flights_in numbers (Some f) = if is_live numbers f then flight (course_of f) f.stage ∷ [] else []

-- .. and those in the slots up to this one
abbrev pub flights_up_to : (Key → Option ℕ) → (ℕ → Option InFlight) → ℕ → List Flight
flights_up_to numbers kept zero = flights_in numbers (kept 0)
flights_up_to numbers kept (suc n) = flights_in numbers (kept (suc n)) ++ flights_up_to numbers kept n

-- the calls in flight of a machine, scans among them
abbrev pub flights_of : {P M : Type 0} → MachineValue P M → List Flight
flights_of m = flights_up_to (numbers_of m.db.trees) (kept_at m.flights) m.slots_given

-- a machine between two calls: its database is sound, and what its calls in flight know is true
pub record IsSound {P M : Type 0} (store : P → Store) (m : MachineValue P M) : Type 0 where
  pub db : IsDb store m.db
  pub calls : IsMachine (snapshot_of_db store m.db) m.flights m.slots_given

-- A machine that began with no call in flight. It made steps, of whichever kind; and all steps of a call to its end, of one in flight or of
-- one that began. And it made calls that are no steps, as a transaction, after which no call is in flight that was not before
pub data IsReached {P M : Type 0} (store : P → Store) (flush_number : P → ℕ) (meant : M → Merge) : MachineValue P M → Type 0 where
  BeginsEmpty : {m : MachineValue P M} → IsSound store m → ((slot : ℕ) → kept_at m.flights slot ≡ None) → IsReached store flush_number meant m
  Steps : {a b : MachineValue P M} {s : Step} {o : Outcome} → IsReached store flush_number meant a → MachineStepContract store flush_number meant a s o b → IsSound store b → IsReached store flush_number meant b
  Finishes : {a b : MachineValue P M} {slot : ℕ} {o : Outcome} → IsReached store flush_number meant a → RunsToEnd store flush_number meant a slot o b → IsSound store b → IsReached store flush_number meant b
  CompletesOne : {a b : MachineValue P M} {tree : Tree} {call : Call} {o : Outcome} → IsReached store flush_number meant a → Completes store flush_number meant a tree call o b → IsSound store b → IsReached store flush_number meant b
  Calls : {a b : MachineValue P M} → IsReached store flush_number meant a → ((slot : ℕ) (f : InFlight) → kept_at b.flights slot ≡ Some f → kept_at a.flights slot ≡ Some f) → IsSound store b → IsReached store flush_number meant b

-- Of each call in flight of such a machine a split that it has begun has the halves that a split makes
abbrev pub MachineHalvesLaw : {P M : Type 0} → (P → Store) → (P → ℕ) → (M → Merge) → Type 0
MachineHalvesLaw {P} {M} store flush_number meant = (m : MachineValue P M) → IsReached store flush_number meant m → (slot : ℕ) (f : InFlight) → kept_at m.flights slot ≡ Some f → HasHalves (nodes_of (now (store m.db.pages))) f.stage

-- So many steps in a row, of whichever slot each, that all come out as `Moved`
pub data MovesInARow {P M : Type 0} (store : P → Store) (flush_number : P → ℕ) (meant : M → Merge) (first : MachineValue P M) : ℕ → MachineValue P M → Type 0 where
  Begins : MovesInARow store flush_number meant first 0 first
  Moves : {n slot : ℕ} {a b : MachineValue P M} → MovesInARow store flush_number meant first n a → MachineStepContract store flush_number meant a (step.Step slot) Moved b → IsSound store b → MovesInARow store flush_number meant first (suc n) b

-- Of such a machine no more steps come out as `Moved` in a row than follows from the pages, whichever slots they are of
abbrev pub MovesLaw : {P M : Type 0} → (P → Store) → (P → ℕ) → (M → Merge) → Type 0
MovesLaw {P} {M} store flush_number meant = (first : MachineValue P M) → IsReached store flush_number meant first
    → (n : ℕ) (last : MachineValue P M) → MovesInARow store flush_number meant first n last → n ≤ moves_bound (now (store first.db.pages)) (flights_of first)

-- However the calls on keys in flight of a machine are stepped, they end: a step of one of them is followed by such a step at most so
-- often until none is made any more
pub data IsEnding {P M : Type 0} (store : P → Store) (flush_number : P → ℕ) (meant : M → Merge) : MachineValue P M → Type 0 where
  Ends : {m : MachineValue P M} → ((slot : ℕ) (f : InFlight) (o : Outcome) (next : MachineValue P M) → kept_at m.flights slot ≡ Some f → IsOnKey f.job.call
      → MachineStepContract store flush_number meant m (step.Step slot) o next → IsSound store next → IsEnding store flush_number meant next) → IsEnding store flush_number meant m

-- So it is of each machine that began with no call in flight: no list of steps of its calls on keys goes on for ever. So if each step is of
-- a call on a key that is in flight, none is left in the end
abbrev pub EndsLaw : {P M : Type 0} → (P → Store) → (P → ℕ) → (M → Merge) → Type 0
EndsLaw {P} {M} store flush_number meant = (m : MachineValue P M) → IsReached store flush_number meant m → IsEnding store flush_number meant m
