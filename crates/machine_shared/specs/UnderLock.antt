-- What callers do under the lock.
use Rattle.std.specs.Prelude.{◌≡◌, ◌≢◌, ◌≤◌, ◌⊎◌, ℕ, List, [], ◌∷◌, ◌++◌, length, Some, None, Result, Ok, Err, IfErr, IfOk}
use Rattle.std.specs.Option.{option_map}
use Rattle.std.specs.Global.{Vec}
use Rattle.sled_store.specs.Store.{Store}
use Rattle.sled_nodes.specs.declared.error.Error.{Error}
use Rattle.sled_nodes.specs.declared.error.Error.TheVariants.{Closed, NoMemory}
use Rattle.sled_batch.specs.Batch.{Writes}
use Rattle.sled_model.specs.Maps.{Merge}
use Rattle.sled_model.specs.Refusal.{must_refuse_of}
use Rattle.sled_model.specs.declared.call.Call.{Call}
use Rattle.sled_model.specs.declared.call.Whole.{Whole}
use Rattle.sled_model.specs.declared.call.Whole.TheVariants.{Group}
use Rattle.sled_model.specs.declared.outcome.Outcome.{Outcome}
use Rattle.sled_model.specs.declared.outcome.Outcome.TheVariants.{Begun, Refused, NoSuchSlot}
use Rattle.sled_model.specs.declared.outcome.Step.TheVariants as step
use Rattle.sled_model.specs.declared.tree.Tree.{Tree}
use Rattle.sled.specs.Reads.{GivesUpGet, RefusesReading}
use Rattle.sled.specs.Sound.{IsDb}
use Rattle.sled.specs.Values.{db_state, snapshot_of_db}
use Rattle.machine_alone.specs.Sound.{IsMachine}
use Rattle.machine_alone.specs.Step.{MachineStepContract}
use Rattle.machine_alone.specs.Values.{MachineValue, job_of_call, slots_of}
use Rattle.machine_shared.specs.Made.{MadeValue, ReadMade}
use Rattle.machine_shared.specs.Notes.{entries_of, noted_in, noted_of}
use Rattle.machine_shared.specs.Reads.{Asked, OfAll, OfNames, OfTree, pages_asked, reads_as, refuses_look_as, refuses_names_as, trees_asked}
use Rattle.machine_shared.specs.Scans.{AreInOrder, NotesScan, begun_of, noted_at, scanned_of}
use Rattle.machine_shared.specs.Sound.{HasCrashMaps, HasHistory, HasLegalHistory, HasRisingIds, HasScans, maps_now}
use Rattle.machine_shared.specs.Steps.{SlotStep}
use Rattle.machine_shared.specs.Values.{CallerValue, StateValue}
use Rattle.machine_shared.specs.WholeNotes.{NotesWhole}
use Rattle.machine_shared.specs.declared.read.Question.{Question}
use Rattle.machine_shared.specs.declared.read.Question.TheVariants.{Get, ContainsKey}
use Rattle.machine_shared.specs.declared.read.Read.{Read}
use Rattle.machine_shared.specs.declared.scans.ScanNote.{ScanNote}

-- What is so of each state under the lock: its pages are well formed, and what its calls in flight know of them is true. Its history is
-- legal, and its ids rise; what a crash may leave, and what scans gave, goes along with it
pub record IsHeld {P M : Type 0} (store : P → Store) (s : StateValue P M) : Type 0 where
  pub pages : IsDb store s.machine.db
  pub calls : IsMachine (snapshot_of_db store s.machine.db) s.machine.flights s.machine.slots_given
  pub legal : HasLegalHistory store s
  pub leads : HasHistory s
  pub crashes : HasCrashMaps store s
  pub gave : HasScans store s
  pub order : AreInOrder 0 s.scans.notes (length s.history)
  pub ids : HasRisingIds s

-- this was done under the lock, from one state there to the next
pub record UnderLock {P M : Type 0} (store : P → Store) (does : StateValue P M → StateValue P M → Type 0) : Type 0 where
  pub old : StateValue P M
  pub new : StateValue P M
  pub before : IsHeld store old
  pub after : IsHeld store new
  pub is : does old new

-- this was done under the lock; or the database was taken out of that, as `closed` says, and nothing was done
pub data AsHeld {P M : Type 0} (store : P → Store) (closed : Type 0) (does : StateValue P M → StateValue P M → Type 0) : Type 0 where
  IsDone : UnderLock store does → AsHeld store closed does
  IsTakenOut : closed → AsHeld store closed does

-- what a caller made comes behind all others in the history, and in its own list
pub record AddsMade {P M : Type 0} (old : StateValue P M) (me : CallerValue) (noted : List MadeValue) (new : StateValue P M) (more : CallerValue) : Type 0 where
  pub history : new.history ≡ old.history ++ entries_of me.number noted
  pub list : more ≡ record { number = me.number; made = me.made ++ noted }
  pub opening : new.opening ≡ old.opening

-- a call that begins, or does not
abbrev pub begun_as : Result ℕ Error → Outcome
begun_as (Ok slot) = Begun slot
begun_as (Err e) = Refused e

-- .. and what is noted of it if it scans
abbrev pub scan_begun_as : ℕ → Tree → Call → Result ℕ Error → List ScanNote
scan_begun_as length tree call (Ok slot) = noted_at slot length (begun_of tree call)
scan_begun_as length tree call (Err e) = []

module _ {P M : Type 0} (store : P → Store) (flush_number : P → ℕ) (meant : M → Merge) where
  -- A step of a slot is noted as this caller's if it decides a call on a key. What it was of a scan is noted if such notes are kept
  pub record StepsSlot (slot : ℕ) (o : Outcome) (me more : CallerValue) (old new : StateValue P M) : Type 0 where
    pub step : SlotStep store flush_number meant old.machine slot o new.machine
    pub adds : AddsMade old me (noted_in o (slots_of old.machine.flights slot)) new more
    pub scans : NotesScan old.scans (noted_at slot (length old.history) (scanned_of o)) new.scans

  -- a call begins, or is refused; of a scan that is noted
  pub record BeginsCall (tree : Tree) (call : Call) (begun : Result ℕ Error) (old new : StateValue P M) : Type 0 where
    pub step : MachineStepContract store flush_number meant old.machine (step.Begin tree call) (begun_as begun) new.machine
    pub history : new.history ≡ old.history
    pub opening : new.opening ≡ old.opening
    pub scans : NotesScan old.scans (scan_begun_as (length old.history) tree call begun) new.scans

  -- the call in a slot is abandoned, and nothing is noted
  pub record AbandonsSlot (slot : ℕ) (o : Outcome) (old new : StateValue P M) : Type 0 where
    pub step : MachineStepContract store flush_number meant old.machine (step.Abandon slot) o new.machine
    pub same : new ≡ record old { machine = new.machine }

  -- a whole call is noted as this caller's, with its reply or the parts that it did
  pub record MakesWhole (whole : Whole) (o : Outcome) (me more : CallerValue) (old new : StateValue P M) : Type 0 where
    pub notes : NotesWhole store flush_number meant old.machine old.history me.number me.made whole o new.machine new.history more.made
    pub number : more.number ≡ me.number
    pub opening : new.opening ≡ old.opening
    pub scans : new.scans ≡ old.scans

  -- the step of a slot that ends this call on a key, which is noted as this caller's if it is decided
  pub record EndsCall (tree : Tree) (call : Call) (slot : ℕ) (o : Outcome) (me more : CallerValue) (old new : StateValue P M) : Type 0 where
    pub its : option_map job_of_call (slots_of old.machine.flights slot) ≡ Some (tree, call)
    pub step : SlotStep store flush_number meant old.machine slot o new.machine
    pub adds : AddsMade old me (noted_of o tree call) new more
    pub scans : new.scans ≡ old.scans

  -- each of these, under the lock
  abbrev pub StepsUnderLock : ℕ → Outcome → CallerValue → CallerValue → Type 0
  StepsUnderLock slot o me more = AsHeld store ((o ≡ Refused Closed) × (more ≡ me)) (StepsSlot slot o me more)

  abbrev pub BeginsUnderLock : Tree → Call → Result ℕ Error → Type 0
  BeginsUnderLock tree call begun = AsHeld store (begun ≡ Err Closed) (BeginsCall tree call begun)

  abbrev pub AbandonsUnderLock : ℕ → Outcome → Type 0
  AbandonsUnderLock slot o = AsHeld store (o ≡ Refused Closed) (AbandonsSlot slot o)

  abbrev pub WholesUnderLock : Whole → Outcome → CallerValue → CallerValue → Type 0
  WholesUnderLock whole o me more = AsHeld store ((o ≡ Refused Closed) × (more ≡ me)) (MakesWhole whole o me more)

  -- a whole call that is made of what a caller gives, for which there may be no memory; then nothing is done
  abbrev pub CallsUnderLock : Whole → Outcome → CallerValue → CallerValue → Type 0
  CallsUnderLock whole o me more = ((o ≡ Refused NoMemory) × (more ≡ me)) ⊎ WholesUnderLock whole o me more

  -- .. of a group of these batches
  abbrev pub GroupsUnderLock : List (Tree × Writes) → Outcome → CallerValue → CallerValue → Type 0
  GroupsUnderLock batches o me more = ((o ≡ Refused NoMemory) × (more ≡ me)) ⊎ ((group : Vec (Tree × Writes)) × (group.items ≡ batches) × WholesUnderLock (Group group) o me more)

-- the slot was given and has this call no more, and nothing is done
pub record LacksCall {P M : Type 0} (tree : Tree) (call : Call) (slot : ℕ) (old new : StateValue P M) : Type 0 where
  pub given : slot ≤ old.machine.slots_given
  pub gone : option_map job_of_call (slots_of old.machine.flights slot) ≢ Some (tree, call)
  pub same : new ≡ old

-- How a call on a key ends that is made step by step. A step of the slot in which it had begun ends it, under the lock; or it does not
-- begin. Or there was no memory for it, that slot had it no more the next time, or the database was taken out of its lock: then nothing is
-- noted
pub data EndsUnderLock {P M : Type 0} (store : P → Store) (flush_number : P → ℕ) (meant : M → Merge) (tree : Tree) (call : Call) (o : Outcome) (me more : CallerValue) : Type 0 where
  EndsBySteps : {slot : ℕ} → UnderLock store (BeginsCall store flush_number meant tree call (Ok slot)) → UnderLock store (EndsCall store flush_number meant tree call slot o me more) → EndsUnderLock store flush_number meant tree call o me more
  IsNotBegun : {e : Error} → BeginsUnderLock store flush_number meant tree call (Err e) → o ≡ Refused e → more ≡ me → EndsUnderLock store flush_number meant tree call o me more
  LacksMemory : o ≡ Refused NoMemory → more ≡ me → EndsUnderLock store flush_number meant tree call o me more
  LostSlot : {slot : ℕ} → UnderLock store (BeginsCall store flush_number meant tree call (Ok slot)) → UnderLock {P = P} {M = M} store (LacksCall tree call slot) → o ≡ NoSuchSlot → more ≡ me → EndsUnderLock store flush_number meant tree call o me more
  TakenOut : o ≡ Refused Closed → more ≡ me → EndsUnderLock store flush_number meant tree call o me more

-- what is noted of a read, if it is not refused
abbrev pub read_made : {A : Type 0} → (A → Read) → Result A Error → List MadeValue
read_made read_of (Ok answer) = ReadMade (read_of answer) ∷ []
read_made read_of (Err e) = []

module _ {P M : Type 0} (store : P → Store) (meant : M → Merge) where
  -- what was read of a machine as it is: no test refuses a read of these trees, and it says what the maps are
  pub record ReadsNow (m : MachineValue P M) (trees : List Tree) (read : Read) : Type 0 where
    pub tested : must_refuse_of (db_state store meant m.db) trees ≡ None
    pub tells : reads_as (maps_now store m) read

  -- over a clean path to its key a question about what is there gives up as a get does
  abbrev pub gives_up_as : MachineValue P M → Tree → Question → Error → Type 0
  gives_up_as m tree (Get key) e = GivesUpGet store meant m.db tree key e
  gives_up_as m tree (ContainsKey key) e = GivesUpGet store meant m.db tree key e
  gives_up_as m tree question e = Unit {0}

  abbrev pub refuses_asked_as : MachineValue P M → Asked → Error → Type 0
  refuses_asked_as m (OfTree tree question) e = RefusesReading store meant m.db tree (pages_asked question) e × gives_up_as m tree question e
  refuses_asked_as m OfNames e = refuses_names_as (must_refuse_of (db_state store meant m.db) []) e
  refuses_asked_as m OfAll e = refuses_look_as (store m.db.pages) (must_refuse_of (db_state store meant m.db) []) e

  -- What is asked is refused, as the same read of the database is: by the first test that fails; or if none fails for want of memory, for a
  -- page that is not readable, except of names, or, of one tree, for as many pages looked at as may be
  pub record RefusesNow (m : MachineValue P M) (asked : Asked) (e : Error) : Type 0 where
    pub is : refuses_asked_as m asked e

  -- what was asked is noted with its answer as this caller's, or it is refused; and nothing else changes
  pub record Looks {A : Type 0} (asked : Asked) (read_of : A → Read) (result : Result A Error) (me more : CallerValue) (old new : StateValue P M) : Type 0 where
    pub reads : IfOk result (λ answer. ReadsNow old.machine (trees_asked asked) (read_of answer))
    pub refused : IfErr result (RefusesNow old.machine asked)
    pub machine : new.machine ≡ old.machine
    pub adds : AddsMade old me (read_made read_of result) new more
    pub scans : new.scans ≡ old.scans

  -- .. under the lock
  abbrev pub ReadsUnderLock : {A : Type 0} → Asked → (A → Read) → Result A Error → CallerValue → CallerValue → Type 0
  ReadsUnderLock asked read_of result me more = AsHeld store ((result ≡ Err Closed) × (more ≡ me)) (Looks asked read_of result me more)

  -- a read of what a caller gives and the call copies, for which there may be no memory; then nothing is done
  abbrev pub AsksUnderLock : {A : Type 0} → Asked → (A → Read) → Result A Error → CallerValue → CallerValue → Type 0
  AsksUnderLock asked read_of result me more = ((result ≡ Err NoMemory) × (more ≡ me)) ⊎ ReadsUnderLock asked read_of result me more
