-- How a transaction by a caller comes out, as one step under the lock.
use Rattle.std.specs.Prelude.{◌≡◌, ℕ, Bool, true, false, List, [], ◌∷◌, Some, Result, Ok, Err, slice_get}
use Rattle.std.specs.Global.{Vec}
use Rattle.sled_nodes.specs.declared.error.Error.{Error}
use Rattle.sled_nodes.specs.declared.error.Error.TheVariants.{Closed, NoMemory}
use Rattle.sled_batch.specs.Batch.{Writes}
use Rattle.sled_store.specs.Store.{Store}
use Rattle.sled_model.specs.Maps.{Merge}
use Rattle.sled_model.specs.State.{maps_of}
use Rattle.sled_model.specs.declared.call.Whole.TheVariants.{Flush, Group}
use Rattle.sled_model.specs.declared.outcome.Outcome.TheVariants.{Decided, Refused}
use Rattle.sled_model.specs.declared.outcome.Step.TheVariants as step
use Rattle.sled_model.specs.declared.reply.Reply.{Reply}
use Rattle.sled_model.specs.declared.tree.Tree.{Tree}
use Rattle.tree_reads.specs.Walk.{once}
use Rattle.tree_transactions.specs.declared.attempts.Commit.{Commit}
use Rattle.tree_transactions.specs.declared.errors.TransactionError.{TransactionError}
use Rattle.tree_transactions.specs.declared.errors.TransactionError.TheVariants.{Abort, Storage}
use Rattle.sled.specs.Reads.{RefusesReading}
use Rattle.sled.specs.Values.{DbValue, db_state}
use Rattle.machine_alone.specs.Step.{MachineStepContract}
use Rattle.machine_shared.specs.Transactions.{transaction_made}
use Rattle.machine_shared.specs.UnderLock.{AddsMade, AsHeld, MakesWhole}
use Rattle.machine_shared.specs.Values.{CallerValue, StateValue}

-- nothing was done
pub record DoesNothing {P M : Type 0} (me more : CallerValue) (old new : StateValue P M) : Type 0 where
  pub caller : more ≡ me
  pub state : new ≡ old

-- Why a group cannot be noted: there is no memory for that, or what is at a key of one of its trees cannot be read
pub data CannotNote {P M : Type 0} (store : P → Store) (meant : M → Merge) (d : DbValue P M) (batches : List (Tree × Writes)) (e : Error) : Type 0 where
  LacksMemory : e ≡ NoMemory → CannotNote store meant d batches e
  CannotRead : (position : ℕ) (batch : Tree × Writes) → slice_get batches position ≡ Some batch → RefusesReading store meant d batch.0 once e → CannotNote store meant d batches e

-- the state with this database
abbrev pub with_db : {P M : Type 0} → StateValue P M → DbValue P M → StateValue P M
with_db s d = record s { machine = record (s.machine) { db = d } }

module _ {P M : Type 0} (store : P → Store) (flush_number : P → ℕ) (meant : M → Merge) where
  -- these batches are made as one group, which is noted as this caller's, with what the maps had at each of its keys before
  pub record MakesGroup (batches : List (Tree × Writes)) (me more : CallerValue) (old new : StateValue P M) : Type 0 where
    pub group : Vec (Tree × Writes)
    pub holds : group.items ≡ batches
    pub reply : Reply
    pub step : MachineStepContract store flush_number meant old.machine (step.Whole (Group group)) (Decided reply) new.machine
    pub adds : AddsMade old me (transaction_made (maps_of (db_state store meant old.machine.db)) batches ∷ []) new more
    pub scans : new.scans ≡ old.scans

  -- .. or they are refused, as a group of a machine is, and nothing is noted
  pub record RefusesGroup (batches : List (Tree × Writes)) (e : Error) (old new : StateValue P M) : Type 0 where
    pub group : Vec (Tree × Writes)
    pub holds : group.items ≡ batches
    pub step : MachineStepContract store flush_number meant old.machine (step.Whole (Group group)) (Refused e) new.machine
    pub same : new ≡ record old { machine = new.machine }

  -- all is made durable, if that was asked for, and noted as this caller's
  abbrev pub flushes_as : Bool → CallerValue → CallerValue → StateValue P M → StateValue P M → Type 0
  flushes_as false me more old new = DoesNothing me more old new
  flushes_as true me more old new = (reply : Reply) × MakesWhole store flush_number meant Flush (Decided reply) me more old new

  -- a group is made, and after it the flush that was asked for
  pub record CommitsGroup (batches : List (Tree × Writes)) (flushes : Bool) (me more : CallerValue) (old new : StateValue P M) : Type 0 where
    pub between : CallerValue
    pub made : StateValue P M
    pub group : MakesGroup batches me between old made
    pub flush : flushes_as flushes between more made new

  -- .. if there are any trees
  abbrev pub commits_as : Bool → List (Tree × Writes) → Bool → CallerValue → CallerValue → StateValue P M → StateValue P M → Type 0
  commits_as false batches flushes me more old new = DoesNothing me more old new
  commits_as true batches flushes me more old new = CommitsGroup batches flushes me more old new

  -- Why that is refused. If only the flush is, the group is made, and stays
  pub data RefusesCommit (batches : List (Tree × Writes)) (flushes : Bool) (e : Error) (me more : CallerValue) (old new : StateValue P M) : Type 0 where
    ByNoting : CannotNote store meant old.machine.db batches e → DoesNothing me more old new → RefusesCommit batches flushes e me more old new
    ByGroup : RefusesGroup batches e old new → more ≡ me → RefusesCommit batches flushes e me more old new
    ByFlush : {between : CallerValue} {made : StateValue P M} → MakesGroup batches me between old made → flushes ≡ true → MakesWhole store flush_number meant Flush (Refused e) between more made new
        → RefusesCommit batches flushes e me more old new

-- What a transaction comes to follows from the tests before it, from the end to which its closure was run over a database, from the batches
-- of what it wrote, and from whether there are any trees. Without trees nothing is made
module _ {P M A E W : Type 0} (store : P → Store) (flush_number : P → ℕ) (meant : M → Merge) (tests : DbValue P M → Error → Type 0) (runs : DbValue P M → Result (Commit A W) (TransactionError E) → DbValue P M → Type 0) (batches_of : W → List (Tree × Writes)) (has_trees : Bool) where
  -- the closure was run over the database as it was, it returned this, and what it wrote was made in the database as it was after that
  pub record CommitsTransaction (answer : A) (me more : CallerValue) (old new : StateValue P M) : Type 0 where
    pub commit : Commit A W
    pub answers : commit.answer ≡ answer
    pub after : DbValue P M
    pub ran : runs old.machine.db (Ok commit) after
    pub commits : commits_as store flush_number meant has_trees (batches_of commit.writes) commit.flushes me more (with_db old after) new

  -- the closure was run to this end, and nothing else was done
  pub record OnlyRuns (ended : Result (Commit A W) (TransactionError E)) (me more : CallerValue) (old new : StateValue P M) : Type 0 where
    pub after : DbValue P M
    pub ran : runs old.machine.db ended after
    pub nothing : DoesNothing me more (with_db old after) new

  -- why a transaction is refused: by a test, as its closure was, or as what it wrote was
  pub data RefusesTransaction (e : Error) (me more : CallerValue) (old new : StateValue P M) : Type 0 where
    ByTest : tests old.machine.db e → DoesNothing me more old new → RefusesTransaction e me more old new
    ByClosure : OnlyRuns (Err (Storage e)) me more old new → RefusesTransaction e me more old new
    ByCommit : (commit : Commit A W) (after : DbValue P M) → runs old.machine.db (Ok commit) after → has_trees ≡ true → RefusesCommit store flush_number meant (batches_of commit.writes) commit.flushes e me more (with_db old after) new
        → RefusesTransaction e me more old new

  -- of a transaction that its closure aborted the ids stay taken, and nothing else is done
  abbrev pub transacts_as : Result A (TransactionError E) → CallerValue → CallerValue → StateValue P M → StateValue P M → Type 0
  transacts_as (Ok answer) me more old new = CommitsTransaction answer me more old new
  transacts_as (Err (Abort e)) me more old new = OnlyRuns (Err (Abort e)) me more old new
  transacts_as (Err (Storage e)) me more old new = RefusesTransaction e me more old new

  -- it was made so under the lock
  abbrev pub TransactsUnderLock : Result A (TransactionError E) → CallerValue → CallerValue → Type 0
  TransactsUnderLock ended me more = AsHeld store ((ended ≡ Err (Storage Closed)) × (more ≡ me)) (transacts_as ended me more)
