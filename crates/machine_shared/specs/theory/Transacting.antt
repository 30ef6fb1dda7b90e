-- Of Transactions, for proofs. What is noted of each part of a transaction.
use Rattle.std.specs.Prelude.{◌≡◌, ◌⊎◌, ℕ, Bool, true, false, List, [], ◌∷◌, ◌++◌, Result, Ok, Err}
use Rattle.std.specs.Global.{Vec}
use Rattle.sled_nodes.specs.declared.error.Error.{Error}
use Rattle.sled_batch.specs.Batch.{Writes}
use Rattle.sled_store.specs.Store.{Store}
use Rattle.sled_model.specs.Maps.{Merge}
use Rattle.sled_model.specs.declared.call.Whole.TheVariants.{Group}
use Rattle.sled_model.specs.declared.outcome.Outcome.{Outcome}
use Rattle.sled_model.specs.declared.outcome.Outcome.TheVariants.{Decided, Refused}
use Rattle.sled_model.specs.declared.outcome.Step.TheVariants as step
use Rattle.sled_model.specs.declared.reply.Reply.{Reply}
use Rattle.sled_model.specs.declared.reply.Reply.TheVariants.{Number}
use Rattle.sled_model.specs.declared.tree.Tree.{Tree}
use Rattle.tree_transactions.specs.declared.errors.TransactionError.{TransactionError}
use Rattle.tree_transactions.specs.declared.errors.TransactionError.TheVariants.{Abort, Storage}
use Rattle.sled.specs.Values.{DbValue}
use Rattle.machine_alone.specs.Step.{MachineStepContract}
use Rattle.machine_alone.specs.Values.{MachineValue}
use Rattle.machine_shared.specs.Made.{MadeValue, WholeMade}
use Rattle.machine_shared.specs.Transacted.{CannotNote, DoesNothing, RefusesGroup}
use Rattle.machine_shared.specs.Transactions.{flush_noted}
use Rattle.machine_shared.specs.Values.{CallerValue, StateValue}
use Rattle.machine_shared.specs.Wholes as value

-- a whole call was decided, or it was not
abbrev pub is_decided : Outcome → Type 0
is_decided (Decided reply) = Unit {0}
is_decided o = ⊥

abbrev pub is_undecided : Outcome → Type 0
is_undecided (Decided reply) = ⊥
is_undecided o = Unit {0}

-- .. and if it was refused, with this error
abbrev pub is_refused_as : Outcome → Error → Type 0
is_refused_as (Decided reply) e = ⊥
is_refused_as (Refused x) e = e ≡ x
is_refused_as o e = Unit {0}

-- a closure was run to this end, or a test refused that, and then nothing changed
abbrev pub ran_as : {P M E W : Type 0} → (Error → Type 0) → (Result W (TransactionError E) → DbValue P M → Type 0) → DbValue P M → Result W (TransactionError E) → DbValue P M → Type 0
ran_as tests reaches d (Ok commit) after = reaches (Ok commit) after
ran_as tests reaches d (Err (Abort e)) after = reaches (Err (Abort e)) after
ran_as tests reaches d (Err (Storage e)) after = (tests e × (after ≡ d)) ⊎ reaches (Err (Storage e)) after

module _ {P M : Type 0} (store : P → Store) (flush_number : P → ℕ) (meant : M → Merge) (old : MachineValue P M) (group : Vec (Tree × Writes)) (new : MachineValue P M) where
  -- a group was made
  pub record GroupMade : Type 0 where
    pub reply : Reply
    pub step : MachineStepContract store flush_number meant old (step.Whole (Group group)) (Decided reply) new

  -- .. or it was refused
  pub record GroupRefused (e : Error) : Type 0 where
    pub step : MachineStepContract store flush_number meant old (step.Whole (Group group)) (Refused e) new

  -- .. or it was not tried, since it could not be noted
  abbrev pub GroupUnmade : Error → Type 0
  GroupUnmade e = ((new ≡ old) × CannotNote store meant old.db group.items e) ⊎ GroupRefused e

-- a flush was added to a list, with its number
abbrev pub AddsFlush : List MadeValue → List MadeValue → Type 0
AddsFlush made more = (number : ℕ) × (more ≡ made ++ WholeMade value.Flush (Number number) ∷ [])

-- what was written was added to a list, and a flush after it if one was asked for
pub record AddsCommit (group : MadeValue) (flushes : Bool) (made more : List MadeValue) : Type 0 where
  pub flush : List MadeValue
  pub flushed : flush_noted flushes flush
  pub adds : more ≡ made ++ group ∷ flush

-- .. if there are any trees
abbrev pub adds_commit : Bool → MadeValue → Bool → List MadeValue → List MadeValue → Type 0
adds_commit false group flushes made more = more ≡ made
adds_commit true group flushes made more = AddsCommit group flushes made more

-- .. or nothing was, or only the flush was refused
pub record StopsCommit (group : MadeValue) (flushes : Bool) (made more : List MadeValue) : Type 0 where
  pub is : (more ≡ made) ⊎ ((flushes ≡ true) × (more ≡ made ++ group ∷ []))

-- a group that was not made could not be noted, or it was refused, and nothing is noted
abbrev pub StopsGroup : {P M : Type 0} → (P → Store) → (P → ℕ) → (M → Merge) → List (Tree × Writes) → Error → CallerValue → CallerValue → StateValue P M → StateValue P M → Type 0
StopsGroup store flush_number meant batches e me more old new =
    (CannotNote store meant old.machine.db batches e × DoesNothing me more old new) ⊎ (RefusesGroup store flush_number meant batches e old new × (more ≡ me))
