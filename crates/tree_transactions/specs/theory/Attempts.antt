-- One attempt of a transaction, as its functions state it.
use Rattle.std.specs.Prelude.{◌≡◌, ℕ, Bool, List, Option, Some, None, Result, Ok, Err}
use denote.Ref.{MutBor}
use Rattle.sled_batch.specs.Batch.{Writes}
use Rattle.sled_store.specs.Store.{Store}
use Rattle.tree_transactions.specs.Ids.{SetsAside, sets_aside_for}
use Rattle.tree_transactions.specs.Attempts.{Answer, Closure, Left, Attempt}
use Rattle.tree_transactions.specs.Transactions.{Begins, left_of_tree, BeginsAll, left_of_trees}
use Rattle.tree_transactions.specs.declared.attempts.Commit.{Commit}
use Rattle.tree_transactions.specs.declared.errors.ConflictableTransactionError.{ConflictableTransactionError}
use Rattle.tree_transactions.specs.declared.errors.ConflictableTransactionError.TheVariants as closure
use Rattle.tree_transactions.specs.declared.errors.TransactionError.{TransactionError}
use Rattle.tree_transactions.specs.declared.errors.TransactionError.TheVariants.{Abort, Storage}
use Rattle.tree_transactions.specs.declared.tree.TransactionalTree.{TransactionalTree}
use Rattle.tree_transactions.specs.declared.trees.TransactionalTrees.{TransactionalTrees}

-- a call of the closure at this may answer so, and leave that
pub record Told {F T R : Type 0} (says : Closure F T R) (f : F) (given : T) (answer : R) (after : T) : Type 0 where
  pub shown : MutBor T
  pub shows : shown.now ≡ given
  pub left : MutBor T
  pub met : says.post f (shown, tt) (answer, (left, tt))
  pub leaves : left.now ≡ after

-- what is to be made of an attempt whose closure answered so
abbrev pub made_as : {A E W : Type 0} → Answer A E → W → Bool → Result (Commit A W) (ConflictableTransactionError E)
made_as (Ok answer) writes flushes = Ok (record { answer = answer; writes = writes; flushes = flushes })
made_as (Err e) writes flushes = Err e

-- what a transaction answers after an attempt that ended so; none if another is to follow
abbrev pub ended_as : {A E W : Type 0} → Result (Commit A W) (ConflictableTransactionError E) → Option (Result (Commit A W) (TransactionError E))
ended_as (Ok commit) = Some (Ok commit)
ended_as (Err (closure.Abort e)) = Some (Err (Abort e))
ended_as (Err closure.Conflict) = None
ended_as (Err (closure.Storage e)) = Some (Err (Storage e))

module _ {F T R A E W : Type 0} (says : Closure F T R) (result_of : R → Answer A E) (f : F) (raises : ℕ → Store → Store → Type 0) (begins : Store → ℕ → T → Type 0) (left_of : T → Left W) where
  abbrev pub attempts_as : Store → ℕ → Result (Commit A W) (ConflictableTransactionError E) → Store → ℕ → Type 0
  attempts_as old greatest (Ok commit) new next = Attempt says result_of f raises begins left_of old greatest (Ok commit.answer) commit.writes commit.flushes new next
  attempts_as old greatest (Err e) new next = (writes : W) × (flushes : Bool) × Attempt says result_of f raises begins left_of old greatest (Err e) writes flushes new next

  -- one attempt, with what is to be made of it
  pub record Attempts (old : Store) (greatest : ℕ) (answer : Result (Commit A W) (ConflictableTransactionError E)) (new : Store) (next : ℕ) : Type 0 where
    pub is : attempts_as old greatest answer new next

abbrev pub AttemptsTree : {P F R A E : Type 0} → (P → Store) → Closure F (TransactionalTree P) R → (R → Answer A E) → F → ℕ → Store → ℕ → Result (Commit A Writes) (ConflictableTransactionError E) → Store → ℕ → Type 0
AttemptsTree store says result_of f root = Attempts says result_of f SetsAside (Begins store root) left_of_tree

abbrev pub AttemptsTrees : {P F R A E : Type 0} → (P → Store) → Closure F (TransactionalTrees P) R → (R → Answer A E) → F → List ℕ → Store → ℕ → Result (Commit A (List Writes)) (ConflictableTransactionError E) → Store → ℕ → Type 0
AttemptsTrees store says result_of f roots = Attempts says result_of f (sets_aside_for roots) (BeginsAll store roots) left_of_trees
