-- A closure is run as a transaction: once, and once more while it answers that there was a conflict.
use Rattle.std.specs.Prelude.{◌≡◌, ℕ, suc, ◌<◌, ◌≤◌, ◌⊎◌, Bool, Result, Ok, Err}
use Rattle.std.specs.Fn.{Shared}
use denote.Ref.{MutBor}
use Rattle.sled_nodes.specs.declared.error.Error.{Error}
use Rattle.sled_nodes.specs.declared.error.Error.TheVariants.{ReportableBug}
use Rattle.sled_nodes.specs.declared.texts.TheConstants.{TRANSACTION_PASSED_ATTEMPTS}
use Rattle.sled_store.specs.Store.{Store}
use Rattle.tree_transactions.specs.Ids.{GoesOn, OnlyRaises}
use Rattle.tree_transactions.specs.declared.TheConstants.{MOST_ATTEMPTS}
use Rattle.tree_transactions.specs.declared.attempts.Commit.{Commit}
use Rattle.tree_transactions.specs.declared.errors.ConflictableTransactionError.{ConflictableTransactionError}
use Rattle.tree_transactions.specs.declared.errors.ConflictableTransactionError.TheVariants as closure
use Rattle.tree_transactions.specs.declared.errors.TransactionError.{TransactionError}
use Rattle.tree_transactions.specs.declared.errors.TransactionError.TheVariants.{Abort, Storage}

-- what an attempt ends by
abbrev pub Answer : Type 0 → Type 0 → Type 0
Answer A E = Result A (ConflictableTransactionError E)

-- what is said of the calls of a closure that is given something by `&mut`
abbrev pub Closure : Type 0 → Type 0 → Type 0 → Type 1
Closure F T R = Shared F (MutBor T × Unit {0}) (R × (MutBor T × Unit {0}))

-- a call of the closure at this may return what is this answer, and leave that
pub record Calls {F T R A E : Type 0} (says : Closure F T R) (result_of : R → Answer A E) (f : F) (given : T) (answer : Answer A E) (after : T) : Type 0 where
  pub shown : MutBor T
  pub shows : shown.now ≡ given
  pub told : R
  pub left : MutBor T
  pub met : says.post f (shown, tt) (told, (left, tt))
  pub tells : result_of told ≡ answer
  pub leaves : left.now ≡ after

-- what an attempt leaves: what is to be written, whether a flush is to follow, and the greatest id that was given
pub record Left (W : Type 0) : Type 0 where
  pub writes : W
  pub flushes : Bool
  pub greatest_id : ℕ

-- A call of the closure at what an attempt is given, over pages that mean the same, has what it requires. Of what an attempt is given it is
-- said what it begins as, over pages of this meaning and with this greatest id, which is set aside as the greatest before was
abbrev pub CanBegin : {T : Type 0} → (Store → ℕ → T → Type 0) → (MutBor T → Type 0) → Store → ℕ → Type 0
CanBegin {T} begins requires_of pages greatest =
    (s : Store) (here : ℕ) → OnlyRaises pages s → greatest ≤ here → (greatest ≤ pages.mark → here ≤ s.mark) → (given : MutBor T) → begins s here given.now → requires_of given

abbrev pub tells_attempts : Error → Type 0
tells_attempts (ReportableBug text) = text.now ≡ TRANSACTION_PASSED_ATTEMPTS.now
tells_attempts e = ⊥

-- How the closure's calls and its answers are spoken of; how ids are set aside above the greatest that was given; what the closure is
-- given, over pages of this meaning and with this greatest id; and what it leaves
module _ {F T R A E W : Type 0} (says : Closure F T R) (result_of : R → Answer A E) (f : F) (raises : ℕ → Store → Store → Type 0) (begins : Store → ℕ → T → Type 0) (left_of : T → Left W) where
  -- One attempt. Ids are set aside, the closure is called once with nothing written so far, and ids go on from where it leaves them
  pub record Attempt (old : Store) (greatest : ℕ) (answer : Answer A E) (writes : W) (flushes : Bool) (new : Store) (next : ℕ) : Type 0 where
    pub aside : raises greatest old new
    pub given : T
    pub fresh : begins new greatest given
    pub after : T
    pub calls : Calls says result_of f given answer after
    pub writes_are : writes ≡ (left_of after).writes
    pub flushes_is : flushes ≡ (left_of after).flushes
    pub ids : GoesOn greatest new.mark (left_of after).greatest_id next

  -- so many attempts, one after the other, each of which met a conflict. Each has the pages and the ids that the one before it left
  pub data Conflicts (old : Store) (greatest : ℕ) : ℕ → Store → ℕ → Type 0 where
    NoConflict : Conflicts old greatest 0 old greatest
    OneConflict : {count : ℕ} {mid new : Store} {here next : ℕ} (writes : W) (flushes : Bool) → Conflicts old greatest count mid here
        → Attempt mid here (Err closure.Conflict) writes flushes new next → Conflicts old greatest (suc count) new next

  -- fewer attempts than there may be met a conflict, and the one after them answered so
  pub record Ends (old : Store) (greatest : ℕ) (answer : Answer A E) (writes : W) (flushes : Bool) (new : Store) (next : ℕ) : Type 0 where
    pub count : ℕ
    pub few : count < MOST_ATTEMPTS
    pub mid : Store
    pub here : ℕ
    pub before : Conflicts old greatest count mid here
    pub last : Attempt mid here answer writes flushes new next
    pub only : OnlyRaises old new

  -- as many attempts as there may be met a conflict, and that is the error
  pub record Passes (old : Store) (greatest : ℕ) (e : Error) (new : Store) (next : ℕ) : Type 0 where
    pub all : Conflicts old greatest MOST_ATTEMPTS new next
    pub told : tells_attempts e

  -- fewer attempts than there may be met a conflict, and the one after them was not begun
  pub record StopsAttempts (old : Store) (greatest : ℕ) (new : Store) (next : ℕ) : Type 0 where
    pub count : ℕ
    pub few : count < MOST_ATTEMPTS
    pub before : Conflicts old greatest count new next
    pub only : OnlyRaises old new
    pub rises : greatest ≤ next
    pub aside : greatest ≤ old.mark → next ≤ new.mark

  abbrev pub runs_as : Store → ℕ → Result (Commit A W) (TransactionError E) → Store → ℕ → Type 0
  runs_as old greatest (Ok commit) new next = Ends old greatest (Ok commit.answer) commit.writes commit.flushes new next
  runs_as old greatest (Err (Abort e)) new next = (writes : W) × (flushes : Bool) × Ends old greatest (Err (closure.Abort e)) writes flushes new next
  runs_as old greatest (Err (Storage e)) new next =
      ((writes : W) × (flushes : Bool) × Ends old greatest (Err (closure.Storage e)) writes flushes new next) ⊎ Passes old greatest e new next

  -- It is run until an attempt does not answer that there was a conflict, which is to be made, is aborted or is refused, or until as many
  -- attempts were made as there may be. The pages stay as they are, and ids that were given stay given
  pub record RunsAttempts (old : Store) (greatest : ℕ) (answer : Result (Commit A W) (TransactionError E)) (new : Store) (next : ℕ) : Type 0 where
    pub is : runs_as old greatest answer new next
    pub only : OnlyRaises old new
    pub rises : greatest ≤ next
    pub aside : greatest ≤ old.mark → next ≤ new.mark
