-- How a refusal inside a transaction ends its closure, and what a clone of an error is.
use Rattle.std.specs.Prelude.{◌≡◌}
use Rattle.tree_transactions.specs.declared.errors.UnabortableTransactionError.{UnabortableTransactionError}
use Rattle.tree_transactions.specs.declared.errors.UnabortableTransactionError.TheVariants as inside
use Rattle.tree_transactions.specs.declared.errors.ConflictableTransactionError.{ConflictableTransactionError}
use Rattle.tree_transactions.specs.declared.errors.ConflictableTransactionError.TheVariants.{Abort, Conflict, Storage}
use Rattle.tree_transactions.specs.declared.errors.TransactionError.{TransactionError}
use Rattle.tree_transactions.specs.declared.errors.TransactionError.TheVariants as transaction

-- the same error, as the end of a closure
abbrev pub ends_closure : {T : Type 0} → UnabortableTransactionError → ConflictableTransactionError T
ends_closure inside.Conflict = Conflict
ends_closure (inside.Storage e) = Storage e

-- the same end of a closure; what it gave up with is a clone of the other
abbrev pub is_same_ending : {T : Type 0} → (T → T → Type 0) → ConflictableTransactionError T → ConflictableTransactionError T → Type 0
is_same_ending is_clone (Abort t) (Abort u) = is_clone t u
is_same_ending is_clone (Abort t) copy = ⊥
is_same_ending is_clone Conflict copy = copy ≡ Conflict
is_same_ending is_clone (Storage e) copy = copy ≡ Storage e

-- .. and the same of a transaction
abbrev pub is_same_refusal : {T : Type 0} → (T → T → Type 0) → TransactionError T → TransactionError T → Type 0
is_same_refusal is_clone (transaction.Abort t) (transaction.Abort u) = is_clone t u
is_same_refusal is_clone (transaction.Abort t) copy = ⊥
is_same_refusal is_clone (transaction.Storage e) copy = copy ≡ transaction.Storage e
