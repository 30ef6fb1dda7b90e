-- What the closure of `take_job` does inside a transaction.
use Rattle.std.specs.Prelude.{◌≡◌, true, false, Bool, Some, None}
use Rattle.std.specs.FinMap.Entries.{put}
use Rattle.sled_nodes.specs.Order.{Key, key_cmp}
use Rattle.sled_store.specs.Store.{Store}
use Rattle.tree_transactions.specs.Positions.{ShowsAt, WritesAt}
use Rattle.tree_transactions.specs.declared.errors.ConflictableTransactionError.{ConflictableTransactionError}
use Rattle.tree_transactions.specs.declared.errors.ConflictableTransactionError.TheVariants.{Abort, Conflict, Storage}
use Rattle.tree_transactions.specs.declared.trees.TransactionalTrees.{TransactionalTrees}

-- a job is taken out of the first tree, and put into the second
pub record MovesInside {P : Type 0} (old : TransactionalTrees P) (job value : Key) (new : TransactionalTrees P) : Type 0 where
  pub between : TransactionalTrees P
  pub out : WritesAt old 0 (put key_cmp job None) between
  pub in_ : WritesAt between 1 (put key_cmp job (Some value)) new

abbrev pub takes_inside_as : {P : Type 0} → (P → Store) → Bool → TransactionalTrees P → Key → TransactionalTrees P → Type 0
takes_inside_as store true old job new = (value : Key) × ShowsAt store old 0 job (Some value) × MovesInside old job value new
takes_inside_as store false old job new = ShowsAt store old 0 job None × (new ≡ old)

-- .. if it is there, with the value that it has there
pub record TakesInside {P : Type 0} (store : P → Store) (old : TransactionalTrees P) (job : Key) (taken : Bool) (new : TransactionalTrees P) : Type 0 where
  pub is : takes_inside_as store taken old job new

abbrev pub is_no_abort : {E : Type 0} → ConflictableTransactionError E → Type 0
is_no_abort (Abort e) = ⊥
is_no_abort Conflict = Unit {0}
is_no_abort (Storage e) = Unit {0}

-- the transaction is not aborted
pub record NotAborted {E : Type 0} (e : ConflictableTransactionError E) : Type 0 where
  pub is : is_no_abort e
