-- What the closure of `put_indexed` does inside a transaction.
use Rattle.std.specs.Prelude.{◌≡◌, ◌≢◌, true, false, Bool, Option, Some, None}
use Rattle.std.specs.FinMap.Entries.{put}
use Rattle.sled_nodes.specs.Order.{Key, key_cmp}
use Rattle.sled_store.specs.Store.{Store}
use Rattle.tree_transactions.specs.Positions.{ShowsAt, WritesAt}
use Rattle.tree_transactions.specs.declared.errors.ConflictableTransactionError.{ConflictableTransactionError}
use Rattle.tree_transactions.specs.declared.errors.ConflictableTransactionError.TheVariants.{Abort, Conflict, Storage}
use Rattle.tree_transactions.specs.declared.trees.TransactionalTrees.{TransactionalTrees}
use Rattle.example_transactions.specs.declared.indexed.EmailTaken.{EmailTaken}

-- no other user is the owner, or some other is
abbrev pub is_free_as : Bool → Option Key → Key → Type 0
is_free_as true owner id = (other : Key) → owner ≡ Some other → other ≡ id
is_free_as false owner id = (other : Key) × (owner ≡ Some other) × (other ≢ id)

-- whether an address is free for a user is answered
pub record TellsFree {P : Type 0} (store : P → Store) (both : TransactionalTrees P) (id email : Key) (free : Bool) : Type 0 where
  pub owner : Option Key
  pub shows : ShowsAt store both 1 email owner
  pub is : is_free_as free owner id

abbrev pub takes_entry_as : {P : Type 0} → TransactionalTrees P → Option Key → TransactionalTrees P → Type 0
takes_entry_as old None new = new ≡ old
takes_entry_as old (Some email) new = WritesAt old 1 (put key_cmp email None) new

-- the entry of an address is taken out, if there is an address
pub record TakesEntry {P : Type 0} (old : TransactionalTrees P) (email : Option Key) (new : TransactionalTrees P) : Type 0 where
  pub is : takes_entry_as old email new

-- .. and that of the new one is written
pub record ChangesEntry {P : Type 0} (old : TransactionalTrees P) (id email : Key) (before : Option Key) (new : TransactionalTrees P) : Type 0 where
  pub between : TransactionalTrees P
  pub taken : TakesEntry old before between
  pub written : WritesAt between 1 (put key_cmp email (Some id)) new

module _ {P : Type 0} (store : P → Store) (old : TransactionalTrees P) (id email : Key) where
  -- the address is free, the row is written, and then its entry, in place of the one of the address before
  pub record PutsInside (before : Option Key) (new : TransactionalTrees P) : Type 0 where
    pub free : TellsFree store old id email true
    pub had : ShowsAt store old 0 id before
    pub between : TransactionalTrees P
    pub row : WritesAt old 0 (put key_cmp id (Some email)) between
    pub entry : ChangesEntry between id email before new

  abbrev pub gives_up_put_as : ConflictableTransactionError EmailTaken → Type 0
  gives_up_put_as (Abort why) = TellsFree store old id email false
  gives_up_put_as Conflict = Unit {0}
  gives_up_put_as (Storage e) = Unit {0}

  -- it is aborted if the address is another user's, or a call inside is refused
  pub record GivesUpPut (e : ConflictableTransactionError EmailTaken) : Type 0 where
    pub is : gives_up_put_as e
