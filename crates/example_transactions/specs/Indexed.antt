-- A table of the addresses of users by their numbers, and an index of the numbers by the addresses.
use Rattle.std.specs.Prelude.{◌≡◌, ◌≢◌, false, Option, Some, None}
use Rattle.sled_nodes.specs.Order.{Key}
use Rattle.sled_store.specs.Store.{Store, now}
use Rattle.sled_model.specs.Maps.{Maps, Merge}
use Rattle.tree_transactions.specs.declared.errors.TransactionError.{TransactionError}
use Rattle.tree_transactions.specs.declared.errors.TransactionError.TheVariants.{Abort, Storage}
use Rattle.sled.specs.Values.{DbValue}
use Rattle.example_parts.specs.Reads.{found_in, maps_now}
use Rattle.example_transactions.specs.declared.indexed.EmailTaken.{EmailTaken}

-- the index has an entry for each row of the table, and no others
pub record Agree (table index : Key → Option Key) : Type 0 where
  pub has : (id email : Key) → table id ≡ Some email → index email ≡ Some id
  pub only : (email id : Key) → index email ≡ Some id → table id ≡ Some email

-- the trees of these names agree
abbrev pub agree_in : Key → Key → Maps → Type 0
agree_in table index maps = Agree (found_in (maps table)) (found_in (maps index))

-- A user had this address before, or none, and has another now, which no other user had. No other user's changes, and no other tree
pub record PutsRow (old new : Maps) (table index id email : Key) (before : Option Key) : Type 0 where
  pub free : (owner : Key) → found_in (old index) email ≡ Some owner → owner ≡ id
  pub was : found_in (old table) id ≡ before
  pub is : found_in (new table) id ≡ Some email
  pub users : (other : Key) → other ≢ id → found_in (new table) other ≡ found_in (old table) other
  pub entry : found_in (new index) email ≡ Some id
  pub gone : (other : Key) → before ≡ Some other → other ≢ email → found_in (new index) other ≡ None
  pub entries : (other : Key) → before ≢ Some other → other ≢ email → found_in (new index) other ≡ found_in (old index) other
  pub trees : (other : Key) → other ≢ table → other ≢ index → new other ≡ old other

module _ {P M : Type 0} (store : P → Store) (meant : M → Merge) (old : DbValue P M) (index id email : Key) (new : DbValue P M) where
  abbrev pub ends_put_as : TransactionError EmailTaken → Type 0
  ends_put_as (Abort why) = ((owner : Key) × (found_in (maps_now store meant old index) email ≡ Some owner) × (owner ≢ id)) × (maps_now store meant new ≡ maps_now store meant old)
  ends_put_as (Storage e) = (now (store new.pages)).in_group ≡ false → maps_now store meant new ≡ maps_now store meant old

  -- Nothing was put: another user has the address, or it was refused. All maps are as they were, unless a refusal closed the database
  pub record EndsPut (e : TransactionError EmailTaken) : Type 0 where
    pub is : ends_put_as e
