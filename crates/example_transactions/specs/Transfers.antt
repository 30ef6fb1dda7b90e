-- Transfers between the counters of a tree.
use Rattle.std.specs.Prelude.{◌≡◌, ◌≢◌, ℕ, ◌+◌, ◌<◌, ◌≤◌, ◌^◌, false}
use Rattle.sled_nodes.specs.Order.{Key}
use Rattle.sled_store.specs.Store.{Store, now}
use Rattle.sled_model.specs.Maps.{Maps, Merge}
use Rattle.tree_transactions.specs.declared.errors.TransactionError.{TransactionError}
use Rattle.tree_transactions.specs.declared.errors.TransactionError.TheVariants.{Abort, Storage}
use Rattle.sled.specs.Values.{DbValue}
use Rattle.example_parts.specs.Counters.{counter_in}
use Rattle.example_parts.specs.Reads.{found_in, maps_now}
use Rattle.example_transactions.specs.declared.transfers.TransferError.{TransferError}
use Rattle.example_transactions.specs.declared.transfers.TransferError.TheVariants.{SameCounter, NotEnough, TooMuch}

-- the sum of the two counters of a tree is this
abbrev pub come_to : Key → Key → Key → ℕ → Maps → Type 0
come_to tree from to total maps = counter_in maps tree from + counter_in maps tree to ≡ total

-- An amount went from one counter of a tree to another: the one is lower by it, and the other higher, so their sum is the one before. No
-- other key changes, and no other tree
pub record Transfers (old new : Maps) (tree from to : Key) (amount : ℕ) : Type 0 where
  pub apart : from ≢ to
  pub less : counter_in new tree from + amount ≡ counter_in old tree from
  pub more : counter_in new tree to ≡ counter_in old tree to + amount
  pub sum : counter_in new tree from + counter_in new tree to ≡ counter_in old tree from + counter_in old tree to
  pub keys : (other : Key) → other ≢ from → other ≢ to → found_in (new tree) other ≡ found_in (old tree) other
  pub trees : (other : Key) → other ≢ tree → new other ≡ old other

-- why an amount does not go from one counter to another
abbrev pub is_reason : Maps → Key → Key → Key → ℕ → TransferError → Type 0
is_reason maps tree from to amount SameCounter = from ≡ to
is_reason maps tree from to amount NotEnough = counter_in maps tree from < amount
is_reason maps tree from to amount TooMuch = 2 ^ 64 ≤ counter_in maps tree to + amount

module _ {P M : Type 0} (store : P → Store) (meant : M → Merge) (old : DbValue P M) (tree from to : Key) (amount : ℕ) where
  abbrev pub ends_as : TransactionError TransferError → DbValue P M → Type 0
  ends_as (Abort why) new = is_reason (maps_now store meant old) tree from to amount why × (maps_now store meant new ≡ maps_now store meant old)
  ends_as (Storage e) new = (now (store new.pages)).in_group ≡ false → maps_now store meant new ≡ maps_now store meant old

  -- It did not: the transfer was aborted for a reason, or it was refused. All maps are as they were, unless a refusal closed the database
  pub record EndsTransfer (new : DbValue P M) (e : TransactionError TransferError) : Type 0 where
    pub is : ends_as e new
