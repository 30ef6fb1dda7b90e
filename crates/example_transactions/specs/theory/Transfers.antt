-- What the closure of a transfer does inside a transaction.
use Rattle.std.specs.Prelude.{◌≡◌, ◌≢◌, ℕ, ◌+◌, ◌<◌, ◌≤◌, ◌^◌, Option, Some}
use Rattle.std.specs.FinMap.Entries.{put}
use Rattle.std.specs.Int.{w64, to_be_bytes}
use Rattle.sled_nodes.specs.Order.{Key, key_cmp}
use Rattle.sled_store.specs.Store.{Store}
use Rattle.tree_transactions.specs.Trees.{Shows}
use Rattle.tree_transactions.specs.declared.errors.ConflictableTransactionError.{ConflictableTransactionError}
use Rattle.tree_transactions.specs.declared.errors.ConflictableTransactionError.TheVariants.{Abort, Conflict, Storage}
use Rattle.tree_transactions.specs.declared.tree.TransactionalTree.{TransactionalTree}
use Rattle.example_parts.specs.Counters.{number_in}
use Rattle.example_transactions.specs.declared.transfers.TransferError.{TransferError}
use Rattle.example_transactions.specs.declared.transfers.TransferError.TheVariants.{SameCounter, NotEnough, TooMuch}

-- a counter is shown to have this number
pub record CountsInside {P : Type 0} (store : P → Store) (inside : TransactionalTree P) (name : Key) (n : ℕ) : Type 0 where
  pub value : Option Key
  pub shows : Shows store inside name value
  pub is : n ≡ number_in value

module _ {P : Type 0} (store : P → Store) (old : TransactionalTree P) (from to : Key) (amount : ℕ) where
  -- the amount is taken from the one counter, and added to the other
  pub record MovesInside (new : TransactionalTree P) : Type 0 where
    pub apart : from ≢ to
    pub less : ℕ
    pub had : CountsInside store old from (less + amount)
    pub less_fits : less < 2 ^ 64
    pub stood : ℕ
    pub has : CountsInside store old to stood
    pub more_fits : stood + amount < 2 ^ 64
    pub is : new ≡ record old { overlay = put key_cmp to (Some (to_be_bytes w64 (stood + amount))) (put key_cmp from (Some (to_be_bytes w64 less)) old.overlay) }

  abbrev pub gives_up_as : ConflictableTransactionError TransferError → Type 0
  gives_up_as (Abort SameCounter) = from ≡ to
  gives_up_as (Abort NotEnough) = (n : ℕ) × CountsInside store old from n × (n < amount)
  gives_up_as (Abort TooMuch) = (n : ℕ) × CountsInside store old to n × (2 ^ 64 ≤ n + amount)
  gives_up_as Conflict = Unit {0}
  gives_up_as (Storage e) = Unit {0}

  -- it is aborted for a reason, or a call inside is refused
  pub record GivesUpMove (e : ConflictableTransactionError TransferError) : Type 0 where
    pub is : gives_up_as e
