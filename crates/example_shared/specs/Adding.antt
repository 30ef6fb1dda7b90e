-- A raise of a number inside a transaction.
use Rattle.std.specs.Prelude.{◌≡◌, ℕ, ◌+◌, ◌<◌, ◌^◌, Option, Some}
use Rattle.std.specs.Int.{w64, to_be_bytes}
use Rattle.sled_nodes.specs.Order.{Key}
use Rattle.sled_store.specs.Store.{Store}
use Rattle.tree_transactions.specs.Trees.{Records, Shows}
use Rattle.tree_transactions.specs.declared.tree.TransactionalTree.{TransactionalTree}
use Rattle.example_parts.specs.Counters.{number_in}

-- the key is set to the number above the one that it shows
pub record RaisesInside {P : Type 0} (store : P → Store) (old : TransactionalTree P) (key : Key) (n : ℕ) (new : TransactionalTree P) : Type 0 where
  pub stood : Option Key
  pub shows : Shows store old key stood
  pub next : n ≡ number_in stood + 1
  pub fits : n < 2 ^ 64
  pub put : Records old key (Some (to_be_bytes w64 n)) new
