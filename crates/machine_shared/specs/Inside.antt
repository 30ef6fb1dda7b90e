-- What the closure of a transaction read: its own writes, and else the maps over which it was run.
use Rattle.std.specs.Prelude.{◌≡◌, ℕ, ◌≤◌, Bool, List, [], length, replicate, Option, Some, Result, Ok, Err, slice_get}
use Rattle.std.specs.Option.{unwrap_or}
use Rattle.std.specs.FinMap.Entries.{find}
use Rattle.sled_nodes.specs.Order.{Key, key_cmp}
use Rattle.sled_batch.specs.Batch.{Writes}
use Rattle.sled_store.specs.Store.{Store}
use Rattle.sled_model.specs.Maps.{Maps, Merge}
use Rattle.sled_model.specs.State.{maps_of}
use Rattle.sled_model.specs.declared.tree.Tree.{Tree}
use Rattle.tree_transactions.specs.Attempts.{Answer, Calls, Closure}
use Rattle.tree_transactions.specs.Positions.{ShowsAt}
use Rattle.tree_transactions.specs.Trees.{Shows}
use Rattle.tree_transactions.specs.declared.attempts.Commit.{Commit}
use Rattle.tree_transactions.specs.declared.errors.ConflictableTransactionError.TheVariants as closure
use Rattle.tree_transactions.specs.declared.errors.TransactionError.{TransactionError}
use Rattle.tree_transactions.specs.declared.errors.TransactionError.TheVariants.{Abort, Storage}
use Rattle.tree_transactions.specs.declared.tree.TransactionalTree.{TransactionalTree}
use Rattle.tree_transactions.specs.declared.trees.TransactionalTrees.{TransactionalTrees}
use Rattle.sled.specs.Values.{DbValue, db_state}
use Rattle.machine_shared.specs.Stood.{found_in}
use Rattle.machine_shared.specs.Transactions.{RunsAllIn, RunsIn}

-- Whatever the closure has written, what a read of a key shows is its own write of the key, and if there is none what these maps have there
abbrev pub ReadsOver : {P : Type 0} → (P → Store) → Maps → Tree → TransactionalTree P → Type 0
ReadsOver {P} store maps tree given = (at : TransactionalTree P) (key : Key) (value : Option Key) → at.pages.now ≡ given.pages.now → at.root ≡ given.root → Shows store at key value
    → value ≡ unwrap_or (find key_cmp key at.overlay) (found_in (maps tree.name) key)

-- .. of the tree at a position of a list
abbrev pub ReadsOverAll : {P : Type 0} → (P → Store) → Maps → List Tree → TransactionalTrees P → Type 0
ReadsOverAll {P} store maps trees given = (at : TransactionalTrees P) (position : ℕ) (tree : Tree) (key : Key) (value : Option Key) → at.pages.now ≡ given.pages.now → at.roots.now ≡ given.roots.now → slice_get trees position ≡ Some tree
    → ShowsAt store at position key value → (overlay : Writes) × (slice_get at.overlays position ≡ Some overlay) × (value ≡ unwrap_or (find key_cmp key overlay) (found_in (maps tree.name) key))

-- The last call of the closure: it began with nothing written, the ids that it may take are above this one, its reads are of these maps, it
-- answered so, and this is what it wrote and whether it asked for a flush
pub record CallsOver {P F R A E : Type 0} (store : P → Store) (says : Closure F (TransactionalTree P) R) (result_of : R → Answer A E) (f : F) (tree : Tree) (maps : Maps) (greatest : ℕ) (answer : Answer A E) (writes : Writes) (flushes : Bool) : Type 0 where
  pub given : TransactionalTree P
  pub after : TransactionalTree P
  pub empty : given.overlay ≡ []
  pub above : greatest ≤ given.greatest_id
  pub reads : ReadsOver store maps tree given
  pub calls : Calls says result_of f given answer after
  pub writes_are : writes ≡ after.overlay
  pub flushes_is : flushes ≡ after.flushes

-- .. at a list of trees
pub record CallsOverAll {P F R A E : Type 0} (store : P → Store) (says : Closure F (TransactionalTrees P) R) (result_of : R → Answer A E) (f : F) (trees : List Tree) (maps : Maps) (greatest : ℕ) (answer : Answer A E) (writes : List Writes) (flushes : Bool) : Type 0 where
  pub given : TransactionalTrees P
  pub after : TransactionalTrees P
  pub empty : given.overlays ≡ replicate (length given.roots.now) []
  pub above : greatest ≤ given.greatest_id
  pub reads : ReadsOverAll store maps trees given
  pub calls : Calls says result_of f given answer after
  pub writes_are : writes ≡ after.overlays
  pub flushes_is : flushes ≡ after.flushes

-- a transaction that is to be made or was aborted ended by such a call
abbrev pub ends_by : {A E W : Type 0} → (Answer A E → W → Bool → Type 0) → Result (Commit A W) (TransactionError E) → Type 0
ends_by last (Ok commit) = last (Ok commit.answer) commit.writes commit.flushes
ends_by {W = W} last (Err (Abort e)) = (writes : W) × (flushes : Bool) × last (Err (closure.Abort e)) writes flushes
ends_by last (Err (Storage e)) = Unit {0}

-- A closure is run in a database, and ends by a call over the maps of that database
pub record RunsOver {P M F R A E : Type 0} (store : P → Store) (meant : M → Merge) (says : Closure F (TransactionalTree P) R) (result_of : R → Answer A E) (f : F) (tree : Tree) (d : DbValue P M) (ended : Result (Commit A Writes) (TransactionError E)) (after : DbValue P M) : Type 0 where
  pub runs : RunsIn store meant says result_of f tree d ended after
  pub last : ends_by (CallsOver store says result_of f tree (maps_of (db_state store meant d)) d.greatest_id) ended

-- .. at a list of trees
pub record RunsOverAll {P M F R A E : Type 0} (store : P → Store) (meant : M → Merge) (says : Closure F (TransactionalTrees P) R) (result_of : R → Answer A E) (f : F) (trees : List Tree) (d : DbValue P M) (ended : Result (Commit A (List Writes)) (TransactionError E)) (after : DbValue P M) : Type 0 where
  pub runs : RunsAllIn store meant says result_of f trees d ended after
  pub last : ends_by (CallsOverAll store says result_of f trees (maps_of (db_state store meant d)) d.greatest_id) ended
