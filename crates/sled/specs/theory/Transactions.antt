-- The commit of a transaction, as its functions state it.
use Rattle.std.specs.Prelude.{◌≡◌, ◌⊎◌, ℕ, true, Bool, List}
use Rattle.sled_nodes.specs.declared.error.Error.{Error}
use Rattle.sled_batch.specs.Batch.{Writes}
use Rattle.sled_store.specs.Store.{Store}
use Rattle.sled_model.specs.Maps.{Merge}
use Rattle.sled_model.specs.declared.tree.Tree.{Tree}
use Rattle.sled.specs.Values.{DbValue}
use Rattle.sled.specs.Flush.{RefusesFlush}
use Rattle.sled.specs.Groups.{GroupDecided, GroupRefused, IsQuietGroup}
use Rattle.sled.specs.Transactions.{flushes_as}

module _ {P M : Type 0} (store : P → Store) (flush_number : P → ℕ) (meant : M → Merge) (old : DbValue P M) (batches : List (Tree × Writes)) (flushes : Bool) where
  -- the group is made, and then a flush if one is asked for
  pub record CommitsGroup (new : DbValue P M) : Type 0 where
    pub made : DbValue P M
    pub group : GroupDecided store meant old batches made
    pub quiet : IsQuietGroup store meant old batches made
    pub flushed : flushes_as store flush_number meant flushes made new

  -- the group is made, and the flush that is asked for is refused
  pub record LacksFlush (e : Error) (new : DbValue P M) : Type 0 where
    pub made : DbValue P M
    pub group : GroupDecided store meant old batches made
    pub quiet : IsQuietGroup store meant old batches made
    pub asked : flushes ≡ true
    pub refused : RefusesFlush store meant made new e

  pub record StopsCommit (e : Error) (new : DbValue P M) : Type 0 where
    pub is : (GroupRefused store meant old batches e new × IsQuietGroup store meant old batches new) ⊎ LacksFlush e new
