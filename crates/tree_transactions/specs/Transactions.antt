-- Transactions of one tree and of a list of trees.
use Rattle.std.specs.Prelude.{◌≡◌, ◌⊎◌, ℕ, false, List, [], length, replicate, Result, Err}
use Rattle.sled_batch.specs.Batch.{Writes}
use Rattle.sled_store.specs.Store.{Store}
use Rattle.sled_nodes.specs.declared.error.Error.TheVariants.{NoMemory}
use Rattle.tree_transactions.specs.Ids.{SetsAside, sets_aside_for}
use Rattle.tree_transactions.specs.Attempts.{Answer, Closure, Left, RunsAttempts, StopsAttempts}
use Rattle.tree_transactions.specs.declared.attempts.Commit.{Commit}
use Rattle.tree_transactions.specs.declared.errors.TransactionError.{TransactionError}
use Rattle.tree_transactions.specs.declared.errors.TransactionError.TheVariants.{Storage}
use Rattle.tree_transactions.specs.declared.tree.TransactionalTree.{TransactionalTree}
use Rattle.tree_transactions.specs.declared.trees.TransactionalTrees.{TransactionalTrees}

-- the tree with this root as an attempt is given it, over pages of this meaning: with no writes, and ids go on from this one
pub record Begins {P : Type 0} (store : P → Store) (root : ℕ) (pages : Store) (greatest : ℕ) (given : TransactionalTree P) : Type 0 where
  pub over : store given.pages.now ≡ pages
  pub root_is : given.root ≡ root
  pub empty : given.overlay ≡ []
  pub greatest_is : given.greatest_id ≡ greatest
  pub mark_is : given.mark ≡ pages.mark
  pub quiet : given.flushes ≡ false

-- what a tree leaves
abbrev pub left_of_tree : {P : Type 0} → TransactionalTree P → Left Writes
left_of_tree t = record { writes = t.overlay; flushes = t.flushes; greatest_id = t.greatest_id }

-- the closure is run as a transaction of the tree with this root
abbrev pub Transacts : {P F R A E : Type 0} → (P → Store) → Closure F (TransactionalTree P) R → (R → Answer A E) → F → ℕ → Store → ℕ → Result (Commit A Writes) (TransactionError E) → Store → ℕ → Type 0
Transacts store says result_of f root = RunsAttempts says result_of f SetsAside (Begins store root) left_of_tree

-- the trees with these roots as an attempt is given them: with no writes at any position
pub record BeginsAll {P : Type 0} (store : P → Store) (roots : List ℕ) (pages : Store) (greatest : ℕ) (given : TransactionalTrees P) : Type 0 where
  pub over : store given.pages.now ≡ pages
  pub roots_are : given.roots.now ≡ roots
  pub empty : given.overlays ≡ replicate (length roots) []
  pub greatest_is : given.greatest_id ≡ greatest
  pub mark_is : given.mark ≡ pages.mark
  pub quiet : given.flushes ≡ false

-- what the trees of a list leave
abbrev pub left_of_trees : {P : Type 0} → TransactionalTrees P → Left (List Writes)
left_of_trees t = record { writes = t.overlays; flushes = t.flushes; greatest_id = t.greatest_id }

-- The closure is run as a transaction of the trees with these roots; or there was no memory for the writes of an attempt, which was then
-- not begun
pub record TransactsAll {P F R A E : Type 0} (store : P → Store) (says : Closure F (TransactionalTrees P) R) (result_of : R → Answer A E) (f : F) (roots : List ℕ) (old : Store) (greatest : ℕ) (ended : Result (Commit A (List Writes)) (TransactionError E)) (new : Store) (next : ℕ) : Type 0 where
  pub is : RunsAttempts says result_of f (sets_aside_for roots) (BeginsAll store roots) left_of_trees old greatest ended new next
      ⊎ ((ended ≡ Err (Storage NoMemory)) × StopsAttempts says result_of f (sets_aside_for roots) (BeginsAll store roots) left_of_trees old greatest new next)
