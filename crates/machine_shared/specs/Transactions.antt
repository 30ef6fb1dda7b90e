-- A closure that is run as a transaction by a caller: what it wrote is noted as a group, with what was at the keys of its writes.
use Rattle.std.specs.Prelude.{◌≡◌, ◌⊎◌, ℕ, Bool, true, false, cond, ◌&&◌, List, [], ◌∷◌, ◌++◌, Result, Ok, Err}
use Rattle.sled_nodes.specs.declared.error.Error.{Error}
use Rattle.sled_batch.specs.Batch.{Writes}
use Rattle.sled_store.specs.Store.{Store}
use Rattle.sled_model.specs.Maps.{Maps, Merge}
use Rattle.sled_model.specs.Refusal.{must_refuse_of}
use Rattle.sled_model.specs.State.{maps_of}
use Rattle.sled_model.specs.declared.reply.Reply.TheVariants.{Number}
use Rattle.sled_model.specs.declared.tree.Tree.{Tree}
use Rattle.tree_transactions.specs.Attempts.{Answer, Closure}
use Rattle.tree_transactions.specs.declared.attempts.Commit.{Commit}
use Rattle.tree_transactions.specs.declared.errors.TransactionError.{TransactionError}
use Rattle.tree_transactions.specs.declared.errors.TransactionError.TheVariants.{Abort, Storage}
use Rattle.tree_transactions.specs.declared.tree.TransactionalTree.{TransactionalTree}
use Rattle.tree_transactions.specs.declared.trees.TransactionalTrees.{TransactionalTrees}
use Rattle.sled.specs.Calls.{MustBeRefused}
use Rattle.sled.specs.Sound.{IsDb}
use Rattle.sled.specs.Transactions.{RefusesList, RunsOnList, RunsOnTree, RunsTo}
use Rattle.sled.specs.Values.{DbValue, db_state}
use Rattle.machine_shared.specs.Made.{MadeValue, WholeMade, TransactionMade}
use Rattle.machine_shared.specs.Stood.{stood_in}
use Rattle.machine_shared.specs.Wholes as value

-- In a database whose pages are well formed the closure of a transaction is run to this end, as a transaction of the database runs it: with
-- its ids, some of which it may have taken after it, and nothing is written
pub record RunsWell {P M A E W : Type 0} (store : P → Store) (meant : M → Merge) (reaches : Result (Commit A W) (TransactionError E) → Store → ℕ → Type 0) (d : DbValue P M) (ended : Result (Commit A W) (TransactionError E)) (after : DbValue P M) : Type 0 where
  pub sound : IsDb store d
  pub runs : RunsTo store meant reaches d ended after

-- .. at the root of a tree that no test refuses
abbrev pub RunsIn : {P M F R A E : Type 0} → (P → Store) → (M → Merge) → Closure F (TransactionalTree P) R → (R → Answer A E) → F → Tree → DbValue P M → Result (Commit A Writes) (TransactionError E) → DbValue P M → Type 0
RunsIn store meant says result_of f tree d ended after = RunsWell store meant (RunsOnTree store meant says result_of f d tree) d ended after

-- .. at the roots of these trees
abbrev pub RunsAllIn : {P M F R A E : Type 0} → (P → Store) → (M → Merge) → Closure F (TransactionalTrees P) R → (R → Answer A E) → F → List Tree → DbValue P M → Result (Commit A (List Writes)) (TransactionError E) → DbValue P M → Type 0
RunsAllIn store meant says result_of f trees d ended after = RunsWell store meant (RunsOnList store meant says result_of f d trees) d ended after

-- a test of the tree fails, and so says the error
abbrev pub fails_tests : {P M : Type 0} → (P → Store) → (M → Merge) → Tree → DbValue P M → Error → Type 0
fails_tests store meant tree d e = MustBeRefused (must_refuse_of (db_state store meant d) (tree ∷ [])) e

-- the first of the tests of these trees that fails, as the error says, or if none fails there is no memory for the list of their roots
abbrev pub fails_tests_of_list : {P M : Type 0} → (P → Store) → (M → Merge) → List Tree → DbValue P M → Error → Type 0
fails_tests_of_list store meant trees d e = RefusesList (must_refuse_of (db_state store meant d) trees) e

-- it is so of the database as it was at some moment, which had these maps, and as it was after it
abbrev pub IsOnce : {P M X : Type 0} → (P → Store) → (M → Merge) → (DbValue P M → X → DbValue P M → Type 0) → Maps → X → Type 0
IsOnce {P} {M} store meant so maps x = (d : DbValue P M) × (after : DbValue P M) × (maps ≡ maps_of (db_state store meant d)) × so d x after

abbrev pub RunsOnce : {P M F R A E : Type 0} → (P → Store) → (M → Merge) → Closure F (TransactionalTree P) R → (R → Answer A E) → F → Tree → Maps → Result (Commit A Writes) (TransactionError E) → Type 0
RunsOnce store meant says result_of f tree = IsOnce store meant (RunsIn store meant says result_of f tree)

abbrev pub RunsAllOnce : {P M F R A E : Type 0} → (P → Store) → (M → Merge) → Closure F (TransactionalTrees P) R → (R → Answer A E) → F → List Tree → Maps → Result (Commit A (List Writes)) (TransactionError E) → Type 0
RunsAllOnce store meant says result_of f trees = IsOnce store meant (RunsAllIn store meant says result_of f trees)

-- what was written of a tree, as the batches of a group
abbrev pub batches_of_tree : Tree → Writes → List (Tree × Writes)
batches_of_tree tree writes = (tree, writes) ∷ []

-- a transaction that wrote this over these maps, as it is noted
abbrev pub transaction_made : Maps → List (Tree × Writes) → MadeValue
transaction_made maps batches = TransactionMade batches (stood_in maps batches)

-- a flush is noted with its number if one was asked for
abbrev pub flush_noted : Bool → List MadeValue → Type 0
flush_noted false noted = noted ≡ []
flush_noted true noted = (number : ℕ) × (noted ≡ WholeMade value.Flush (Number number) ∷ [])

-- What is noted of a transaction follows from the maps over which its closure was run and to what end, from the batches of what it wrote,
-- and from whether there are any trees. Without trees nothing is noted, and a flush that is asked for is left out
module _ {A E W : Type 0} (reaches : Maps → Result (Commit A W) (TransactionError E) → Type 0) (batches_of : W → List (Tree × Writes)) (has_trees : Bool) where
  -- The closure returned this over these maps. What it wrote is noted with what was in them, and after it the flush that it asked for
  pub record Notes (answer : A) (noted : List MadeValue) : Type 0 where
    pub commit : Commit A W
    pub maps : Maps
    pub reached : reaches maps (Ok commit)
    pub answers : commit.answer ≡ answer
    pub flush : List MadeValue
    pub flushed : flush_noted (has_trees && commit.flushes) flush
    pub is : noted ≡ cond has_trees (transaction_made maps (batches_of commit.writes) ∷ flush) []

  -- the flush that the closure asked for was refused, and what it wrote is made
  pub record LacksFlush (noted : List MadeValue) : Type 0 where
    pub commit : Commit A W
    pub maps : Maps
    pub reached : reaches maps (Ok commit)
    pub there : has_trees ≡ true
    pub asked : commit.flushes ≡ true
    pub is : noted ≡ transaction_made maps (batches_of commit.writes) ∷ []

  -- the closure aborted it, or it was refused: nothing is noted, but for what it wrote if only its flush was refused
  abbrev pub notes_failed : TransactionError E → List MadeValue → Type 0
  notes_failed (Abort e) noted = ((maps : Maps) × reaches maps (Err (Abort e))) × (noted ≡ [])
  notes_failed (Storage e) noted = (noted ≡ []) ⊎ LacksFlush noted

  -- what is noted of a transaction that returns this
  abbrev pub notes_ended : Result A (TransactionError E) → List MadeValue → Type 0
  notes_ended (Ok answer) noted = Notes answer noted
  notes_ended (Err e) noted = notes_failed e noted

  -- .. and is added at the end of a list
  pub record AddsTransaction (ended : Result A (TransactionError E)) (made more : List MadeValue) : Type 0 where
    pub noted : List MadeValue
    pub notes : notes_ended ended noted
    pub adds : more ≡ made ++ noted
