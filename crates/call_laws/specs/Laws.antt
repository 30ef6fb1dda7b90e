-- What the calls of one owner do together.
use Rattle.std.specs.Prelude.{ℕ, Bool, true, false, ◌&&◌, List, [], ◌∷◌, ◌++◌, Result}
use Rattle.std.specs.List.{zip}
use Rattle.sled_nodes.specs.declared.error.Error.{Error}
use Rattle.sled_batch.specs.Batch.{Writes}
use Rattle.sled_store.specs.Store.{Store}
use Rattle.sled_model.specs.Collections.{Content}
use Rattle.sled_model.specs.Maps.{Maps, Merge}
use Rattle.sled_model.specs.declared.tree.Tree.{Tree}
use Rattle.sled_model.specs.declared.reply.Reply.TheVariants as told
use Rattle.tree_transactions.specs.Attempts.{Answer, Closure}
use Rattle.tree_transactions.specs.declared.tree.TransactionalTree.{TransactionalTree}
use Rattle.tree_transactions.specs.declared.trees.TransactionalTrees.{TransactionalTrees}
use Rattle.tree_transactions.specs.declared.attempts.Commit.{Commit}
use Rattle.tree_transactions.specs.declared.errors.TransactionError.{TransactionError}
use Rattle.tree_transactions.specs.declared.errors.TransactionError.TheVariants.{Abort, Storage}
use Rattle.sled.specs.Transactions.{Stops, ByTest, ByClosure, ByGroup, ByFlush, Fails, TransactionMade, TransactionNotMade, ListMade, ListNotMade, has_trees}
use Rattle.sled_queues.specs.Events.{Turn}
use Rattle.sled.specs.Values.{DbValue}
use Rattle.machine_alone.specs.Values.{MachineValue}
use Rattle.machine_shared.specs.Made.{MadeValue, WholeMade}
use Rattle.machine_shared.specs.Wholes as value
use Rattle.call_laws.specs.Calls.{MakesCalls, IsRecord}
use Rattle.call_laws.specs.Hears.{turns_of_group, BringsAlone}

-- what is a record of the calls up to now is one of all calls after more of them
abbrev pub RecordLaw : {P M : Type 0} → (P → Store) → (P → ℕ) → (M → Merge) → Type 0
RecordLaw {P} {M} store flush_number meant = (a b : MachineValue P M) (opening : List Content) (earlier : List Maps) (before made : List MadeValue) → IsRecord store a opening earlier before → MakesCalls store flush_number meant a made b
    → IsRecord store b opening earlier (before ++ made)

-- calls and then more calls are calls
abbrev pub JoinedLaw : {P M : Type 0} → (P → Store) → (P → ℕ) → (M → Merge) → Type 0
JoinedLaw {P} {M} store flush_number meant = (a m b : MachineValue P M) (made more : List MadeValue) → MakesCalls store flush_number meant a made m → MakesCalls store flush_number meant m more b → MakesCalls store flush_number meant a (made ++ more) b

-- what a transaction made that was committed: the group of what it wrote, and then the flush that it asked for, if it did
abbrev pub committed : List (Tree × Writes) → Bool → ℕ → List MadeValue
committed batches false number = WholeMade (value.Group batches) told.Done ∷ []
committed batches true number = WholeMade (value.Group batches) told.Done ∷ (WholeMade value.Flush (told.Number number) ∷ [])

-- What one made that was not: nothing. But if all that was refused is the flush that it asked for, it made the group of what it wrote
module _ {P M A E W : Type 0} {store : P → Store} {flush_number : P → ℕ} {meant : M → Merge} {tests : Error → Type 0} {reaches : Result (Commit A W) (TransactionError E) → Store → ℕ → Type 0} {batches_of : W → List (Tree × Writes)} {has_trees : Bool} {old : DbValue P M} {new : DbValue P M} where
  abbrev pub made_before_stop : {e : Error} → Stops store flush_number meant tests reaches batches_of has_trees old e new → List MadeValue
  made_before_stop (ByTest t same) = []
  made_before_stop (ByClosure runs) = []
  made_before_stop (ByGroup commit run runs refused quiet) = []
  made_before_stop (ByFlush commit run made makes asked refused) = committed (batches_of commit.writes) false 0

  abbrev pub uncommitted : (e : TransactionError E) → Fails store flush_number meant tests reaches batches_of has_trees old e new → List MadeValue
  uncommitted (Abort e) fails = []
  uncommitted (Storage e) fails = made_before_stop fails.is

  -- .. and subscribers get the events of that group alone
  abbrev pub turns_before_stop : {e : Error} → Stops store flush_number meant tests reaches batches_of has_trees old e new → List Turn
  turns_before_stop (ByTest t same) = []
  turns_before_stop (ByClosure runs) = []
  turns_before_stop (ByGroup commit run runs refused quiet) = []
  turns_before_stop (ByFlush commit run made makes asked refused) = turns_of_group store flush_number meant run (batches_of commit.writes)

  abbrev pub turns_uncommitted : (e : TransactionError E) → Fails store flush_number meant tests reaches batches_of has_trees old e new → List Turn
  turns_uncommitted (Abort e) fails = []
  turns_uncommitted (Storage e) fails = turns_before_stop fails.is

-- Whatever machine has the database, a transaction of a tree is calls of its owner. If it was committed it made the group of what it wrote,
-- with the flush that it asked for; if that flush was refused, the group alone; and else nothing. Subscribers get the events of that group
pub record TransactionLaw {P M F R A E : Type 0} (store : P → Store) (flush_number : P → ℕ) (meant : M → Merge) (says : Closure F (TransactionalTree P) R) (result_of : R → Answer A E) : Type 0 where
  pub made : (m : MachineValue P M) (new : DbValue P M) (f : F) (tree : Tree) (answer : A) → (t : TransactionMade store flush_number meant says result_of f m.db tree answer new)
      → (number : ℕ) × (calls : MakesCalls store flush_number meant m (committed ((tree, t.commit.writes) ∷ []) t.commit.flushes number) (record m { db = new })) × BringsAlone store flush_number meant calls (turns_of_group store flush_number meant t.run ((tree, t.commit.writes) ∷ []))
  pub not_made : (m : MachineValue P M) (new : DbValue P M) (f : F) (tree : Tree) (e : TransactionError E) → (t : TransactionNotMade store flush_number meant says result_of f m.db tree e new)
      → (calls : MakesCalls store flush_number meant m (uncommitted e t) (record m { db = new })) × BringsAlone store flush_number meant calls (turns_uncommitted e t)

-- .. and so is one of a list of trees
pub record ListLaw {P M F R A E : Type 0} (store : P → Store) (flush_number : P → ℕ) (meant : M → Merge) (says : Closure F (TransactionalTrees P) R) (result_of : R → Answer A E) : Type 0 where
  pub made : (m : MachineValue P M) (new : DbValue P M) (f : F) (trees : List Tree) (answer : A) → (t : ListMade store flush_number meant says result_of f m.db trees answer new)
      → (number : ℕ) × (calls : MakesCalls store flush_number meant m (committed (zip trees t.commit.writes) (has_trees trees && t.commit.flushes) number) (record m { db = new })) × BringsAlone store flush_number meant calls (turns_of_group store flush_number meant t.run (zip trees t.commit.writes))
  pub not_made : (m : MachineValue P M) (new : DbValue P M) (f : F) (trees : List Tree) (e : TransactionError E) → (t : ListNotMade store flush_number meant says result_of f m.db trees e new)
      → (calls : MakesCalls store flush_number meant m (uncommitted e t) (record m { db = new })) × BringsAlone store flush_number meant calls (turns_uncommitted e t)
