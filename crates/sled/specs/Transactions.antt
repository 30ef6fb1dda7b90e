-- The outcome of a transaction: a closure is run on trees, and then what it wrote is made as a group.
use Rattle.std.specs.Prelude.{◌≡◌, ◌⊎◌, ℕ, ◌≤◌, true, false, Bool, ◌&&◌, List, [], ◌∷◌, map, Option, Some, None, Result, Ok, Err, slice_get}
use Rattle.std.specs.List.{zip}
use Rattle.std.specs.Option.{unwrap_or}
use Rattle.std.specs.FinMap.Entries.{find}
use denote.Ref.{Bor, MutBor}
use Rattle.sled_nodes.specs.Order.{Key, key_cmp}
use Rattle.sled_nodes.specs.declared.error.Error.{Error}
use Rattle.sled_nodes.specs.declared.error.Error.TheVariants.{Unsupported, NoMemory}
use Rattle.sled_nodes.specs.declared.texts.TheConstants.{TREES_OF_SEVERAL_DATABASES}
use Rattle.sled_batch.specs.Batch.{Writes}
use Rattle.sled_store.specs.Store.{Store, now}
use Rattle.sled_store.specs.Crash.{crash_states}
use Rattle.sled_model.specs.Maps.{Merge}
use Rattle.sled_model.specs.State.{CallInFlight}
use Rattle.sled_model.specs.Refusal.{MustRefuse, IsClosed, IsForeign, IsDropped, HasNoOperator, must_refuse_of, tells}
use Rattle.sled_model.specs.declared.tree.Tree.{Tree}
use Rattle.tree_transactions.specs.Ids.{OnlyRaises}
use Rattle.tree_transactions.specs.Attempts.{Answer, Closure, CanBegin}
use Rattle.tree_transactions.specs.Transactions.{Begins, BeginsAll, Transacts, TransactsAll}
use Rattle.tree_transactions.specs.Trees.{Shows, RefusesToShow, RefusedFor}
use Rattle.tree_transactions.specs.Positions.{ShowsAt, RefusesToShowAt}
use Rattle.tree_transactions.specs.declared.attempts.Commit.{Commit}
use Rattle.tree_transactions.specs.declared.errors.UnabortableTransactionError.{UnabortableTransactionError}
use Rattle.tree_transactions.specs.declared.errors.TransactionError.{TransactionError}
use Rattle.tree_transactions.specs.declared.errors.TransactionError.TheVariants.{Abort, Storage}
use Rattle.tree_transactions.specs.declared.tree.TransactionalTree.{TransactionalTree}
use Rattle.tree_transactions.specs.declared.trees.TransactionalTrees.{TransactionalTrees}
use Rattle.sled.specs.Values.{DbValue, state_of, db_state}
use Rattle.sled.specs.Sound.{IsDb}
use Rattle.sled.specs.Calls.{MustBeRefused}
use Rattle.tree_reads.specs.Walk.{once}
use Rattle.sled.specs.Reads.{ReadsMap, RefusesReading, GivesUpGet}
use Rattle.sled.specs.Direct.{LeavesAll}
use Rattle.sled.specs.Flush.{FlushesDb, RefusesFlush}
use Rattle.sled.specs.Groups.{GroupDecided, GroupRefused, IsQuietGroup}

-- Ids may have been set aside and taken, a refusal to set more aside was passed over, and nothing else changes
pub record TakesIds {P M : Type 0} (store : P → Store) (meant : M → Merge) (old new : DbValue P M) : Type 0 where
  pub only : OnlyRaises (store old.pages) (store new.pages)
  pub rises : old.greatest_id ≤ new.greatest_id
  pub same : new ≡ record old { pages = new.pages; greatest_id = new.greatest_id }
  pub state : (slots : ℕ → Option CallInFlight) (slots_given : ℕ) → state_of store meant new slots slots_given ≡ record (state_of store meant old slots slots_given) { greatest_id = new.greatest_id; mark = (store new.pages).mark }
  pub leaves : LeavesAll store [] None old new
  pub left : crash_states (store new.pages) ≡ crash_states (store old.pages)

-- a flush if one is asked for
abbrev pub flushes_as : {P M : Type 0} → (P → Store) → (P → ℕ) → (M → Merge) → Bool → DbValue P M → DbValue P M → Type 0
flushes_as store flush_number meant false old new = new ≡ old
flushes_as store flush_number meant true old new = (number : ℕ) × FlushesDb store flush_number meant old number new

-- the closure of a transaction was run to this end, with the ids of the database, and nothing is written so far
pub record RunsTo {P M A E W : Type 0} (store : P → Store) (meant : M → Merge) (reaches : Result (Commit A W) (TransactionError E) → Store → ℕ → Type 0) (old : DbValue P M) (ended : Result (Commit A W) (TransactionError E)) (new : DbValue P M) : Type 0 where
  pub runs : reaches ended (store new.pages) new.greatest_id
  pub takes : TakesIds store meant old new

-- .. or a test refused that, and nothing changed
abbrev pub runs_as : {P M A E W : Type 0} → (P → Store) → (M → Merge) → (Error → Type 0) → (Result (Commit A W) (TransactionError E) → Store → ℕ → Type 0) → DbValue P M → Result (Commit A W) (TransactionError E) → DbValue P M → Type 0
runs_as store meant tests reaches old (Ok commit) new = RunsTo store meant reaches old (Ok commit) new
runs_as store meant tests reaches old (Err (Abort e)) new = RunsTo store meant reaches old (Err (Abort e)) new
runs_as store meant tests reaches old (Err (Storage e)) new = (tests e × (new ≡ old)) ⊎ RunsTo store meant reaches old (Err (Storage e)) new

-- How a transaction ends. Its parameters are the tests before it, the end to which the closure was run, and the batches that are made from
-- what it wrote. And whether there are any trees: without trees a flush that is asked for is passed over
module _ {P M A E W : Type 0} (store : P → Store) (flush_number : P → ℕ) (meant : M → Merge) (tests : Error → Type 0) (reaches : Result (Commit A W) (TransactionError E) → Store → ℕ → Type 0) (batches_of : W → List (Tree × Writes)) (has_trees : Bool) (old : DbValue P M) where
  -- .. and what it wrote was made as a group, which does nothing if it brings no event
  pub record MakesWrites (commit : Commit A W) (run new : DbValue P M) : Type 0 where
    pub runs : RunsTo store meant reaches old (Ok commit) run
    pub group : GroupDecided store meant run (batches_of commit.writes) new
    pub quiet : IsQuietGroup store meant run (batches_of commit.writes) new

  -- The closure's last attempt answered this, what it wrote was made, and then the flush that it asked for, if it did
  pub record Commits (answer : A) (new : DbValue P M) : Type 0 where
    pub commit : Commit A W
    pub answers : commit.answer ≡ answer
    pub run : DbValue P M
    pub made : DbValue P M
    pub makes : MakesWrites commit run made
    pub flushes : flushes_as store flush_number meant (has_trees && commit.flushes) made new

  -- Why a transaction is refused, and what that leaves
  pub data Stops (e : Error) (new : DbValue P M) : Type 0 where
    -- a test refuses it, or there is no memory for the list of its roots, and nothing changes
    ByTest : tests e → new ≡ old → Stops e new
    -- its closure is refused, or met as many conflicts as it may, or there is no memory for what an attempt at a list would write, and
    -- nothing is written
    ByClosure : RunsTo store meant reaches old (Err (Storage e)) new → Stops e new
    -- the group of what it wrote is refused; if it brings no event it did nothing
    ByGroup : (commit : Commit A W) (run : DbValue P M) → RunsTo store meant reaches old (Ok commit) run → GroupRefused store meant run (batches_of commit.writes) e new → IsQuietGroup store meant run (batches_of commit.writes) new → Stops e new
    -- the flush is refused, and what it wrote stays
    ByFlush : (commit : Commit A W) (run made : DbValue P M) → MakesWrites commit run made → has_trees && commit.flushes ≡ true → RefusesFlush store meant made new e → Stops e new

  abbrev pub fails_as : TransactionError E → DbValue P M → Type 0
  fails_as (Abort e) new = RunsTo store meant reaches old (Err (Abort e)) new
  fails_as (Storage e) new = Stops e new

  -- The closure gave it up, and nothing is written; or it is refused
  pub record Fails (e : TransactionError E) (new : DbValue P M) : Type 0 where
    pub is : fails_as e new

-- ---- of one tree

-- no test fails, and the closure is run at the root of the tree
pub record RunsOnTree {P M F R A E : Type 0} (store : P → Store) (meant : M → Merge) (says : Closure F (TransactionalTree P) R) (result_of : R → Answer A E) (f : F) (old : DbValue P M) (tree : Tree) (ended : Result (Commit A Writes) (TransactionError E)) (new : Store) (next : ℕ) : Type 0 where
  pub tested : must_refuse_of (db_state store meant old) (tree ∷ []) ≡ None
  pub root : ℕ
  pub root_is : (now (store old.pages)).roots tree.name ≡ Some root
  pub runs : Transacts store says result_of f root (store old.pages) old.greatest_id ended new next

-- a call of the closure at the tree has what it requires
abbrev pub CanTransact : {P M : Type 0} → (P → Store) → (M → Merge) → (MutBor (TransactionalTree P) → Type 0) → DbValue P M → Tree → Type 0
CanTransact store meant requires_of old tree =
    must_refuse_of (db_state store meant old) (tree ∷ []) ≡ None → (root : ℕ) → (now (store old.pages)).roots tree.name ≡ Some root → CanBegin (Begins store root) requires_of (store old.pages) old.greatest_id

-- the tests before a transaction of the tree
abbrev pub tests_tree : {P M : Type 0} → (P → Store) → (M → Merge) → DbValue P M → Tree → Error → Type 0
tests_tree store meant old tree e = MustBeRefused (must_refuse_of (db_state store meant old) (tree ∷ [])) e

-- the closure of a transaction of the tree is run, and nothing is written
abbrev pub TransactionRuns : {P M F R A E : Type 0} → (P → Store) → (M → Merge) → Closure F (TransactionalTree P) R → (R → Answer A E) → F → DbValue P M → Tree → Result (Commit A Writes) (TransactionError E) → DbValue P M → Type 0
TransactionRuns store meant says result_of f old tree ended new = runs_as store meant (tests_tree store meant old tree) (RunsOnTree store meant says result_of f old tree) old ended new

module _ {P M F R A E : Type 0} (store : P → Store) (flush_number : P → ℕ) (meant : M → Merge) (says : Closure F (TransactionalTree P) R) (result_of : R → Answer A E) (f : F) (old : DbValue P M) (tree : Tree) where
  abbrev pub batch_of : Writes → List (Tree × Writes)
  batch_of writes = (tree, writes) ∷ []

  -- a transaction of the tree is made, with this answer
  abbrev pub TransactionMade : A → DbValue P M → Type 0
  TransactionMade answer new = Commits store flush_number meant (tests_tree store meant old tree) (RunsOnTree store meant says result_of f old tree) batch_of true old answer new

  -- .. or it is aborted or refused
  abbrev pub TransactionNotMade : TransactionError E → DbValue P M → Type 0
  TransactionNotMade e new = Fails store flush_number meant (tests_tree store meant old tree) (RunsOnTree store meant says result_of f old tree) batch_of true old e new

-- ---- of a list of trees

-- in a list a tree of another database has a text of its own
abbrev pub tells_of_list : MustRefuse → Error → Type 0
tells_of_list IsForeign (Unsupported text) = text.now ≡ TREES_OF_SEVERAL_DATABASES.now
tells_of_list IsForeign e = ⊥
tells_of_list IsClosed e = tells IsClosed e
tells_of_list (IsDropped name) e = tells (IsDropped name) e
tells_of_list HasNoOperator e = tells HasNoOperator e

abbrev pub list_is_refused_as : Option MustRefuse → Error → Type 0
list_is_refused_as None e = e ≡ NoMemory
list_is_refused_as (Some must) e = tells_of_list must e

-- a list is refused by the first of the tests that fails, and if none fails for want of memory
pub record RefusesList (must : Option MustRefuse) (e : Error) : Type 0 where
  pub is : list_is_refused_as must e

-- the trees of a list
abbrev pub trees_of_list : List (Bor Tree) → List Tree
trees_of_list trees = map (λ t. t.now) trees

abbrev pub has_trees : List Tree → Bool
has_trees [] = false
has_trees (t ∷ ts) = true

-- no test fails, and the closure is run at the roots of the trees
pub record RunsOnList {P M F R A E : Type 0} (store : P → Store) (meant : M → Merge) (says : Closure F (TransactionalTrees P) R) (result_of : R → Answer A E) (f : F) (old : DbValue P M) (trees : List Tree) (ended : Result (Commit A (List Writes)) (TransactionError E)) (new : Store) (next : ℕ) : Type 0 where
  pub tested : must_refuse_of (db_state store meant old) trees ≡ None
  pub roots : List ℕ
  pub roots_are : map (λ (t : Tree). (now (store old.pages)).roots t.name) trees ≡ map Some roots
  pub runs : TransactsAll store says result_of f roots (store old.pages) old.greatest_id ended new next

-- a call of the closure at the trees has what it requires
abbrev pub CanTransactAll : {P M : Type 0} → (P → Store) → (M → Merge) → (MutBor (TransactionalTrees P) → Type 0) → DbValue P M → List Tree → Type 0
CanTransactAll store meant requires_of old trees =
    must_refuse_of (db_state store meant old) trees ≡ None → (roots : List ℕ) → map (λ (t : Tree). (now (store old.pages)).roots t.name) trees ≡ map Some roots → CanBegin (BeginsAll store roots) requires_of (store old.pages) old.greatest_id

-- the tests before a transaction of the trees, or there is no memory for the list of their roots
abbrev pub tests_list : {P M : Type 0} → (P → Store) → (M → Merge) → DbValue P M → List Tree → Error → Type 0
tests_list store meant old trees e = RefusesList (must_refuse_of (db_state store meant old) trees) e

-- the closure of a transaction of the trees is run, and nothing is written
abbrev pub ListRuns : {P M F R A E : Type 0} → (P → Store) → (M → Merge) → Closure F (TransactionalTrees P) R → (R → Answer A E) → F → DbValue P M → List Tree → Result (Commit A (List Writes)) (TransactionError E) → DbValue P M → Type 0
ListRuns store meant says result_of f old trees ended new = runs_as store meant (tests_list store meant old trees) (RunsOnList store meant says result_of f old trees) old ended new

module _ {P M F R A E : Type 0} (store : P → Store) (flush_number : P → ℕ) (meant : M → Merge) (says : Closure F (TransactionalTrees P) R) (result_of : R → Answer A E) (f : F) (old : DbValue P M) (trees : List Tree) where
  -- a transaction of the trees is made, with this answer: of each tree what was written at its position, in the order of the list
  abbrev pub ListMade : A → DbValue P M → Type 0
  ListMade answer new = Commits store flush_number meant (tests_list store meant old trees) (RunsOnList store meant says result_of f old trees) (zip trees) (has_trees trees) old answer new

  -- .. or it is aborted or refused
  abbrev pub ListNotMade : TransactionError E → DbValue P M → Type 0
  ListNotMade e new = Fails store flush_number meant (tests_list store meant old trees) (RunsOnList store meant says result_of f old trees) (zip trees) (has_trees trees) old e new

-- ---- reads inside, as reads of the map

-- what a read of a key shows inside a transaction of a tree that passes the tests is its own write of the key, and if there is none the
-- value in the tree's map
abbrev pub ShowsLaw : {P M : Type 0} → (P → Store) → (M → Merge) → Type 0
ShowsLaw {P} {M} store meant = (d : DbValue P M) (tree : Tree) (given : TransactionalTree P) (key : Key) (value : Option Key) → IsDb store d
    → must_refuse_of (db_state store meant d) (tree ∷ []) ≡ None → (now (store d.pages)).roots tree.name ≡ Some given.root → OnlyRaises (store d.pages) (store given.pages.now)
    → Shows store given key value → ReadsMap store meant d tree (λ pairs. value ≡ unwrap_or (find key_cmp key given.overlay) (find key_cmp key pairs))

-- .. and inside one of a list of trees that pass them, at the position of the tree
abbrev pub ShowsAtLaw : {P M : Type 0} → (P → Store) → (M → Merge) → Type 0
ShowsAtLaw {P} {M} store meant = (d : DbValue P M) (trees : List Tree) (given : TransactionalTrees P) (position : ℕ) (tree : Tree) (key : Key) (value : Option Key) → IsDb store d
    → must_refuse_of (db_state store meant d) trees ≡ None → map (λ (t : Tree). (now (store d.pages)).roots t.name) trees ≡ map Some given.roots.now → OnlyRaises (store d.pages) (store given.pages.now)
    → slice_get trees position ≡ Some tree → ShowsAt store given position key value
    → (overlay : Writes) × (slice_get given.overlays position ≡ Some overlay) × ReadsMap store meant d tree (λ pairs. value ≡ unwrap_or (find key_cmp key overlay) (find key_cmp key pairs))

-- Why a read of a key is refused inside: if there is a write of it, for want of memory alone; and else as a read of the database is
pub record RefusesInside {P M : Type 0} (store : P → Store) (meant : M → Merge) (d : DbValue P M) (tree : Tree) (overlay : Writes) (key : Key) (e : Error) : Type 0 where
  pub own : (written : Option Key) → find key_cmp key overlay ≡ Some written → e ≡ NoMemory
  pub reading : RefusesReading store meant d tree once e
  pub gives_up : GivesUpGet store meant d tree key e

-- so it is inside a transaction of a tree that passes the tests,
abbrev pub RefusesToShowLaw : {P M : Type 0} → (P → Store) → (M → Merge) → Type 0
RefusesToShowLaw {P} {M} store meant = (d : DbValue P M) (tree : Tree) (given : TransactionalTree P) (key : Key) (e : UnabortableTransactionError) → IsDb store d
    → must_refuse_of (db_state store meant d) (tree ∷ []) ≡ None → (now (store d.pages)).roots tree.name ≡ Some given.root → OnlyRaises (store d.pages) (store given.pages.now)
    → RefusesToShow store given key e → RefusedFor (RefusesInside store meant d tree given.overlay key) e

-- .. and inside one of a list of trees that pass them, at the position of the tree, if there is a list of writes for it
abbrev pub RefusesToShowAtLaw : {P M : Type 0} → (P → Store) → (M → Merge) → Type 0
RefusesToShowAtLaw {P} {M} store meant = (d : DbValue P M) (trees : List Tree) (given : TransactionalTrees P) (position : ℕ) (tree : Tree) (overlay : Writes) (key : Key) (e : UnabortableTransactionError) → IsDb store d
    → must_refuse_of (db_state store meant d) trees ≡ None → map (λ (t : Tree). (now (store d.pages)).roots t.name) trees ≡ map Some given.roots.now → OnlyRaises (store d.pages) (store given.pages.now)
    → slice_get trees position ≡ Some tree → slice_get given.overlays position ≡ Some overlay → RefusesToShowAt store given position key e
    → RefusedFor (RefusesInside store meant d tree overlay key) e
