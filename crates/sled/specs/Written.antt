-- What batches, transactions and calls of closures make of the maps, and why they are refused. `Groups`, `Transactions` and `Fetch` have all
-- that is said of each, by what it does one after the other.
use Rattle.std.specs.Prelude.{◌≡◌, ◌⊎◌, ℕ, false, List, [], ◌∷◌, map, length, replicate, Option, Some, None, option_map, Ok, Err, if◌then◌else◌}
use Rattle.std.specs.List.{zip}
use Rattle.std.specs.FinMap.Entries.{find}
use Rattle.std.specs.Str.{bytes_eq}
use Rattle.std.specs.declared.vec.Vec.{Vec}
use Rattle.std.specs.declared.alloc.Global.{Global}
use Rattle.sled_nodes.specs.Order.{Key, key_cmp}
use Rattle.sled_nodes.specs.declared.error.Error.{Error}
use Rattle.sled_batch.specs.Batch.{Writes}
use Rattle.sled_store.specs.Store.{Store, now}
use Rattle.sled_store.specs.Crash.{crash_states}
use Rattle.sled_model.specs.Maps.{Map, Merge}
use Rattle.sled_model.specs.State.{maps_of}
use Rattle.sled_model.specs.Refusal.{must_refuse_of, cause_of_walk, cause_of, ToCall}
use Rattle.sled_model.specs.declared.tree.Tree.{Tree}
use Rattle.sled_model.specs.declared.call.Whole.TheVariants.{Flush}
use Rattle.tree_laws.specs.Contents.{trees_of}
use Rattle.tree_transactions.specs.Ids.{OnlyRaises}
use Rattle.tree_transactions.specs.Attempts.{Answer, Closure, Calls, tells_attempts}
use Rattle.tree_transactions.specs.declared.errors.ConflictableTransactionError.TheVariants as closure
use Rattle.tree_transactions.specs.declared.errors.TransactionError.{TransactionError}
use Rattle.tree_transactions.specs.declared.errors.TransactionError.TheVariants.{Abort, Storage}
use Rattle.tree_transactions.specs.declared.tree.TransactionalTree.{TransactionalTree}
use Rattle.tree_transactions.specs.declared.trees.TransactionalTrees.{TransactionalTrees}
use Rattle.sled.specs.Values.{DbValue, db_state}
use Rattle.sled.specs.Calls.{MustBeRefused}
use Rattle.sled.specs.Promises.{ChangesMap, with_value}
use Rattle.sled.specs.Wholes.{KeepsMaps, LeavesAfter}
use Rattle.sled.specs.Fetch as fetch
use Rattle.sled.specs.Transactions.{RefusesList}

-- ---- maps

-- the map after these writes, in their order
abbrev pub with_writes : Writes → Map → Map
with_writes [] map = map
with_writes (w ∷ ws) map = with_writes ws (with_value w.0 w.1 map)

-- the map of a name after these batches, in their order
abbrev pub map_after_batches : List (Tree × Writes) → Key → Option Map → Option Map
map_after_batches [] name map = map
map_after_batches (b ∷ bs) name map = map_after_batches bs name (if bytes_eq name b.0.name then option_map (with_writes b.1) map else map)

-- What was at the key was shown to the closure, which made this of it, and that is there now
pub record Updates {F : Type 0} (closure : fetch.Closure F) (f : F) (key : Key) (stood made : Option Key) (before after : Map) : Type 0 where
  pub shown : stood ≡ find key_cmp key before
  pub answer : Option (Vec ℕ Global)
  pub answers : fetch.Answers closure f stood (Ok answer)
  pub makes : made ≡ option_map (λ v. v.items) answer
  pub writes : after ≡ with_value key made before

module _ {P M : Type 0} (store : P → Store) (meant : M → Merge) where
  -- these writes are in the map of the tree. The maps of all others are as they were
  abbrev pub WritesMap : DbValue P M → Tree → Writes → DbValue P M → Type 0
  WritesMap old tree writes new = ChangesMap store meant old tree (λ before after. after ≡ with_writes writes before) new

  -- each map is what these batches make of it
  abbrev pub WritesMaps : DbValue P M → List (Tree × Writes) → DbValue P M → Type 0
  WritesMaps old batches new = (name : Key) → maps_of (db_state store meant new) name ≡ map_after_batches batches name (maps_of (db_state store meant old) name)

  -- no map changed, or the database is closed
  abbrev pub KeepsOrCloses : DbValue P M → DbValue P M → Type 0
  KeepsOrCloses old new = KeepsMaps store meant old new ⊎ ((db_state store meant new).is_open ≡ false)

  -- a crash may leave the maps of now too; or, after a flush, no others
  abbrev pub LeavesOrFlushes : DbValue P M → DbValue P M → Type 0
  LeavesOrFlushes old new = LeavesAfter store meant None old new ⊎ (map trees_of (crash_states (store new.pages)) ≡ maps_of (db_state store meant new) ∷ [])

-- ---- why a transaction is not made. Its parameters are the tests before it, how its closure's last attempt came out, and how one is made

module _ {P M A E W : Type 0} (store : P → Store) (meant : M → Merge) (tests : Error → Type 0) (attempts : Answer A E → W → Type 0) (makes : A → DbValue P M → Type 0) (old : DbValue P M) where
  -- before anything is written: by a test, as its closure was at last, or since that met as many conflicts as it may
  abbrev pub stops_early : Error → Type 0
  stops_early e = tests e ⊎ (((writes : W) × attempts (Err (closure.Storage e)) writes) ⊎ tells_attempts e)

  -- its flush is refused, and what it wrote stays
  pub record StopsLate (e : Error) (new : DbValue P M) : Type 0 where
    pub answer : A
    pub made : DbValue P M
    pub wrote : makes answer made
    pub cause : cause_of (db_state store meant made) (store made.pages) (store new.pages) (ToCall Flush) e
    pub keeps : KeepsMaps store meant made new

  -- It is given up, or is refused. Unless its flush is, nothing that it wrote is in a map
  abbrev pub not_made_as : TransactionError E → DbValue P M → Type 0
  not_made_as (Abort e) new = ((writes : W) × attempts (Err (closure.Abort e)) writes) × KeepsMaps store meant old new
  not_made_as (Storage e) new =
      (stops_early e × KeepsMaps store meant old new)
      ⊎ ((cause_of_walk (store old.pages) (store new.pages) e × KeepsOrCloses store meant old new)
      ⊎ StopsLate e new)

-- ---- transactions of a tree

module _ {P M F R A E : Type 0} (store : P → Store) (meant : M → Merge) (says : Closure F (TransactionalTree P) R) (result_of : R → Answer A E) (f : F) (old : DbValue P M) (tree : Tree) where
  -- The closure's last attempt. It was given the tree, which passes the tests, as it is and with nothing written, and answered so and left
  -- these writes
  pub record AttemptsOnTree (answer : Answer A E) (writes : Writes) : Type 0 where
    pub tested : must_refuse_of (db_state store meant old) (tree ∷ []) ≡ None
    pub given : TransactionalTree P
    pub root_is : (now (store old.pages)).roots tree.name ≡ Some given.root
    pub over : OnlyRaises (store old.pages) (store given.pages.now)
    pub empty : given.overlay ≡ []
    pub after : TransactionalTree P
    pub calls : Calls says result_of f given answer after
    pub writes_are : writes ≡ after.overlay

  -- the last attempt answered this, and what it wrote is in the map of the tree
  pub record WritesOnTree (answer : A) (new : DbValue P M) : Type 0 where
    pub writes : Writes
    pub attempt : AttemptsOnTree (Ok answer) writes
    pub changes : WritesMap store meant old tree writes new

  -- no transaction is made
  abbrev pub RefusesOnTree : TransactionError E → DbValue P M → Type 0
  RefusesOnTree e new = not_made_as store meant (MustBeRefused (must_refuse_of (db_state store meant old) (tree ∷ []))) AttemptsOnTree WritesOnTree old e new

-- ---- and of a list of trees

module _ {P M F R A E : Type 0} (store : P → Store) (meant : M → Merge) (says : Closure F (TransactionalTrees P) R) (result_of : R → Answer A E) (f : F) (old : DbValue P M) (trees : List Tree) where
  -- the closure's last attempt, with nothing written at any position
  pub record AttemptsOnList (answer : Answer A E) (writes : List Writes) : Type 0 where
    pub tested : must_refuse_of (db_state store meant old) trees ≡ None
    pub given : TransactionalTrees P
    pub roots_are : map (λ (t : Tree). (now (store old.pages)).roots t.name) trees ≡ map Some given.roots.now
    pub over : OnlyRaises (store old.pages) (store given.pages.now)
    pub empty : given.overlays ≡ replicate (length trees) []
    pub after : TransactionalTrees P
    pub calls : Calls says result_of f given answer after
    pub writes_are : writes ≡ after.overlays

  -- it answered this, and what it wrote at each position is in the map of the tree there
  pub record WritesOnList (answer : A) (new : DbValue P M) : Type 0 where
    pub writes : List Writes
    pub attempt : AttemptsOnList (Ok answer) writes
    pub changes : WritesMaps store meant old (zip trees writes) new

  -- no transaction is made
  abbrev pub RefusesOnList : TransactionError E → DbValue P M → Type 0
  RefusesOnList e new = not_made_as store meant (RefusesList (must_refuse_of (db_state store meant old) trees)) AttemptsOnList WritesOnList old e new
