-- A transaction is calls of its owner: its closure takes ids, what it wrote is made as a group, and a flush may follow.
use Rattle.std.proofs.Common.{ℕ, Bool, true, false, ◌&&◌, List, [], append-nil, Result, refl, sym, subst}
use Rattle.sled_nodes.specs.declared.error.Error.{Error}
use Rattle.sled_batch.specs.Batch.{Writes}
use Rattle.sled_store.specs.Store.{Store}
use Rattle.sled_model.specs.Maps.{Merge}
use Rattle.sled_model.specs.declared.tree.Tree.{Tree}
use Rattle.tree_transactions.specs.Attempts.{Answer, Closure}
use Rattle.tree_transactions.specs.declared.attempts.Commit.{Commit}
use Rattle.tree_transactions.specs.declared.errors.TransactionError.{TransactionError}
use Rattle.tree_transactions.specs.declared.errors.TransactionError.TheVariants.{Abort, Storage}
use Rattle.tree_transactions.specs.declared.tree.TransactionalTree.{TransactionalTree}
use Rattle.tree_transactions.specs.declared.trees.TransactionalTrees.{TransactionalTrees}
use Rattle.sled_queues.specs.Events.{Turn}
use Rattle.sled.specs.Transactions.{flushes_as, MakesWrites, Commits, Stops, ByTest, ByClosure, ByGroup, ByFlush, Fails}
use Rattle.sled.specs.Values.{DbValue}
use Rattle.machine_alone.specs.Values.{MachineValue}
use Rattle.machine_shared.specs.Made.{MadeValue}
use Rattle.call_laws.specs.Calls.{TookIds, DidGroup, GroupStopped, Flushed, FlushStopped, Called, MakesCalls, NoCall, OneCall}
use Rattle.call_laws.specs.Hears.{turns_of_group, BringsAlone}
use Rattle.call_laws.specs.Laws.{committed, made_before_stop, uncommitted, turns_before_stop, turns_uncommitted, TransactionLaw, ListLaw}

module _ {P M A E W : Type 0} (store : P → Store) (number : P → ℕ) (meant : M → Merge) (tests : Error → Type 0) (reaches : Result (Commit A W) (TransactionError E) → Store → ℕ → Type 0) (batches_of : W → List (Tree × Writes)) (has_trees : Bool) (m : MachineValue P M) where
  -- calls that bring just this
  abbrev Calls : List MadeValue → DbValue P M → List Turn → Type 0
  Calls made new turns = (calls : MakesCalls store number meant m made (record m { db = new })) × BringsAlone store number meant calls turns

  abbrev group_turns : DbValue P M → Commit A W → List Turn
  group_turns run commit = turns_of_group store number meant run (batches_of commit.writes)

  -- the group, and the flush where one is asked for
  flushed : (commit : Commit A W) (run made : DbValue P M) → MakesWrites store number meant tests reaches batches_of has_trees m.db commit run made → (b : Bool) (new : DbValue P M) → flushes_as store number meant b made new
      → (n : ℕ) × Calls (committed (batches_of commit.writes) b n) new (group_turns run commit)
  flushed commit run made k false new f = (
    0,
    subst (λ d. Calls (committed (batches_of commit.writes) false 0) d (group_turns run commit)) (sym f)
        (OneCall (Called (TookIds k.runs.takes)) (OneCall (Called (DidGroup k.group)) NoCall), record { turns_are = append-nil (group_turns run commit); told = λ n. refl }),
  )
  flushed commit run made k true new f = (
    f.0,
    (OneCall (Called (TookIds k.runs.takes)) (OneCall (Called (DidGroup k.group)) (OneCall (Called (Flushed f.1)) NoCall)), record { turns_are = append-nil (group_turns run commit); told = λ n. refl }),
  )

  pub commits : (answer : A) (new : DbValue P M) → (t : Commits store number meant tests reaches batches_of has_trees m.db answer new) → (n : ℕ) × Calls (committed (batches_of t.commit.writes) (has_trees && t.commit.flushes) n) new (group_turns t.run t.commit)
  commits answer new t = flushed t.commit t.run t.made t.makes (has_trees && t.commit.flushes) new t.flushes

  stops : (e : Error) (new : DbValue P M) → (k : Stops store number meant tests reaches batches_of has_trees m.db e new) → Calls (made_before_stop k) new (turns_before_stop k)
  stops e new (ByTest t same) = subst (λ d. Calls [] d []) (sym same) (NoCall, record { turns_are = refl; told = λ n. refl })
  stops e new (ByClosure k) = (OneCall (Called (TookIds k.takes)) NoCall, record { turns_are = refl; told = λ n. refl })
  stops e new (ByGroup commit run k g quiet) = (OneCall (Called (TookIds k.takes)) (OneCall (Called (GroupStopped g)) NoCall), record { turns_are = refl; told = λ n. refl })
  stops e new (ByFlush commit run made k asked f) = (
    OneCall (Called (TookIds k.runs.takes)) (OneCall (Called (DidGroup k.group)) (OneCall (Called (FlushStopped f)) NoCall)),
    record { turns_are = append-nil (group_turns run commit); told = λ n. refl },
  )

  pub fails : (e : TransactionError E) (new : DbValue P M) → (k : Fails store number meant tests reaches batches_of has_trees m.db e new) → Calls (uncommitted e k) new (turns_uncommitted e k)
  fails (Abort x) new k = (OneCall (Called (TookIds k.is.takes)) NoCall, record { turns_are = refl; told = λ n. refl })
  fails (Storage x) new k = stops x new k.is

module _ {P M F R A E : Type 0} (store : P → Store) (number : P → ℕ) (meant : M → Merge) where
  pub transacts : (says : Closure F (TransactionalTree P) R) (result_of : R → Answer A E) → TransactionLaw store number meant says result_of
  transacts says result_of = record {
    made = λ m new f tree answer t. let k = commits store number meant _ _ _ true m answer new t in (k.0, k.1.0, k.1.1);
    not_made = λ m new f tree e t. fails store number meant _ _ _ true m e new t;
  }

  pub transacts_all : (says : Closure F (TransactionalTrees P) R) (result_of : R → Answer A E) → ListLaw store number meant says result_of
  transacts_all says result_of = record {
    made = λ m new f trees answer t. let k = commits store number meant _ _ _ _ m answer new t in (k.0, k.1.0, k.1.1);
    not_made = λ m new f trees e t. fails store number meant _ _ _ _ m e new t;
  }
