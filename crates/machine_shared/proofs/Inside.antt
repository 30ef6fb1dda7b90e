-- What the closure of a transaction read.
use Rattle.std.proofs.Common.{◌≡◌, ◌∙◌, ◌≤◌, ℕ, arith, Bool, List, [], map, length, replicate, Option, Some, Result, Ok, Err, sym, refl, ap, subst, inl, inr}
use Rattle.std.specs.Option.{unwrap_or}
use Rattle.std.specs.FinMap.Entries.{find}
use Rattle.sled_nodes.specs.Order.{Key, key_cmp}
use Rattle.sled_nodes.specs.declared.error.Error.{Error}
use Rattle.sled_nodes.specs.declared.error.Error.TheVariants.{NoMemory}
use Rattle.sled_batch.specs.Batch.{Writes}
use Rattle.sled_store.specs.Store.{Store}
use Rattle.sled_model.specs.Maps.{Merge}
use Rattle.sled_model.specs.State.{maps_of}
use Rattle.sled_model.specs.declared.tree.Tree.{Tree}
use Rattle.tree_transactions.specs.Attempts.{Answer, Closure, Conflicts, Ends, Left, NoConflict, OneConflict}
use Rattle.tree_transactions.specs.Ids.{OnlyRaises, SetsAside, sets_aside_for}
use Rattle.tree_transactions.specs.Transactions.{Begins, BeginsAll, left_of_tree, left_of_trees}
use Rattle.tree_transactions.specs.declared.attempts.Commit.{Commit}
use Rattle.tree_transactions.specs.declared.errors.ConflictableTransactionError.TheVariants as closure
use Rattle.tree_transactions.specs.declared.errors.TransactionError.{TransactionError}
use Rattle.tree_transactions.specs.declared.errors.TransactionError.TheVariants.{Abort, Storage}
use Rattle.tree_transactions.specs.declared.tree.TransactionalTree.{TransactionalTree}
use Rattle.tree_transactions.specs.declared.trees.TransactionalTrees.{TransactionalTrees}
use Rattle.sled.specs.Reads.{ReadsMap}
use Rattle.sled.specs.Sound.{IsDb}
use Rattle.sled.specs.Transactions.{RunsOnList, RunsOnTree}
use Rattle.sled.specs.Values.{DbValue, db_state}
use Rattle.sled.proofs.Transacting.{shows, shows_at}
use Rattle.machine_shared.specs.Inside.{CallsOver, CallsOverAll, ReadsOver, ReadsOverAll, RunsOver, RunsOverAll, ends_by}
use Rattle.machine_shared.specs.Stood.{found_in}
use Rattle.machine_shared.specs.Transactions.{RunsAllIn, RunsIn}
use Rattle.machine_shared.specs.theory.Transacting.{ran_as}
use Rattle.machine_shared.proofs.WholeMakes.{there_map}

module _ {F T R A E W : Type 0} (says : Closure F T R) (result_of : R → Answer A E) (f : F) (raises : ℕ → Store → Store → Type 0) (begins : Store → ℕ → T → Type 0) (left_of : T → Left W) where
  -- no attempt takes an id back
  conflicts_rise : (old : Store) (here count : ℕ) (new : Store) (next : ℕ) → Conflicts says result_of f raises begins left_of old here count new next → here ≤ next
  conflicts_rise old here count new next NoConflict = omega arith
  conflicts_rise old here count new next (OneConflict {count = before_it} {mid = mid} {here = between} writes flushes before one) =
      let low = conflicts_rise old here before_it mid between before in
      let high = one.ids.rises in
      omega (arith, low, high)

module _ {P M : Type 0} (store : P → Store) (meant : M → Merge) (d : DbValue P M) (sound : IsDb store d) where
  -- what is in the map of a tree, by the maps
  in_maps : (tree : Tree) (key : Key) (value : Option Key) (overlay : Writes) → ReadsMap store meant d tree (λ pairs. value ≡ unwrap_or (find key_cmp key overlay) (find key_cmp key pairs))
      → value ≡ unwrap_or (find key_cmp key overlay) (found_in (maps_of (db_state store meant d) tree.name) key)
  in_maps tree key value overlay r = r.is ∙ ap (λ o. unwrap_or (find key_cmp key overlay) o) (sym (ap (λ o. found_in o key) (there_map (db_state store meant d) tree.name r.named r.there)))

  module _ {F R A E : Type 0} (result_of : R → Answer A E) (f : F) where
    over : (says : Closure F (TransactionalTree P) R) (tree : Tree) (ended : Result (Commit A Writes) (TransactionError E)) (new : Store) (next : ℕ) (r : RunsOnTree store meant says result_of f d tree ended new next) (answer : Answer A E) (writes : Writes) (flushes : Bool)
        → Ends says result_of f SetsAside (Begins store r.root) left_of_tree (store d.pages) d.greatest_id answer writes flushes new next → CallsOver store says result_of f tree (maps_of (db_state store meant d)) d.greatest_id answer writes flushes
    over says tree ended new next r answer writes flushes e = record {
      given = e.last.given;
      after = e.last.after;
      empty = e.last.fresh.empty;
      above = subst (λ n. d.greatest_id ≤ n) (sym e.last.fresh.greatest_is) (conflicts_rise says result_of f SetsAside (Begins store r.root) left_of_tree (store d.pages) d.greatest_id e.count e.mid e.here e.before);
      reads = reads;
      calls = e.last.calls;
      writes_are = e.last.writes_are;
      flushes_is = e.last.flushes_is;
    }
      where
        reads : ReadsOver store (maps_of (db_state store meant d)) tree e.last.given
        reads at key value pages root shown = in_maps tree key value at.overlay
            (shows store meant d tree at key value sound r.tested
            (r.root_is ∙ ap (λ n. Some n) (sym (root ∙ e.last.fresh.root_is)))
            (subst (λ s. OnlyRaises (store d.pages) s) (sym (ap store pages ∙ e.last.fresh.over)) e.only)
            shown)

    over_all : (says : Closure F (TransactionalTrees P) R) (trees : List Tree) (ended : Result (Commit A (List Writes)) (TransactionError E)) (new : Store) (next : ℕ) (r : RunsOnList store meant says result_of f d trees ended new next) (answer : Answer A E) (writes : List Writes) (flushes : Bool)
        → Ends says result_of f (sets_aside_for r.roots) (BeginsAll store r.roots) left_of_trees (store d.pages) d.greatest_id answer writes flushes new next → CallsOverAll store says result_of f trees (maps_of (db_state store meant d)) d.greatest_id answer writes flushes
    over_all says trees ended new next r answer writes flushes e = record {
      given = e.last.given;
      after = e.last.after;
      empty = e.last.fresh.empty ∙ ap (λ (rs : List ℕ). replicate (length rs) []) (sym e.last.fresh.roots_are);
      above = subst (λ n. d.greatest_id ≤ n) (sym e.last.fresh.greatest_is) (conflicts_rise says result_of f (sets_aside_for r.roots) (BeginsAll store r.roots) left_of_trees (store d.pages) d.greatest_id e.count e.mid e.here e.before);
      reads = reads;
      calls = e.last.calls;
      writes_are = e.last.writes_are;
      flushes_is = e.last.flushes_is;
    }
      where
        reads : ReadsOverAll store (maps_of (db_state store meant d)) trees e.last.given
        reads at position tree key value pages roots there shown =
            let found = shows_at store meant d trees at position tree key value sound r.tested
            (r.roots_are ∙ ap (λ (rs : List ℕ). map Some rs) (sym (roots ∙ e.last.fresh.roots_are)))
            (subst (λ s. OnlyRaises (store d.pages) s) (sym (ap store pages ∙ e.last.fresh.over)) e.only)
            there shown in
            (found.0, found.1, in_maps tree key value found.0 found.2)

no_commit : {A W E X : Type 0} (ended : Result (Commit A W) (TransactionError E)) (c : Commit A W) (e : Error) → ended ≡ Ok c → ended ≡ Err (Storage e) → X
no_commit ended c e f g = cc

no_abort : {A W E X : Type 0} (ended : Result (Commit A W) (TransactionError E)) (a : E) (e : Error) → ended ≡ Err (Abort a) → ended ≡ Err (Storage e) → X
no_abort ended a e f g = cc

module _ {P M F R A E : Type 0} (store : P → Store) (meant : M → Merge) (result_of : R → Answer A E) (f : F) (d : DbValue P M) where
  module _ (says : Closure F (TransactionalTree P) R) (tree : Tree) where
    last_of : (ended : Result (Commit A Writes) (TransactionError E)) (after : DbValue P M) → RunsIn store meant says result_of f tree d ended after → ends_by (CallsOver store says result_of f tree (maps_of (db_state store meant d)) d.greatest_id) ended
    last_of (Ok commit) after r = over store meant d r.sound result_of f says tree (Ok commit) (store after.pages) after.greatest_id r.runs.runs (Ok commit.answer) commit.writes commit.flushes r.runs.runs.runs.is
    last_of (Err (Abort e)) after r = let x = r.runs.runs.runs.is in (x.0, x.1, over store meant d r.sound result_of f says tree (Err (Abort e)) (store after.pages) after.greatest_id r.runs.runs (Err (closure.Abort e)) x.0 x.1 x.2)
    last_of (Err (Storage e)) after r = tt

    -- what a closure read that was run
    pub runs_over : (ended : Result (Commit A Writes) (TransactionError E)) (after : DbValue P M) → RunsIn store meant says result_of f tree d ended after → RunsOver store meant says result_of f tree d ended after
    runs_over ended after r = record { runs = r; last = last_of ended after r }

    pub ran_over : (tests : Error → Type 0) (ended : Result (Commit A Writes) (TransactionError E)) (after : DbValue P M) → ran_as tests (RunsIn store meant says result_of f tree d) d ended after → ran_as tests (RunsOver store meant says result_of f tree d) d ended after
    ran_over tests (Ok commit) after r = runs_over (Ok commit) after r
    ran_over tests (Err (Abort e)) after r = runs_over (Err (Abort e)) after r
    ran_over tests (Err (Storage e)) after (inl t) = inl t
    ran_over tests (Err (Storage e)) after (inr r) = inr (runs_over (Err (Storage e)) after r)

  module _ (says : Closure F (TransactionalTrees P) R) (trees : List Tree) where
    last_of_all : (ended : Result (Commit A (List Writes)) (TransactionError E)) (after : DbValue P M) → RunsAllIn store meant says result_of f trees d ended after → ends_by (CallsOverAll store says result_of f trees (maps_of (db_state store meant d)) d.greatest_id) ended
    last_of_all (Ok commit) after r = elim r.runs.runs.runs.is [
      | inl x ↦ over_all store meant d r.sound result_of f says trees (Ok commit) (store after.pages) after.greatest_id r.runs.runs (Ok commit.answer) commit.writes commit.flushes x.is
      | inr x ↦ no_commit (Ok commit) commit NoMemory refl x.0
    ]
    last_of_all (Err (Abort e)) after r = elim r.runs.runs.runs.is [
      | inl x ↦ (x.is.0, x.is.1, over_all store meant d r.sound result_of f says trees (Err (Abort e)) (store after.pages) after.greatest_id r.runs.runs (Err (closure.Abort e)) x.is.0 x.is.1 x.is.2)
      | inr x ↦ no_abort (Err (Abort e)) e NoMemory refl x.0
    ]
    last_of_all (Err (Storage e)) after r = tt

    -- .. at a list of trees
    pub runs_over_all : (ended : Result (Commit A (List Writes)) (TransactionError E)) (after : DbValue P M) → RunsAllIn store meant says result_of f trees d ended after → RunsOverAll store meant says result_of f trees d ended after
    runs_over_all ended after r = record { runs = r; last = last_of_all ended after r }

    pub ran_over_all : (tests : Error → Type 0) (ended : Result (Commit A (List Writes)) (TransactionError E)) (after : DbValue P M) → ran_as tests (RunsAllIn store meant says result_of f trees d) d ended after → ran_as tests (RunsOverAll store meant says result_of f trees d) d ended after
    ran_over_all tests (Ok commit) after r = runs_over_all (Ok commit) after r
    ran_over_all tests (Err (Abort e)) after r = runs_over_all (Err (Abort e)) after r
    ran_over_all tests (Err (Storage e)) after (inl t) = inl t
    ran_over_all tests (Err (Storage e)) after (inr r) = inr (runs_over_all (Err (Storage e)) after r)
