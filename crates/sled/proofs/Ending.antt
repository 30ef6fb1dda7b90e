-- What a transaction makes of the maps, however it ends.
use Rattle.std.proofs.Common.{◌≡◌, ℕ, ◌<◌, ◌≤◌, Bool, true, false, ◌&&◌, not, cond, List, [], ◌∷◌, length, map, replicate, append-nil, Some, None, Result, Ok, Err, sym, refl, ap, ◌∙◌, subst, inl, inr, arith}
use Rattle.std.specs.List.{zip}
use Rattle.std.proofs.lemmas.List.{length-map}
use Rattle.sled_nodes.specs.declared.error.Error.{Error}
use Rattle.sled_nodes.specs.declared.error.Error.TheVariants as error
use Rattle.sled_batch.specs.Batch.{Writes}
use Rattle.sled_store.specs.State.{State, GroupEnds}
use Rattle.sled_store.specs.Store.{Store, now}
use Rattle.sled_store.specs.theory.Facts.{now_acted}
use Rattle.sled_model.specs.Maps.{Map, Maps, Merge}
use Rattle.sled_model.specs.State as model
use Rattle.sled_model.specs.State.{maps_of}
use Rattle.sled_model.specs.Refusal.{IsClosed, first_of, must_refuse_of, trees_of_batches, may_refuse_as, ToCall, cause_of_walk, cause_of}
use Rattle.sled_model.specs.declared.call.Whole.TheVariants.{Flush}
use Rattle.sled_model.specs.declared.tree.Tree.{Tree}
use Rattle.tree_transactions.specs.Ids.{OnlyRaises, SetsAside, sets_aside_for}
use Rattle.tree_transactions.specs.Attempts.{Answer, Closure, Ends}
use Rattle.tree_transactions.specs.Transactions.{Begins, BeginsAll, left_of_tree, left_of_trees}
use Rattle.tree_transactions.specs.declared.attempts.Commit.{Commit}
use Rattle.tree_transactions.specs.declared.errors.ConflictableTransactionError.TheVariants as closure
use Rattle.tree_transactions.specs.declared.errors.TransactionError.{TransactionError}
use Rattle.tree_transactions.specs.declared.errors.TransactionError.TheVariants.{Abort, Storage}
use Rattle.tree_transactions.specs.declared.tree.TransactionalTree.{TransactionalTree}
use Rattle.tree_transactions.specs.declared.trees.TransactionalTrees.{TransactionalTrees}
use Rattle.sled.specs.Values.{DbValue, db_state}
use Rattle.sled.specs.Sound.{IsDb}
use Rattle.sled.specs.Calls.{MustBeRefused}
use Rattle.sled.specs.Direct.{LeavesAll}
use Rattle.sled.specs.Flush.{RefusesFlush}
use Rattle.sled.specs.Groups.{GroupRefused}
use Rattle.sled.specs.Promises.{ChangesMap}
use Rattle.sled.specs.Transactions.{TakesIds, flushes_as, RunsTo, MakesWrites, Commits, Stops, ByTest, ByClosure, ByGroup, ByFlush, Fails, fails_as, RunsOnTree, RunsOnList, TransactionMade, TransactionNotMade, ListMade, ListNotMade, RefusesList, list_is_refused_as, has_trees}
use Rattle.sled.specs.Wholes.{KeepsMaps, LeavesAfter}
use Rattle.sled.specs.Written.{with_writes, map_after_batches, WritesMaps, LeavesOrFlushes, stops_early, not_made_as, AttemptsOnTree, WritesOnTree, RefusesOnTree, AttemptsOnList, WritesOnList, RefusesOnList}
use Rattle.sled.proofs.Conducting.{leaves_then, leaves_none}
use Rattle.sled.proofs.Grouped.{tested_open}
use Rattle.sled.proofs.Keeping.{flush_keeps, flush_leaves, flush_rests, group_leaves}
use Rattle.sled.proofs.Numbering.{leaves_rests}
use Rattle.sled.proofs.Transacting.{tested_zip}
use Rattle.sled.proofs.Writing.{group_writes, batch_writes}

-- ---- causes, over a store in which no id was set aside yet

cause_before : (a m b : Store) (e : Error) → OnlyRaises a m → cause_of_walk m b e → cause_of_walk a b e
cause_before a m b error.NoMemory only c = tt
cause_before a m b (error.Io fault) only (inl more) = inl (least only.faults more)
  where
    least : {x y z : ℕ} → x ≤ y → y < z → x < z
    least p q = omega arith
cause_before a m b (error.Io fault) only (inr (pid, off)) = inr (pid, ap (λ (s : Store). s.is_readable pid) (sym only.is) ∙ off)
cause_before a m b (error.ReportableBug text) only c = c
cause_before a m b other only c = c

module _ {P M : Type 0} (store : P → Store) (meant : M → Merge) where
  -- ---- maps that stay

  taken_keeps : (old run : DbValue P M) → TakesIds store meant old run → KeepsMaps store meant old run
  taken_keeps old run t = ap maps_of (t.state (λ n. None) 0)

  changes_between : (old run made new : DbValue P M) (tree : Tree) (claim : Map → Map → Type 0) → KeepsMaps store meant old run → ChangesMap store meant run tree claim made → KeepsMaps store meant made new → ChangesMap store meant old tree claim new
  changes_between old run made new tree claim before c after = record {
    before = c.before;
    was = ap (λ (m : Maps). m tree.name) (sym before) ∙ c.was;
    after = c.after;
    becomes = ap (λ (m : Maps). m tree.name) after ∙ c.becomes;
    is = c.is;
    others = λ name off. ap (λ (m : Maps). m name) after ∙ c.others name off ∙ ap (λ (m : Maps). m name) before;
  }

  -- ---- what a crash may leave

  leaves_unchanged : (old new : DbValue P M) → LeavesAll store [] None old new → LeavesAfter store meant None old new
  leaves_unchanged old new l = record { maps = []; each = λ m i. absurd i; leaves = l }

  module _ (flush_number : P → ℕ) where
    flushed_keeps : (b : Bool) (made new : DbValue P M) → flushes_as store flush_number meant b made new → KeepsMaps store meant made new
    flushed_keeps false made new e = ap (λ (d : DbValue P M). maps_of (db_state store meant d)) e
    flushed_keeps true made new (number, f) = flush_keeps store meant made new flush_number (Ok number) f tt

    flushed_leaves : (b : Bool) (old made new : DbValue P M) → LeavesAfter store meant None old made → flushes_as store flush_number meant b made new → LeavesOrFlushes store meant old new
    flushed_leaves false old made new l e = inl (subst (λ (d : DbValue P M). LeavesAfter store meant None old d) (sym e) l)
    flushed_leaves true old made new l (number, f) = inr (flush_leaves store meant made new flush_number (Ok number) f tt)

    unflushed_keeps : (made new : DbValue P M) (e : Error) → RefusesFlush store meant made new e → KeepsMaps store meant made new
    unflushed_keeps made new e r = flush_keeps store meant made new flush_number (Err e) tt r

    unflushed_leaves : (old made new : DbValue P M) (e : Error) → LeavesAfter store meant None old made → IsDb store made → RefusesFlush store meant made new e → LeavesAfter store meant None old new
    unflushed_leaves old made new e l db r = record {
      maps = l.maps;
      each = λ m i. l.each m i ∙ sym (unflushed_keeps made new e r);
      leaves = subst (λ maps. LeavesAll store maps None old new) (append-nil l.maps) (leaves_then store meant l.maps [] None old made new l.leaves db (subst (λ (d : DbValue P M). LeavesAll store [] None made d) (sym r.same) (leaves_rests store meant made new.pages (flush_rests store meant made new e r))));
    }

    -- ---- how it ends

    module _ {A E W : Type 0} (tests : Error → Type 0) (reaches : Result (Commit A W) (TransactionError E) → Store → ℕ → Type 0) (batches_of : W → List (Tree × Writes)) (has : Bool) (old : DbValue P M) where
      module _ (db : IsDb store old) where
        module _ (commit : Commit A W) (run made : DbValue P M) (m : MakesWrites store flush_number meant tests reaches batches_of has old commit run made) where
          made_sound : IsDb store made
          made_sound = m.group.leaves.sound (m.runs.takes.leaves.sound db)

          made_leaves : LeavesAfter store meant None old made
          made_leaves = let g = group_leaves store meant run made (batches_of commit.writes) {A = Unit {0}} (Ok tt) m.group tt in record {
            maps = g.maps;
            each = g.each;
            leaves = leaves_then store meant [] g.maps None old run made m.runs.takes.leaves (m.runs.takes.leaves.sound db) g.leaves;
          }

          made_open : (db_state store meant made).is_open ≡ true
          made_open = elim m.group.acts [
            | inl same ↦ ap (λ s. not (now s).in_group) same ∙ tested_open (db_state store meant run) (trees_of_batches (batches_of commit.writes)) (m.group.decides (λ n. None) 0).free
            | inr ends ↦ ap (λ s. not (now s).in_group) ends.2 ∙ ap (λ (s : State). not s.in_group) (now_acted GroupEnds ends.0)
          ]

          made_writes : WritesMaps store meant run (batches_of commit.writes) made
          made_writes = group_writes store meant run made (m.runs.takes.leaves.sound db) (batches_of commit.writes) m.group

        pub commits_leave : (answer : A) (new : DbValue P M) → Commits store flush_number meant tests reaches batches_of has old answer new → LeavesOrFlushes store meant old new
        commits_leave answer new c = flushed_leaves (has && c.commit.flushes) old c.made new (made_leaves c.commit c.run c.made c.makes) c.flushes

        stops_leave : (e : Error) (new : DbValue P M) → Stops store flush_number meant tests reaches batches_of has old e new → LeavesAfter store meant None old new
        stops_leave e new (ByTest t same) = subst (λ (d : DbValue P M). LeavesAfter store meant None old d) (sym same) (leaves_unchanged old old (leaves_none store meant old))
        stops_leave e new (ByClosure r) = leaves_unchanged old new r.takes.leaves
        stops_leave e new (ByGroup commit run r g quiet) = leaves_unchanged old new (leaves_then store meant [] [] None old run new r.takes.leaves (r.takes.leaves.sound db) (group_leaves store meant run new (batches_of commit.writes) {A = Unit {0}} (Err e) tt g))
        stops_leave e new (ByFlush commit run made m asked r) = unflushed_leaves old made new e (made_leaves commit run made m) (made_sound commit run made m) r

        fails_leave_as : (e : TransactionError E) (new : DbValue P M) → fails_as store flush_number meant tests reaches batches_of has old e new → LeavesAfter store meant None old new
        fails_leave_as (Abort e) new r = leaves_unchanged old new r.takes.leaves
        fails_leave_as (Storage e) new s = stops_leave e new s

        pub fails_leave : (e : TransactionError E) (new : DbValue P M) → Fails store flush_number meant tests reaches batches_of has old e new → LeavesOrFlushes store meant old new
        fails_leave e new f = inl (fails_leave_as e new f.is)

        -- what each end of the closure tells of its last attempt, and what is made of its writes
        module _ (attempts : Answer A E → W → Type 0) (makes : A → DbValue P M → Type 0)
            (tested : (commit : Commit A W) (s : Store) (n : ℕ) → reaches (Ok commit) s n → must_refuse_of (db_state store meant old) (trees_of_batches (batches_of commit.writes)) ≡ None)
            (given_up : (e : E) (s : Store) (n : ℕ) → reaches (Err (Abort e)) s n → (writes : W) × attempts (Err (closure.Abort e)) writes)
            (stopped : (e : Error) (s : Store) (n : ℕ) → reaches (Err (Storage e)) s n → stops_early store meant tests attempts makes old e)
            (made_is : (commit : Commit A W) (run made : DbValue P M) → MakesWrites store flush_number meant tests reaches batches_of has old commit run made → makes commit.answer made) where
          abbrev NotMade : TransactionError E → DbValue P M → Type 0
          NotMade e new = not_made_as store meant tests attempts makes old e new

          group_cause : (commit : Commit A W) (run new : DbValue P M) (e : Error) → RunsTo store meant reaches old (Ok commit) run → GroupRefused store meant run (batches_of commit.writes) e new → cause_of_walk (store old.pages) (store new.pages) e
          group_cause commit run new e r g = cause_before (store old.pages) (store run.pages) (store new.pages) e r.takes.only (
              subst (λ o. may_refuse_as o (cause_of_walk (store run.pages) (store new.pages)) e) (ap (λ s. must_refuse_of s (trees_of_batches (batches_of commit.writes))) (r.takes.state (λ n. None) 0) ∙ tested commit (store run.pages) run.greatest_id r.runs) (g.refuses (λ n. None) 0).why
              )

          stops_so : (e : Error) (new : DbValue P M) → Stops store flush_number meant tests reaches batches_of has old e new → NotMade (Storage e) new
          stops_so e new (ByTest t same) = inl (inl t, ap (λ (d : DbValue P M). maps_of (db_state store meant d)) same)
          stops_so e new (ByClosure r) = inl (stopped e (store new.pages) new.greatest_id r.runs, taken_keeps old new r.takes)
          stops_so e new (ByGroup commit run r g quiet) = inr (inl (
            group_cause commit run new e r g,
            elim (g.refuses (λ n. None) 0).is [
              | inl same ↦ inl (ap maps_of same ∙ taken_keeps old run r.takes)
              | inr closed ↦ inr (ap (λ (s : model.State). s.is_open) closed.1.is)
            ],
          ))
          stops_so e new (ByFlush commit run made m asked r) = inr (inr (record {
            answer = commit.answer;
            made = made;
            wrote = made_is commit run made m;
            cause = subst (λ o. may_refuse_as o (cause_of (db_state store meant made) (store made.pages) (store new.pages) (ToCall Flush)) e) (ap (λ b. first_of (first_of (cond b None (Some IsClosed)) None) None) (made_open commit run made m)) (r.may (λ n. None) 0).is;
            keeps = unflushed_keeps made new e r;
          }))

          pub fails_so : (e : TransactionError E) (new : DbValue P M) → Fails store flush_number meant tests reaches batches_of has old e new → NotMade e new
          fails_so (Abort e) new f = (given_up e (store new.pages) new.greatest_id f.is.runs, taken_keeps old new f.is.takes)
          fails_so (Storage e) new f = stops_so e new f.is

-- ---- of one tree

module _ {P M F R A E : Type 0} (store : P → Store) (flush_number : P → ℕ) (meant : M → Merge) (says : Closure F (TransactionalTree P) R) (result_of : R → Answer A E) (f : F) (old : DbValue P M) (tree : Tree) (db : IsDb store old) where
  abbrev Reaches : Result (Commit A Writes) (TransactionError E) → Store → ℕ → Type 0
  Reaches = RunsOnTree store meant says result_of f old tree

  abbrev Attempts : Answer A E → Writes → Type 0
  Attempts = AttemptsOnTree store meant says result_of f old tree

  abbrev one_batch : Writes → List (Tree × Writes)
  one_batch writes = (tree, writes) ∷ []

  attempt_of : (root : ℕ) → must_refuse_of (db_state store meant old) (tree ∷ []) ≡ None → (now (store old.pages)).roots tree.name ≡ Some root → (answer : Answer A E) (writes : Writes) (flushes : Bool) (new : Store) (next : ℕ)
      → Ends says result_of f SetsAside (Begins store root) left_of_tree (store old.pages) old.greatest_id answer writes flushes new next → Attempts answer writes
  attempt_of root tested root_is answer writes flushes new next e = record {
    tested = tested;
    given = e.last.given;
    root_is = root_is ∙ ap Some (sym e.last.fresh.root_is);
    over = subst (λ s. OnlyRaises (store old.pages) s) (sym e.last.fresh.over) e.only;
    empty = e.last.fresh.empty;
    after = e.last.after;
    calls = e.last.calls;
    writes_are = e.last.writes_are;
  }

  wrote : (commit : Commit A Writes) (run made new : DbValue P M) → MakesWrites store flush_number meant (λ e. MustBeRefused (must_refuse_of (db_state store meant old) (tree ∷ [])) e) Reaches one_batch true old commit run made → KeepsMaps store meant made new
      → WritesOnTree store meant says result_of f old tree commit.answer new
  wrote commit run made new m after =
      let r = m.runs.runs in record {
        writes = commit.writes;
        attempt = attempt_of r.root r.tested r.root_is (Ok commit.answer) commit.writes commit.flushes (store run.pages) run.greatest_id r.runs.is;
        changes = changes_between store meant old run made new tree (λ before after. after ≡ with_writes commit.writes before) (taken_keeps store meant old run m.runs.takes)
            (batch_writes store meant run made tree commit.writes (m.group.decides (λ n. None) 0).free (made_writes store meant flush_number (λ e. MustBeRefused (must_refuse_of (db_state store meant old) (tree ∷ [])) e) Reaches one_batch true old db commit run made m)) after;
      }

  pub tree_makes : (answer : A) (new : DbValue P M) → TransactionMade store flush_number meant says result_of f old tree answer new → WritesOnTree store meant says result_of f old tree answer new
  tree_makes answer new c = subst (λ a. WritesOnTree store meant says result_of f old tree a new) c.answers (wrote c.commit c.run c.made new c.makes (flushed_keeps store meant flush_number (true && c.commit.flushes) c.made new c.flushes))

  pub tree_refuses : (e : TransactionError E) (new : DbValue P M) → TransactionNotMade store flush_number meant says result_of f old tree e new → RefusesOnTree store meant says result_of f old tree e new
  tree_refuses e new failed = fails_so store meant flush_number (λ e. MustBeRefused (must_refuse_of (db_state store meant old) (tree ∷ [])) e) Reaches one_batch true old db Attempts (WritesOnTree store meant says result_of f old tree)
      (λ commit s n r. r.tested)
      (λ e s n r. (r.runs.is.0, attempt_of r.root r.tested r.root_is (Err (closure.Abort e)) r.runs.is.0 r.runs.is.1 s n r.runs.is.2))
      (λ e s n r. elim r.runs.is [
        | inl ends ↦ inr (inl (ends.0, attempt_of r.root r.tested r.root_is (Err (closure.Storage e)) ends.0 ends.1 s n ends.2))
        | inr passes ↦ inr (inr passes.told)
      ])
      (λ commit run made m. wrote commit run made made m refl) e new failed

-- ---- and of a list of trees

module _ {P M F R A E : Type 0} (store : P → Store) (flush_number : P → ℕ) (meant : M → Merge) (says : Closure F (TransactionalTrees P) R) (result_of : R → Answer A E) (f : F) (old : DbValue P M) (trees : List Tree) (db : IsDb store old) where
  abbrev ReachesAll : Result (Commit A (List Writes)) (TransactionError E) → Store → ℕ → Type 0
  ReachesAll = RunsOnList store meant says result_of f old trees

  abbrev AttemptsAll : Answer A E → List Writes → Type 0
  AttemptsAll = AttemptsOnList store meant says result_of f old trees

  abbrev list_tests : Error → Type 0
  list_tests e = RefusesList (must_refuse_of (db_state store meant old) trees) e

  -- there are as many roots as trees
  as_many : (roots : List ℕ) → map (λ (t : Tree). (now (store old.pages)).roots t.name) trees ≡ map Some roots → length roots ≡ length trees
  as_many roots e = sym (length-map roots Some) ∙ ap length (sym e) ∙ length-map trees (λ (t : Tree). (now (store old.pages)).roots t.name)

  attempt_all : (roots : List ℕ) → must_refuse_of (db_state store meant old) trees ≡ None → map (λ (t : Tree). (now (store old.pages)).roots t.name) trees ≡ map Some roots
      → (answer : Answer A E) (writes : List Writes) (flushes : Bool) (new : Store) (next : ℕ)
      → Ends says result_of f (sets_aside_for roots) (BeginsAll store roots) left_of_trees (store old.pages) old.greatest_id answer writes flushes new next → AttemptsAll answer writes
  attempt_all roots tested roots_are answer writes flushes new next e = record {
    tested = tested;
    given = e.last.given;
    roots_are = roots_are ∙ ap (map Some) (sym e.last.fresh.roots_are);
    over = subst (λ s. OnlyRaises (store old.pages) s) (sym e.last.fresh.over) e.only;
    empty = e.last.fresh.empty ∙ ap (λ n. replicate n []) (as_many roots roots_are);
    after = e.last.after;
    calls = e.last.calls;
    writes_are = e.last.writes_are;
  }

  made_attempt : (commit : Commit A (List Writes)) (s : Store) (n : ℕ) → ReachesAll (Ok commit) s n → AttemptsAll (Ok commit.answer) commit.writes
  made_attempt commit s n r = elim r.runs.is [
    | inl runs ↦ attempt_all r.roots r.tested r.roots_are (Ok commit.answer) commit.writes commit.flushes s n runs.is
    | inr stops ↦ absurd (ok_is_err stops.0)
  ]
    where
      ok_is_err : {X Y : Type 0} {x : X} {y : Y} → Ok x ≡ Err y → ⊥
      ok_is_err e = cc

  all_wrote : (commit : Commit A (List Writes)) (run made new : DbValue P M) → MakesWrites store flush_number meant list_tests ReachesAll (zip trees) (has_trees trees) old commit run made → KeepsMaps store meant made new
      → WritesOnList store meant says result_of f old trees commit.answer new
  all_wrote commit run made new m after = record {
    writes = commit.writes;
    attempt = made_attempt commit (store run.pages) run.greatest_id m.runs.runs;
    changes = λ name. ap (λ (maps : Maps). maps name) after
        ∙ made_writes store meant flush_number list_tests ReachesAll (zip trees) (has_trees trees) old db commit run made m name
        ∙ ap (λ (maps : Maps). map_after_batches (zip trees commit.writes) name (maps name)) (taken_keeps store meant old run m.runs.takes);
  }

  pub list_makes : (answer : A) (new : DbValue P M) → ListMade store flush_number meant says result_of f old trees answer new → WritesOnList store meant says result_of f old trees answer new
  list_makes answer new c = subst (λ a. WritesOnList store meant says result_of f old trees a new) c.answers (all_wrote c.commit c.run c.made new c.makes (flushed_keeps store meant flush_number (has_trees trees && c.commit.flushes) c.made new c.flushes))

  pub list_refuses : (e : TransactionError E) (new : DbValue P M) → ListNotMade store flush_number meant says result_of f old trees e new → RefusesOnList store meant says result_of f old trees e new
  list_refuses e new failed = fails_so store meant flush_number list_tests ReachesAll (zip trees) (has_trees trees) old db AttemptsAll (WritesOnList store meant says result_of f old trees)
      (λ commit s n r. tested_zip (db_state store meant old) trees commit.writes r.tested)
      (λ e s n r. elim r.runs.is [
        | inl runs ↦ (runs.is.0, attempt_all r.roots r.tested r.roots_are (Err (closure.Abort e)) runs.is.0 runs.is.1 s n runs.is.2)
        | inr stops ↦ absurd (abort_is_storage stops.0)
      ])
      stopped
      (λ commit run made m. all_wrote commit run made made m refl) e new failed
    where
      abort_is_storage : {X : Type 0} {e : E} {cause : Error} → ◌≡◌ {A = Result X (TransactionError E)} (Err (Abort e)) (Err (Storage cause)) → ⊥
      abort_is_storage e = cc

      same_cause : {X : Type 0} {e cause : Error} → ◌≡◌ {A = Result X (TransactionError E)} (Err (Storage e)) (Err (Storage cause)) → e ≡ cause
      same_cause e = cc

      stopped : (e : Error) (s : Store) (n : ℕ) → ReachesAll (Err (Storage e)) s n → stops_early store meant list_tests AttemptsAll (WritesOnList store meant says result_of f old trees) old e
      stopped e s n r = elim r.runs.is [
        | inl runs ↦ elim runs.is [
          | inl ends ↦ inr (inl (ends.0, attempt_all r.roots r.tested r.roots_are (Err (closure.Storage e)) ends.0 ends.1 s n ends.2))
          | inr passes ↦ inr (inr passes.told)
        ]
        | inr stops ↦ inl (record { is = subst (λ o. list_is_refused_as o e) (sym r.tested) (same_cause stops.0) })
      ]
