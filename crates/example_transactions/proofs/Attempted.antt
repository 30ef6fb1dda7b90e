-- What the last attempt of a transaction was given and left, and what its reads show.
use Rattle.std.proofs.Common.{◌≡◌, ℕ, Bool, true, false, ◌&&◌, List, [], ◌∷◌, length, map, replicate, slice_get, Option, Some, None, option_map, unwrap_or, Result, Ok, Err, IfOk, OnOk, sym, refl, ap, ◌∙◌, subst, inl, inr}
use Rattle.std.proofs.lemmas.List.{length-map}
use Rattle.std.specs.FinMap.Entries.{find}
use Rattle.sled_nodes.proofs.Basics.{some_is, false_true}
use Rattle.sled_nodes.specs.Order.{Key, key_cmp}
use Rattle.sled_nodes.specs.declared.error.Error.{Error}
use Rattle.sled_batch.specs.Batch.{Writes}
use Rattle.sled_store.specs.Store.{Store, now}
use Rattle.sled_model.specs.Maps.{Merge}
use Rattle.sled_model.specs.Refusal.{must_refuse_of}
use Rattle.sled_model.specs.State.{NamedTree}
use Rattle.sled_model.specs.declared.tree.Tree.{Tree}
use Rattle.tree_transactions.specs.Attempts.{Answer, Closure, Calls, Ends}
use Rattle.tree_transactions.specs.Ids.{SetsAside, sets_aside_for, OnlyRaises}
use Rattle.tree_transactions.specs.Positions.{ShowsAt}
use Rattle.tree_transactions.specs.Transactions.{Begins, left_of_tree, BeginsAll, left_of_trees}
use Rattle.tree_transactions.specs.Trees.{Shows}
use Rattle.tree_transactions.specs.declared.attempts.Commit.{Commit}
use Rattle.tree_transactions.specs.declared.errors.ConflictableTransactionError.TheVariants as closure
use Rattle.tree_transactions.specs.declared.errors.TransactionError.{TransactionError}
use Rattle.tree_transactions.specs.declared.errors.TransactionError.TheVariants.{Abort, Storage}
use Rattle.tree_transactions.specs.declared.tree.TransactionalTree.{TransactionalTree}
use Rattle.tree_transactions.specs.declared.trees.TransactionalTrees.{TransactionalTrees}
use Rattle.sled.specs.Groups.{GroupDecided}
use Rattle.sled.specs.Reads.{ReadsMap}
use Rattle.sled.specs.Sound.{IsDb}
use Rattle.sled.specs.Transactions.{flushes_as, Commits, Stops, ByTest, ByClosure, ByGroup, ByFlush, RunsOnTree, RunsOnList, ShowsLaw, ShowsAtLaw}
use Rattle.sled.specs.Values.{DbValue, db_state}
use Rattle.example_parts.specs.Reads.{found_in, maps_now}
use Rattle.example_transactions.proofs.Made.{MakesGroup, Stopped, NotBegun, NotWritten, NotGrouped}

and_false : (b : Bool) → b && false ≡ false
and_false true = refl
and_false false = refl

ok_not_err : {Q X Y : Type 0} {x : X} {y : Y} → Ok x ≡ Err y → Q
ok_not_err e = cc

abort_not_storage : {Q X E : Type 0} {e : E} {cause : Error} → ◌≡◌ {A = Result X (TransactionError E)} (Err (Abort e)) (Err (Storage cause)) → Q
abort_not_storage e = cc

-- ---- what a result tells

pub on_ok : {X E : Type 0} (p : X → Type 0) (q : Type 0) → ((x : X) → p x → q) → (r : Result X E) → IfOk r p → OnOk r q
on_ok p q h (Ok x) k = h x k
on_ok p q h (Err e) k = tt

-- ---- a transaction that asks for no flush

module _ {P M A E W : Type 0} (store : P → Store) (flush_number : P → ℕ) (meant : M → Merge) (tests : Error → Type 0) (reaches : Result (Commit A W) (TransactionError E) → Store → ℕ → Type 0) (batches_of : W → List (Tree × Writes)) (has_trees : Bool) (old : DbValue P M)
    (quiet : (commit : Commit A W) (s : Store) (n : ℕ) → reaches (Ok commit) s n → commit.flushes ≡ false) where
  asks_none : (commit : Commit A W) (s : Store) (n : ℕ) → reaches (Ok commit) s n → has_trees && commit.flushes ≡ false
  asks_none commit s n r = ap (λ b. has_trees && b) (quiet commit s n r) ∙ and_false has_trees

  pub makes_group : (answer : A) (new : DbValue P M) (c : Commits store flush_number meant tests reaches batches_of has_trees old answer new) → MakesGroup store meant old (batches_of c.commit.writes) new
  makes_group answer new c = record {
    run = c.run;
    takes = c.makes.runs.takes;
    group = subst (λ d. GroupDecided store meant c.run (batches_of c.commit.writes) d) (sym unflushed) c.makes.group;
  }
    where
      unflushed : new ≡ c.made
      unflushed = subst (λ b. flushes_as store flush_number meant b c.made new) (asks_none c.commit (store c.run.pages) c.run.greatest_id c.makes.runs.runs) c.flushes

  pub stops_before : (e : Error) (new : DbValue P M) → Stops store flush_number meant tests reaches batches_of has_trees old e new → Stopped store meant old new
  stops_before e new (ByTest must same) = NotBegun same
  stops_before e new (ByClosure runs) = NotWritten runs.takes
  stops_before e new (ByGroup commit run runs refused calm) = NotGrouped run (batches_of commit.writes) e runs.takes refused
  stops_before e new (ByFlush commit run made makes asked refused) = false_true (sym (asks_none commit (store run.pages) run.greatest_id makes.runs.runs) ∙ asked)

-- ---- of one tree

module _ {P M F R A E : Type 0} (store : P → Store) (meant : M → Merge) (says : Closure F (TransactionalTree P) R) (result_of : R → Answer A E) (f : F) (old : DbValue P M) (tree : Tree) where
  -- the last attempt, which answered so
  pub record Last (answer : Answer A E) (writes : Writes) (flushes : Bool) : Type 0 where
    pub given : TransactionalTree P
    pub after : TransactionalTree P
    pub calls : Calls says result_of f given answer after
    pub tested : must_refuse_of (db_state store meant old) (tree ∷ []) ≡ None
    pub root : (now (store old.pages)).roots tree.name ≡ Some given.root
    pub over : OnlyRaises (store old.pages) (store given.pages.now)
    pub empty : given.overlay ≡ []
    pub unasked : given.flushes ≡ false
    pub writes_are : writes ≡ after.overlay
    pub flushes_are : flushes ≡ after.flushes

  last_of : (root : ℕ) → must_refuse_of (db_state store meant old) (tree ∷ []) ≡ None → (now (store old.pages)).roots tree.name ≡ Some root → (answer : Answer A E) (writes : Writes) (flushes : Bool) (new : Store) (next : ℕ)
      → Ends says result_of f SetsAside (Begins store root) left_of_tree (store old.pages) old.greatest_id answer writes flushes new next → Last answer writes flushes
  last_of root tested root-is answer writes flushes new next e = record {
    given = e.last.given;
    after = e.last.after;
    calls = e.last.calls;
    tested = tested;
    root = root-is ∙ ap Some (sym e.last.fresh.root_is);
    over = subst (λ s. OnlyRaises (store old.pages) s) (sym e.last.fresh.over) e.only;
    empty = e.last.fresh.empty;
    unasked = e.last.fresh.quiet;
    writes_are = e.last.writes_are;
    flushes_are = e.last.flushes_is;
  }

  pub last_made : (commit : Commit A Writes) (new : Store) (next : ℕ) → RunsOnTree store meant says result_of f old tree (Ok commit) new next → Last (Ok commit.answer) commit.writes commit.flushes
  last_made commit new next r = last_of r.root r.tested r.root_is (Ok commit.answer) commit.writes commit.flushes new next r.runs.is

  -- .. which gave up
  pub record GaveUp (e : E) : Type 0 where
    pub writes : Writes
    pub flushes : Bool
    pub last : Last (Err (closure.Abort e)) writes flushes

  pub last_given_up : (e : E) (new : Store) (next : ℕ) → RunsOnTree store meant says result_of f old tree (Err (Abort e)) new next → GaveUp e
  last_given_up e new next r = let ends = r.runs.is in record { writes = ends.0; flushes = ends.1; last = last_of r.root r.tested r.root_is (Err (closure.Abort e)) ends.0 ends.1 new next ends.2 }

  -- a read with nothing written shows what the tree's map has
  module _ (law : ShowsLaw store meant) (sound : IsDb store old) (answer : Answer A E) (writes : Writes) (flushes : Bool) (l : Last answer writes flushes) where
    pub shown : (key : Key) (value : Option Key) → Shows store l.given key value → value ≡ found_in (maps_now store meant old tree.name) key
    shown key value s =
        let r : ReadsMap store meant old tree (λ pairs. value ≡ unwrap_or (find key_cmp key l.given.overlay) (find key_cmp key pairs)) = law old tree l.given key value sound l.tested l.root l.over s in
        r.is ∙ ap (λ (ws : Writes). unwrap_or (find key_cmp key ws) (find key_cmp key r.named.map)) l.empty ∙ sym (ap (λ o. found_in (option_map (λ (t : NamedTree). t.map) o) key) r.there)

-- ---- of a list of trees

module _ {P M F R A E : Type 0} (store : P → Store) (meant : M → Merge) (says : Closure F (TransactionalTrees P) R) (result_of : R → Answer A E) (f : F) (old : DbValue P M) (trees : List Tree) where
  -- the last attempt, which answered so
  pub record LastAll (answer : Answer A E) (writes : List Writes) (flushes : Bool) : Type 0 where
    pub given : TransactionalTrees P
    pub after : TransactionalTrees P
    pub calls : Calls says result_of f given answer after
    pub tested : must_refuse_of (db_state store meant old) trees ≡ None
    pub roots : map (λ (t : Tree). (now (store old.pages)).roots t.name) trees ≡ map Some given.roots.now
    pub over : OnlyRaises (store old.pages) (store given.pages.now)
    pub empty : given.overlays ≡ replicate (length trees) []
    pub unasked : given.flushes ≡ false
    pub writes_are : writes ≡ after.overlays
    pub flushes_are : flushes ≡ after.flushes

  -- there are as many roots as trees
  as_many : (roots : List ℕ) → map (λ (t : Tree). (now (store old.pages)).roots t.name) trees ≡ map Some roots → length roots ≡ length trees
  as_many roots e = sym (length-map roots Some) ∙ ap length (sym e) ∙ length-map trees (λ (t : Tree). (now (store old.pages)).roots t.name)

  last_all_of : (roots : List ℕ) → must_refuse_of (db_state store meant old) trees ≡ None → map (λ (t : Tree). (now (store old.pages)).roots t.name) trees ≡ map Some roots
      → (answer : Answer A E) (writes : List Writes) (flushes : Bool) (new : Store) (next : ℕ)
      → Ends says result_of f (sets_aside_for roots) (BeginsAll store roots) left_of_trees (store old.pages) old.greatest_id answer writes flushes new next → LastAll answer writes flushes
  last_all_of roots tested roots-are answer writes flushes new next e = record {
    given = e.last.given;
    after = e.last.after;
    calls = e.last.calls;
    tested = tested;
    roots = roots-are ∙ ap (map Some) (sym e.last.fresh.roots_are);
    over = subst (λ s. OnlyRaises (store old.pages) s) (sym e.last.fresh.over) e.only;
    empty = e.last.fresh.empty ∙ ap (λ n. replicate n []) (as_many roots roots-are);
    unasked = e.last.fresh.quiet;
    writes_are = e.last.writes_are;
    flushes_are = e.last.flushes_is;
  }

  pub last_all_made : (commit : Commit A (List Writes)) (new : Store) (next : ℕ) → RunsOnList store meant says result_of f old trees (Ok commit) new next → LastAll (Ok commit.answer) commit.writes commit.flushes
  last_all_made commit new next r = elim r.runs.is [
    | inl runs ↦ last_all_of r.roots r.tested r.roots_are (Ok commit.answer) commit.writes commit.flushes new next runs.is
    | inr stops ↦ ok_not_err stops.0
  ]

  -- .. which gave up
  pub record GaveUpAll (e : E) : Type 0 where
    pub writes : List Writes
    pub flushes : Bool
    pub last : LastAll (Err (closure.Abort e)) writes flushes

  pub last_all_given_up : (e : E) (new : Store) (next : ℕ) → RunsOnList store meant says result_of f old trees (Err (Abort e)) new next → GaveUpAll e
  last_all_given_up e new next r = elim r.runs.is [
    | inl runs ↦ let ends = runs.is in record { writes = ends.0; flushes = ends.1; last = last_all_of r.roots r.tested r.roots_are (Err (closure.Abort e)) ends.0 ends.1 new next ends.2 }
    | inr stops ↦ abort_not_storage stops.0
  ]

  -- a read at a position with nothing written shows what the map of its tree has
  module _ (law : ShowsAtLaw store meant) (sound : IsDb store old) (answer : Answer A E) (writes : List Writes) (flushes : Bool) (l : LastAll answer writes flushes) where
    pub shown_at : (position : ℕ) (tree : Tree) → slice_get trees position ≡ Some tree → slice_get (replicate {A = Writes} (length trees) []) position ≡ Some [] → (key : Key) (value : Option Key)
        → ShowsAt store l.given position key value → value ≡ found_in (maps_now store meant old tree.name) key
    shown_at position tree there none key value s =
        let (overlay, is, r) = law old trees l.given position tree key value sound l.tested l.roots l.over there s in
        let unwritten : overlay ≡ [] = some_is (sym is ∙ ap (λ (os : List Writes). slice_get os position) l.empty ∙ none) in
        r.is ∙ ap (λ (ws : Writes). unwrap_or (find key_cmp key ws) (find key_cmp key r.named.map)) unwritten ∙ sym (ap (λ o. found_in (option_map (λ (t : NamedTree). t.map) o) key) r.there)
