-- A transaction that raises a number adds one raise to a list.
use Rattle.std.proofs.Common.{◌≡◌, ◌∙◌, ℕ, ◌+◌, ◌<◌, ◌^◌, true, false, cond, List, [], ◌∷◌, ◌++◌, append-nil, map, Option, Some, option_map, unwrap_or, Result, Ok, Err, IfOk, OnErr, sym, refl, ap, subst, inl, inr}
use denote.Ref.{MutBor}
use Rattle.std.specs.FinMap.Entries.{find, put}
use Rattle.std.specs.Int.{w64, to_be_bytes}
use Rattle.sled_nodes.proofs.Basics.{false_true}
use Rattle.sled_nodes.specs.Order.{Key, key_cmp}
use Rattle.sled_batch.specs.Batch.{Writes}
use Rattle.sled_store.specs.Store.{Store}
use Rattle.sled_model.specs.Maps.{Maps, Merge}
use Rattle.sled_model.specs.State.{NamedTree, maps_of}
use Rattle.sled_model.specs.declared.tree.Tree.{Tree}
use Rattle.tree_transactions.specs.Attempts.{Answer, Closure, Calls, Ends}
use Rattle.tree_transactions.specs.Ids.{OnlyRaises, SetsAside}
use Rattle.tree_transactions.specs.Transactions.{Begins, left_of_tree}
use Rattle.tree_transactions.specs.declared.attempts.Commit.{Commit}
use Rattle.tree_transactions.specs.declared.errors.TransactionError.{TransactionError}
use Rattle.tree_transactions.specs.declared.errors.TransactionError.TheVariants.{Abort, Storage}
use Rattle.tree_transactions.specs.declared.tree.TransactionalTree.{TransactionalTree}
use Rattle.sled.specs.Transactions.{ShowsLaw}
use Rattle.sled.specs.Values.{DbValue, db_state}
use Rattle.machine_shared.specs.Made.{MadeValue, TransactionMade}
use Rattle.machine_shared.specs.Stood.{found_in}
use Rattle.machine_shared.specs.Transactions.{AddsTransaction, LacksFlush, Notes, RunsIn, RunsOnce, batches_of_tree, flush_noted, transaction_made}
use Rattle.example_parts.specs.Counters.{number_in}
use Rattle.example_shared.specs.Adding.{RaisesInside}
use Rattle.example_shared.specs.Raising.{Raises}
use Rattle.example_shared.proofs.Attempts.{read_back}
use Rattle.example_shared.proofs.Keys.{at_itself}

-- a transaction that sets the key to the number above the one that stood there
module _ (tree : Tree) (key : Key) (stood : Option Key) (n : ℕ) (next : n ≡ number_in stood + 1) (fits : n < 2 ^ 64) where
  abbrev raise_made : MadeValue
  raise_made = TransactionMade ((tree, (key, Some (to_be_bytes w64 n)) ∷ []) ∷ []) (stood ∷ [])

  sole_raise : (made more : List MadeValue) → more ≡ made ++ raise_made ∷ [] → Raises tree key (Some n) made more
  sole_raise made more e = record {
    added = raise_made ∷ [];
    adds = e;
    parts = ((refl, refl, read_back tree key stood n next fits ∙ next), tt);
    wrote =
        ap (λ b. map (λ (s : Option Key × Option Key). number_in s.1) (cond b ((stood, Some (to_be_bytes w64 n)) ∷ []) [] ++ [])) (at_itself tree.name key tree key refl refl)
        ∙ ap (λ k. k ∷ []) (read_back tree key stood n next fits);
  }

-- what is told of a call of the closure
abbrev pub Told : {P F R E : Type 0} → (P → Store) → Closure F (TransactionalTree P) R → (R → Answer ℕ E) → F → Key → Type 0
Told {P} {R = R} store says result_of f key = (shown left : MutBor (TransactionalTree P)) (answer : R) → says.post f (shown, tt) (answer, (left, tt)) → IfOk (result_of answer) (λ n. RaisesInside store shown.now key n left.now)

module _ {P M F R E : Type 0} (store : P → Store) (meant : M → Merge) (says : Closure F (TransactionalTree P) R) (result_of : R → Answer ℕ E) (f : F) (tree : Tree) (key : Key) (law : ShowsLaw store meant) (told : Told store says result_of f key) where
  raises : (given after : TransactionalTree P) (n : ℕ) → Calls says result_of f given (Ok n) after → RaisesInside store given key n after
  raises given after n c =
      let m : RaisesInside store c.shown.now key n c.left.now = subst (λ r. IfOk r (λ n. RaisesInside store c.shown.now key n c.left.now)) c.tells (told c.shown c.left c.told c.met) in
      subst (λ t. RaisesInside store t key n after) c.shows (subst (λ t. RaisesInside store c.shown.now key n t) c.leaves m)

  module _ (d after : DbValue P M) (commit : Commit ℕ Writes) (r : RunsIn store meant says result_of f tree d (Ok commit) after) where
    abbrev ends : Ends says result_of f SetsAside (Begins store r.runs.runs.root) left_of_tree (store d.pages) d.greatest_id (Ok commit.answer) commit.writes commit.flushes (store after.pages) after.greatest_id
    ends = r.runs.runs.runs.is

    abbrev given : TransactionalTree P
    given = ends.last.given

    m : RaisesInside store given key commit.answer ends.last.after
    m = raises given ends.last.after commit.answer ends.last.calls

    writes_are : commit.writes ≡ (key, Some (to_be_bytes w64 commit.answer)) ∷ []
    writes_are = ends.last.writes_are ∙ ap (λ (t : TransactionalTree P). t.overlay) m.put.is ∙ ap (λ (ws : Writes). put key_cmp key (Some (to_be_bytes w64 commit.answer)) ws) ends.last.fresh.empty

    unasked : commit.flushes ≡ false
    unasked = ends.last.flushes_is ∙ ap (λ (t : TransactionalTree P). t.flushes) m.put.is ∙ ends.last.fresh.quiet

    stood_there : m.stood ≡ found_in (maps_of (db_state store meant d) tree.name) key
    stood_there =
        let s = law d tree given key m.stood r.sound r.runs.runs.tested (r.runs.runs.root_is ∙ ap Some (sym ends.last.fresh.root_is)) (subst (λ s. OnlyRaises (store d.pages) s) (sym ends.last.fresh.over) ends.only) m.shows in
        s.is ∙ ap (λ (ws : Writes). unwrap_or (find key_cmp key ws) (find key_cmp key s.named.map)) ends.last.fresh.empty ∙ sym (ap (λ o. found_in (option_map (λ (t : NamedTree). t.map) o) key) s.there)

    -- as it is noted
    noted_so : (maps : Maps) → maps ≡ maps_of (db_state store meant d) → transaction_made maps (batches_of_tree tree commit.writes) ≡ TransactionMade ((tree, (key, Some (to_be_bytes w64 commit.answer)) ∷ []) ∷ []) (m.stood ∷ [])
    noted_so maps e =
        ap (λ ws. transaction_made maps (batches_of_tree tree ws)) writes_are
        ∙ ap (λ v. TransactionMade ((tree, (key, Some (to_be_bytes w64 commit.answer)) ∷ []) ∷ []) (v ∷ [])) (ap (λ (x : Maps). found_in (x tree.name) key) e ∙ sym stood_there)

  made_so : (answer : ℕ) (made more noted : List MadeValue) → Notes (RunsOnce store meant says result_of f tree) (batches_of_tree tree) true answer noted → more ≡ made ++ noted → Raises tree key (Some answer) made more
  made_so answer made more noted n e =
      let (d, after, maps_are, r) = n.reached in
      let none : n.flush ≡ [] = subst (λ b. flush_noted b n.flush) (unasked d after n.commit r) n.flushed in
      subst (λ a. Raises tree key (Some a) made more) n.answers
      (sole_raise tree key (m d after n.commit r).stood n.commit.answer (m d after n.commit r).next (m d after n.commit r).fits made more
      (e ∙ ap (λ l. made ++ l) (n.is ∙ ap (λ l. transaction_made n.maps (batches_of_tree tree n.commit.writes) ∷ l) none ∙ ap (λ v. v ∷ []) (noted_so d after n.commit r n.maps maps_are))))

  pub added : (ended : Result ℕ (TransactionError E)) (made more : List MadeValue) → AddsTransaction (RunsOnce store meant says result_of f tree) (batches_of_tree tree) true ended made more → IfOk ended (λ n. Raises tree key (Some n) made more)
  added (Ok n) made more a = made_so n made more a.noted a.notes a.adds
  added (Err e) made more a = tt

  lacks_none : (noted : List MadeValue) → LacksFlush (RunsOnce store meant says result_of f tree) (batches_of_tree tree) true noted → noted ≡ []
  lacks_none noted l = let (d, after, maps_are, r) = l.reached in false_true (sym (unasked d after l.commit r) ∙ l.asked)

  pub not_added : (ended : Result ℕ (TransactionError E)) (made more : List MadeValue) → AddsTransaction (RunsOnce store meant says result_of f tree) (batches_of_tree tree) true ended made more → OnErr ended (more ≡ made)
  not_added (Ok n) made more a = tt
  not_added (Err (Abort e)) made more a = a.adds ∙ ap (λ l. made ++ l) a.notes.1 ∙ append-nil made
  not_added (Err (Storage e)) made more a = elim a.notes [
    | inl none ↦ a.adds ∙ ap (λ l. made ++ l) none ∙ append-nil made
    | inr lacks ↦ a.adds ∙ ap (λ l. made ++ l) (lacks_none a.noted lacks) ∙ append-nil made
  ]
