-- What the writing of a row makes of the table and of its index.
use Rattle.std.proofs.Common.{◌≡◌, ◌≢◌, ◌⊎◌, ℕ, false, Bool, List, [], ◌∷◌, zip, T, Option, Some, None, Result, Ok, Err, IfOk, IfErr, sym, refl, ap, ◌∙◌, subst, inl, inr}
use Rattle.std.specs.FinMap.Entries.{find, put, is_sorted, is_sorted-put}
use Rattle.sled_nodes.proofs.Basics.{none_some, some_is, key_total}
use Rattle.sled_nodes.proofs.Put.{found_here, found_there}
use denote.Ref.{MutBor}
use Rattle.sled_nodes.specs.Order.{Key, key_cmp}
use Rattle.sled_batch.specs.Batch.{Writes}
use Rattle.sled_store.specs.Store.{Store}
use Rattle.sled_model.specs.Maps.{Maps, Merge}
use Rattle.sled_model.specs.declared.tree.Tree.{Tree}
use Rattle.tree_transactions.specs.Attempts.{Answer, Closure, Calls}
use Rattle.tree_transactions.specs.Positions.{ShowsAt}
use Rattle.tree_transactions.specs.declared.attempts.Commit.{Commit}
use Rattle.tree_transactions.specs.declared.errors.ConflictableTransactionError.{ConflictableTransactionError}
use Rattle.tree_transactions.specs.declared.errors.ConflictableTransactionError.TheVariants as closure
use Rattle.tree_transactions.specs.declared.errors.TransactionError.{TransactionError}
use Rattle.tree_transactions.specs.declared.errors.TransactionError.TheVariants.{Abort, Storage}
use Rattle.tree_transactions.specs.declared.trees.TransactionalTrees.{TransactionalTrees}
use Rattle.sled.specs.Sound.{IsDb}
use Rattle.sled.specs.Transactions.{RunsOnList, ListMade, ListNotMade, ShowsAtLaw}
use Rattle.sled.specs.Values.{DbValue}
use Rattle.example_parts.specs.Reads.{found_in, maps_now}
use Rattle.example_parts.proofs.Keys.{same_or_apart}
use Rattle.example_transactions.specs.Throughout.{HoldsThroughout}
use Rattle.example_transactions.specs.Indexed.{agree_in, PutsRow, EndsPut}
use Rattle.example_transactions.specs.declared.indexed.EmailTaken.{EmailTaken}
use Rattle.example_transactions.specs.theory.Indexed.{TakesEntry, PutsInside, GivesUpPut}
use Rattle.example_transactions.proofs.Attempted.{makes_group, stops_before, LastAll, last_all_made, last_all_given_up, shown_at}
use Rattle.example_transactions.proofs.Jobbing.{first_changed, second_changed}
use Rattle.example_transactions.proofs.Made.{Wrote, found_by, MakesGroup, Stopped, NotWritten, same_maps, made_holds, stopped_holds, stopped_stays, first_wrote, second_wrote, two_kept}

-- ---- the index agrees with the table still

is_before : (before : Option Key) (k : Key) → (before ≡ Some k) ⊎ (before ≢ Some k)
is_before None k = inr (λ e. none_some e)
is_before (Some b) k = elim (same_or_apart b k) [
  | inl same ↦ inl (ap Some same)
  | inr off ↦ inr (λ e. off (some_is e))
]

module _ (old new : Maps) (table index id email : Key) (before : Option Key) (p : PutsRow old new table index id email before) (agree : agree_in table index old) where
  has_after : (i e : Key) → found_in (new table) i ≡ Some e → found_in (new index) e ≡ Some i
  has_after i e there = elim (same_or_apart i id) [
    | inl same ↦
        let now : email ≡ e = some_is (sym p.is ∙ ap (found_in (new table)) (sym same) ∙ there) in
        ap (found_in (new index)) (sym now) ∙ p.entry ∙ ap Some (sym same)
    | inr off ↦
        let was : found_in (old table) i ≡ Some e = sym (p.users i off) ∙ there in
        let entered : found_in (old index) e ≡ Some i = agree.has i e was in
        elim (same_or_apart e email) [
          | inl same ↦ absurd (off (p.free i (ap (found_in (old index)) (sym same) ∙ entered)))
          | inr apart ↦ elim (is_before before e) [
            | inl had ↦ absurd (off (some_is (sym entered ∙ agree.has id e (p.was ∙ had))))
            | inr not ↦ p.entries e not apart ∙ entered
          ]
        ]
  ]

  only_after : (e i : Key) → found_in (new index) e ≡ Some i → found_in (new table) i ≡ Some e
  only_after e i there = elim (same_or_apart e email) [
    | inl same ↦
        let now : id ≡ i = some_is (sym p.entry ∙ ap (found_in (new index)) (sym same) ∙ there) in
        ap (found_in (new table)) (sym now) ∙ p.is ∙ ap Some (sym same)
    | inr apart ↦ elim (is_before before e) [
      | inl had ↦ none_some (sym (p.gone e had apart) ∙ there)
      | inr not ↦
          let was : found_in (old table) i ≡ Some e = agree.only e i (sym (p.entries e not apart) ∙ there) in
          elim (same_or_apart i id) [
            | inl same ↦ absurd (not (sym p.was ∙ ap (found_in (old table)) (sym same) ∙ was))
            | inr off ↦ p.users i off ∙ was
          ]
    ]
  ]

  row_agrees : agree_in table index new
  row_agrees = record { has = has_after; only = only_after }

-- ---- what is written in the index

abbrev taken_out : Option Key → Writes
taken_out None = []
taken_out (Some e) = put key_cmp e None []

taken_out_rises : (before : Option Key) → T (is_sorted key_cmp (taken_out before))
taken_out_rises None = tt
taken_out_rises (Some e) = tt

taken_there : (before : Option Key) (k : Key) → before ≡ Some k → find key_cmp k (taken_out before) ≡ Some None
taken_there None k e = none_some e
taken_there (Some b) k e = ap (λ x. find key_cmp k (taken_out (Some x))) (some_is e) ∙ found_here k None []

untaken : (before : Option Key) (k : Key) → before ≢ Some k → find key_cmp k (taken_out before) ≡ None
untaken None k off = refl
untaken (Some b) k off = found_there k b None [] (λ e. off (ap Some (sym e)))

-- what is told of a call of the closure
abbrev Told : {P F R : Type 0} → (P → Store) → Closure F (TransactionalTrees P) R → (R → Answer (Option Key) EmailTaken) → F → Key → Key → Type 0
Told {P} {R = R} store says result_of f id email = (shown left : MutBor (TransactionalTrees P)) (answer : R) → says.post f (shown, tt) (answer, (left, tt))
    → IfOk (result_of answer) (λ before. PutsInside store shown.now id email before left.now) × IfErr (result_of answer) (GivesUpPut store shown.now id email)

module _ {P M F R : Type 0} (store : P → Store) (flush_number : P → ℕ) (meant : M → Merge) (says : Closure F (TransactionalTrees P) R) (result_of : R → Answer (Option Key) EmailTaken) (f : F) (old : DbValue P M) (table index : Tree) (id email : Key)
    (law : ShowsAtLaw store meant) (sound : IsDb store old)
    (told : Told store says result_of f id email) where
  abbrev trees : List Tree
  trees = table ∷ index ∷ []

  abbrev before : Maps
  before = maps_now store meant old

  -- what its closure did
  puts : (given after : TransactionalTrees P) (was : Option Key) → Calls says result_of f given (Ok was) after → PutsInside store given id email was after
  puts given after was c =
      let p : PutsInside store c.shown.now id email was c.left.now = subst (λ r. IfOk r (λ b. PutsInside store c.shown.now id email b c.left.now)) c.tells (told c.shown c.left c.told c.met).0 in
      subst (λ g. PutsInside store g id email was after) c.shows (subst (λ a. PutsInside store c.shown.now id email was a) c.leaves p)

  gives_up : (given after : TransactionalTrees P) (e : ConflictableTransactionError EmailTaken) → Calls says result_of f given (Err e) after → GivesUpPut store given id email e
  gives_up given after e c = subst (λ g. GivesUpPut store g id email e) c.shows (subst (λ r. IfErr r (GivesUpPut store c.shown.now id email)) c.tells (told c.shown c.left c.told c.met).1)

  taking_stays : (first between : TransactionalTrees P) (was : Option Key) → TakesEntry first was between → between.flushes ≡ first.flushes
  taking_stays first between None t = ap (λ (x : TransactionalTrees P). x.flushes) t.is
  taking_stays first between (Some e) t = ap (λ (x : TransactionalTrees P). x.flushes) t.is.rest

  quiet : (commit : Commit (Option Key) (List Writes)) (s : Store) (n : ℕ) → RunsOnList store meant says result_of f old trees (Ok commit) s n → commit.flushes ≡ false
  quiet commit s n r =
      let l = last_all_made store meant says result_of f old trees commit s n r in
      let p = puts l.given l.after commit.answer l.calls in
      l.flushes_are ∙ ap (λ (x : TransactionalTrees P). x.flushes) p.entry.written.rest ∙ taking_stays p.between p.entry.between commit.answer p.entry.taken ∙ ap (λ (x : TransactionalTrees P). x.flushes) p.row.rest ∙ l.unasked

  -- a read with nothing written shows what the maps have
  module _ (answer : Answer (Option Key) EmailTaken) (writes : List Writes) (flushes : Bool) (l : LastAll store meant says result_of f old trees answer writes flushes) where
    row_was : (value : Option Key) → ShowsAt store l.given 0 id value → value ≡ found_in (before table.name) id
    row_was value s = shown_at store meant says result_of f old trees law sound answer writes flushes l 0 table refl refl id value s

    owner_was : (value : Option Key) → ShowsAt store l.given 1 email value → value ≡ found_in (before index.name) email
    owner_was value s = shown_at store meant says result_of f old trees law sound answer writes flushes l 1 index refl refl email value s

  -- ---- it is made

  module _ (was : Option Key) (writes : List Writes) (flushes : Bool) (l : LastAll store meant says result_of f old trees (Ok was) writes flushes) (new : DbValue P M) (g : MakesGroup store meant old (zip trees writes) new) (apart : table.name ≢ index.name) where
    abbrev after : Maps
    after = maps_now store meant new

    p : PutsInside store l.given id email was l.after
    p = puts l.given l.after was l.calls

    abbrev row : Writes
    row = put key_cmp id (Some email) []

    abbrev entry : Writes
    entry = put key_cmp email (Some id) (taken_out was)

    entry_rises : T (is_sorted key_cmp entry)
    entry_rises = is_sorted-put key_cmp key_total email (Some id) (taken_out was) (taken_out_rises was)

    taking : (first between : TransactionalTrees P) (was : Option Key) → first.overlays ≡ row ∷ [] ∷ [] → TakesEntry first was between → between.overlays ≡ row ∷ taken_out was ∷ []
    taking first between None e t = ap (λ (x : TransactionalTrees P). x.overlays) t.is ∙ e
    taking first between (Some k) e t = second_changed first.overlays between.overlays row [] (put key_cmp k None) e t.is.changes

    writes_are : writes ≡ row ∷ entry ∷ []
    writes_are =
        l.writes_are ∙ second_changed p.entry.between.overlays l.after.overlays row (taken_out was) (put key_cmp email (Some id))
        (taking p.between p.entry.between was (first_changed l.given.overlays p.between.overlays [] [] (put key_cmp id (Some email)) l.empty p.row.changes) p.entry.taken) p.entry.written.changes

    made : MakesGroup store meant old ((table, row) ∷ (index, entry) ∷ []) new
    made = subst (λ ws. MakesGroup store meant old (zip trees ws) new) writes_are g

    table_wrote : Wrote before after table.name row
    table_wrote = first_wrote store meant old new table index row entry apart tt entry_rises made

    index_wrote : Wrote before after index.name entry
    index_wrote = second_wrote store meant old new table index row entry apart tt entry_rises made

    puts_row : PutsRow before after table.name index.name id email was
    puts_row = record {
      free = λ owner there. p.free.is owner (owner_was (Ok was) writes flushes l p.free.owner p.free.shows ∙ there);
      was = sym (row_was (Ok was) writes flushes l was p.had);
      is = found_by table_wrote id (found_here id (Some email) []);
      users = λ other off. found_by table_wrote other (found_there other id (Some email) [] off);
      entry = found_by index_wrote email (found_here email (Some id) (taken_out was));
      gone = λ other had off. found_by index_wrote other (found_there other email (Some id) (taken_out was) off ∙ taken_there was other had);
      entries = λ other not off. found_by index_wrote other (found_there other email (Some id) (taken_out was) off ∙ untaken was other not);
      trees = two_kept store meant old new table index row entry apart tt entry_rises made;
    }

    row_keeps : HoldsThroughout (store old.pages) (agree_in table.name index.name) → HoldsThroughout (store new.pages) (agree_in table.name index.name)
    row_keeps holds = made_holds store meant (agree_in table.name index.name) old new sound holds ((table, row) ∷ (index, entry) ∷ []) made
        (λ agree. row_agrees before after table.name index.name id email was puts_row agree)

  module _ (was : Option Key) (new : DbValue P M) (c : ListMade store flush_number meant says result_of f old trees was new) (apart : table.name ≢ index.name) where
    grouped : MakesGroup store meant old (zip trees c.commit.writes) new
    grouped = makes_group store flush_number meant _ (RunsOnList store meant says result_of f old trees) _ _ old quiet was new c

    attempted : LastAll store meant says result_of f old trees (Ok was) c.commit.writes c.commit.flushes
    attempted = subst (λ b. LastAll store meant says result_of f old trees (Ok b) c.commit.writes c.commit.flushes) c.answers (last_all_made store meant says result_of f old trees c.commit _ _ c.makes.runs.runs)

    row_put : PutsRow before (maps_now store meant new) table.name index.name id email was
    row_put = puts_row was c.commit.writes c.commit.flushes attempted new grouped apart

    put_keeps : HoldsThroughout (store old.pages) (agree_in table.name index.name) → HoldsThroughout (store new.pages) (agree_in table.name index.name)
    put_keeps = row_keeps was c.commit.writes c.commit.flushes attempted new grouped apart

  -- ---- it is not

  stopped : (e : TransactionError EmailTaken) (new : DbValue P M) → ListNotMade store flush_number meant says result_of f old trees e new → Stopped store meant old new
  stopped (Abort why) new n = NotWritten n.is.takes
  stopped (Storage e) new n = stops_before store flush_number meant _ (RunsOnList store meant says result_of f old trees) _ _ old quiet e new n.is

  not_put : (e : TransactionError EmailTaken) (new : DbValue P M) → ListNotMade store flush_number meant says result_of f old trees e new → EndsPut store meant old index.name id email new e
  not_put (Abort why) new n =
      let g = last_all_given_up store meant says result_of f old trees why _ _ n.is.runs in
      let t = (gives_up g.last.given g.last.after (closure.Abort why) g.last.calls).is in
      record { is = ((t.is.0, sym (owner_was (Err (closure.Abort why)) g.writes g.flushes g.last t.owner t.shows) ∙ t.is.1, t.is.2), same_maps store meant old new n.is.takes) }
  not_put (Storage e) new n = record { is = stopped_stays store meant old new (stopped (Storage e) new n) }

  not_put_keeps : (e : TransactionError EmailTaken) (new : DbValue P M) → ListNotMade store flush_number meant says result_of f old trees e new
      → HoldsThroughout (store old.pages) (agree_in table.name index.name) → HoldsThroughout (store new.pages) (agree_in table.name index.name)
  not_put_keeps e new n holds = stopped_holds store meant (agree_in table.name index.name) old new sound holds (stopped e new n)

-- ---- the same, with what is told of the closure last

module _ {P M F R : Type 0} (store : P → Store) (flush_number : P → ℕ) (meant : M → Merge) (says : Closure F (TransactionalTrees P) R) (result_of : R → Answer (Option Key) EmailTaken) (f : F) (old new : DbValue P M) (table index : Tree) (id email : Key)
    (law : ShowsAtLaw store meant) (sound : IsDb store old) where
  pub put_made : (was : Option Key) → ListMade store flush_number meant says result_of f old (table ∷ index ∷ []) was new → Told store says result_of f id email
      → table.name ≢ index.name → PutsRow (maps_now store meant old) (maps_now store meant new) table.name index.name id email was
  put_made was is told apart = row_put store flush_number meant says result_of f old table index id email law sound told was new is apart

  pub put_not_made : (e : TransactionError EmailTaken) → ListNotMade store flush_number meant says result_of f old (table ∷ index ∷ []) e new → Told store says result_of f id email → EndsPut store meant old index.name id email new e
  put_not_made e not told = not_put store flush_number meant says result_of f old table index id email law sound told e new not

  pub index_kept : (r : Result (Option Key) (TransactionError EmailTaken)) → IfOk r (λ was. ListMade store flush_number meant says result_of f old (table ∷ index ∷ []) was new)
      → IfErr r (λ e. ListNotMade store flush_number meant says result_of f old (table ∷ index ∷ []) e new) → Told store says result_of f id email → table.name ≢ index.name
      → HoldsThroughout (store old.pages) (agree_in table.name index.name) → HoldsThroughout (store new.pages) (agree_in table.name index.name)
  index_kept (Ok was) is not told apart = put_keeps store flush_number meant says result_of f old table index id email law sound told was new is apart
  index_kept (Err e) is not told apart = not_put_keeps store flush_number meant says result_of f old table index id email law sound told e new not
