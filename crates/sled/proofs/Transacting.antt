-- Transactions: ids that are taken, reads inside, and the tests of lists.
use Rattle.std.proofs.Common.{◌≡◌, ℕ, zero, suc, ◌+◌, ◌<◌, ◌≤◌, Bool, true, false, cond, ◌&&◌, List, [], ◌∷◌, ◌++◌, length, map, take, drop, get_or, slice_get, Bor, append_assoc, append-nil, Option, Some, None, Result, Ok, Err, OnOk, IfErr, refl, sym, ap, subst, ◌∙◌, inl, inr, nat_lt, arith}
use Rattle.std.specs.List.{zip}
use Rattle.std.specs.Option.{unwrap_or, option_map}
use Rattle.std.proofs.lemmas.Option.{slice_get-map, slice_get_within, get_or_from_slice_get}
use Rattle.std.specs.declared.ops.Bound.TheVariants.{Included}
use Rattle.std.specs.FinMap.Entries.{find}
use Rattle.std.specs.Str.{bytes_eq}
use Rattle.sled_nodes.proofs.Basics.{none_some, some_is}
use Rattle.sled_nodes.specs.Order.{Key, key_cmp}
use Rattle.sled_nodes.specs.declared.error.Error.{Error}
use Rattle.sled_nodes.specs.declared.error.Error.TheVariants.{NoMemory}
use Rattle.sled_batch.specs.Batch.{Writes}
use Rattle.sled_store.specs.State.{State}
use Rattle.sled_store.specs.Store.{Store, now}
use Rattle.sled_model.specs.Maps.{Merge}
use Rattle.sled_model.specs.State as model
use Rattle.sled_model.specs.Refusal.{IsClosed, IsForeign, IsDropped, first_of, is_number, foreign_test, dropped_test, must_refuse_of, trees_of_batches}
use Rattle.sled_model.specs.declared.tree.Tree.{Tree}
use Rattle.sled_model.proofs.Tests.{first_none, none_first}
use Rattle.tree_laws.specs.Snapshot.{Snapshot}
use Rattle.tree_check.proofs.Listed.{map_append}
use Rattle.tree_reads.specs.Leaves.{OfContents}
use Rattle.tree_reads.specs.Walk.{refuses_walk_as, GivesUp, once}
use Rattle.sled_tree.specs.Known.{IsKnown}
use Rattle.sled_tree.specs.declared.flight.InFlight.{InFlight}
use Rattle.tree_scans.proofs.Scanning.{one_more}
use Rattle.tree_transactions.specs.Ids.{OnlyRaises}
use Rattle.tree_transactions.specs.Attempts.{Answer, Closure}
use Rattle.tree_transactions.specs.Transactions.{TransactsAll}
use Rattle.tree_transactions.specs.Overlays.{refuses_through_as, RefusesThrough}
use Rattle.tree_transactions.specs.Trees.{is_storage, RefusedFor}
use Rattle.tree_transactions.specs.Positions.{LacksTree}
use Rattle.tree_transactions.specs.declared.attempts.Commit.{Commit}
use Rattle.tree_transactions.specs.declared.errors.UnabortableTransactionError.{UnabortableTransactionError}
use Rattle.tree_transactions.specs.declared.errors.UnabortableTransactionError.TheVariants.{Conflict}
use Rattle.tree_transactions.specs.declared.errors.UnabortableTransactionError.TheVariants as inside
use Rattle.tree_transactions.specs.declared.errors.TransactionError.{TransactionError}
use Rattle.tree_transactions.specs.declared.trees.TransactionalTrees.{TransactionalTrees}
use Rattle.tree_transactions.specs.declared.errors.TransactionError.TheVariants.{Abort, Storage}
use Rattle.sled.specs.Values.{DbValue, db_state, snapshot_of_db}
use Rattle.sled.specs.Flush.{RefusesFlush}
use Rattle.sled.specs.Sound.{IsDb}
use Rattle.sled.specs.theory.Transactions.{CommitsGroup, StopsCommit}
use Rattle.sled.specs.Groups.{GroupDecided, IsQuietGroup}
use Rattle.sled.specs.Transactions.{TakesIds, RunsTo, runs_as, flushes_as, MakesWrites, Commits, Stops, ByTest, ByClosure, ByGroup, ByFlush, fails_as, Fails, ShowsLaw, ShowsAtLaw, RefusesInside, RefusesToShowLaw, RefusesToShowAtLaw, trees_of_list}
use Rattle.sled.proofs.Batching.{tested_parts}
use Rattle.sled.proofs.Changes.{parted}
use Rattle.sled.proofs.Numbering.{state_taken, left_taken, leaves_taken}
use Rattle.sled.proofs.Flushing.{same_moment}
use Rattle.sled.proofs.Resting.{flushed_now, rests_only_faults, rests_now}
use Rattle.sled.proofs.Reading.{reads, refuses, gives_up}

-- ---- ids

-- ids go on over pages that mean the same
pub takes : {P M : Type 0} (store : P → Store) (meant : M → Merge) (old : DbValue P M) (q : P) (next : ℕ) → OnlyRaises (store old.pages) (store q) → old.greatest_id ≤ next → (old.greatest_id ≤ (store old.pages).mark → next ≤ (store q).mark)
    → TakesIds store meant old (record old { pages = q; greatest_id = next })
takes store meant old q next only rises aside = record {
  only = only;
  rises = rises;
  same = refl;
  state = state_taken store meant old q (store q).mark (store q).faults next only.is;
  leaves = leaves_taken store meant old q (store q).mark (store q).faults next only.is (λ db. aside db.ids);
  left = left_taken store meant old q (store q).mark (store q).faults next only.is;
}

-- .. and the tests do not ask for ids
pub still_tested : {P M : Type 0} (store : P → Store) (meant : M → Merge) (old new : DbValue P M) (trees : List Tree) → TakesIds store meant old new → must_refuse_of (db_state store meant old) trees ≡ None → must_refuse_of (db_state store meant new) trees ≡ None
still_tested store meant old new trees t tested = ap (λ s. must_refuse_of s trees) (t.state (λ n. None) 0) ∙ tested

-- the same, where the method knows the database by its fields
pub takes_as : {P M : Type 0} (store : P → Store) (meant : M → Merge) (inside old : DbValue P M) → inside ≡ old → (q : P) (next : ℕ) → OnlyRaises (store inside.pages) (store q) → inside.greatest_id ≤ next → (inside.greatest_id ≤ (store inside.pages).mark → next ≤ (store q).mark)
    → TakesIds store meant old (record inside { pages = q; greatest_id = next })
takes_as {P} {M} store meant inside old same q next only rises aside = subst (λ (z : DbValue P M). TakesIds store meant z (record inside { pages = q; greatest_id = next })) same (takes store meant inside q next only rises aside)

-- what the attempts at a list leave of the pages and the ids
pub record Goes (old : Store) (greatest : ℕ) (new : Store) (next : ℕ) : Type 0 where
  pub only : OnlyRaises old new
  pub rises : greatest ≤ next
  pub aside : greatest ≤ old.mark → next ≤ new.mark

pub list_goes : {P F R A E : Type 0} (store : P → Store) (says : Closure F (TransactionalTrees P) R) (result_of : R → Answer A E) (f : F) (roots : List ℕ) (old : Store) (greatest : ℕ) (ended : Result (Commit A (List Writes)) (TransactionError E)) (new : Store) (next : ℕ)
    → TransactsAll store says result_of f roots old greatest ended new next → Goes old greatest new next
list_goes store says result_of f roots old greatest ended new next t = elim t.is [
  | inl r ↦ record { only = r.only; rises = r.rises; aside = r.aside }
  | inr h ↦ record { only = h.1.only; rises = h.1.rises; aside = h.1.aside }
]

-- ---- what calls in flight know

module _ {P M : Type 0} (store : P → Store) (flush_number : P → ℕ) (meant : M → Merge) where
  flush_knows : (b : Bool) (old new : DbValue P M) → flushes_as store flush_number meant b old new → (h : InFlight) → IsKnown (snapshot_of_db store old) h → IsKnown (snapshot_of_db store new) h
  flush_knows false old new e h k = subst (λ (d : DbValue P M). IsKnown (snapshot_of_db store d) h) (sym e) k
  flush_knows true old new f h k = subst (λ (d : DbValue P M). IsKnown (snapshot_of_db store d) h) (sym f.1.same) (subst (λ (z : Snapshot). IsKnown z h) (sym (same_moment store meant old new.pages (flushed_now f.1.is))) k)

  unflushed_knows : (old new : DbValue P M) (e : Error) → RefusesFlush store meant old new e → (h : InFlight) → IsKnown (snapshot_of_db store old) h → IsKnown (snapshot_of_db store new) h
  unflushed_knows old new e r h k = subst (λ (d : DbValue P M). IsKnown (snapshot_of_db store d) h) (sym r.same) (subst (λ (z : Snapshot). IsKnown z h) (sym (same_moment store meant old new.pages (rests_now (rests_only_faults e (store old.pages) (store new.pages) r.is)))) k)

  module _ {A E W : Type 0} (tests : Error → Type 0) (reaches : Result (Commit A W) (TransactionError E) → Store → ℕ → Type 0) (batches_of : W → List (Tree × Writes)) (has : Bool) (old : DbValue P M) where
    made_knows : (commit : Commit A W) (run made : DbValue P M) → MakesWrites store flush_number meant tests reaches batches_of has old commit run made → (h : InFlight) → IsKnown (snapshot_of_db store old) h → IsKnown (snapshot_of_db store made) h
    made_knows commit run made m h k = m.group.leaves.others h (m.runs.takes.leaves.others h k)

    pub commits_know : (answer : A) (new : DbValue P M) → Commits store flush_number meant tests reaches batches_of has old answer new → (h : InFlight) → IsKnown (snapshot_of_db store old) h → IsKnown (snapshot_of_db store new) h
    commits_know answer new c h k = flush_knows (has && c.commit.flushes) c.made new c.flushes h (made_knows c.commit c.run c.made c.makes h k)

    stops_know : (e : Error) (new : DbValue P M) → Stops store flush_number meant tests reaches batches_of has old e new → (h : InFlight) → IsKnown (snapshot_of_db store old) h → IsKnown (snapshot_of_db store new) h
    stops_know e new (ByTest t same) h k = subst (λ (d : DbValue P M). IsKnown (snapshot_of_db store d) h) (sym same) k
    stops_know e new (ByClosure r) h k = r.takes.leaves.others h k
    stops_know e new (ByGroup commit run r g quiet) h k = g.leaves.others h (r.takes.leaves.others h k)
    stops_know e new (ByFlush commit run made m asked r) h k = unflushed_knows made new e r h (made_knows commit run made m h k)

    fails_know_as : (e : TransactionError E) (new : DbValue P M) → fails_as store flush_number meant tests reaches batches_of has old e new → (h : InFlight) → IsKnown (snapshot_of_db store old) h → IsKnown (snapshot_of_db store new) h
    fails_know_as (Abort e) new r h k = r.takes.leaves.others h k
    fails_know_as (Storage e) new s h k = stops_know e new s h k

    pub fails_know : (e : TransactionError E) (new : DbValue P M) → Fails store flush_number meant tests reaches batches_of has old e new → (h : InFlight) → IsKnown (snapshot_of_db store old) h → IsKnown (snapshot_of_db store new) h
    fails_know e new f h k = fails_know_as e new f.is h k

    pub runs_know : (ended : Result (Commit A W) (TransactionError E)) (new : DbValue P M) → runs_as store meant tests reaches old ended new → (h : InFlight) → IsKnown (snapshot_of_db store old) h → IsKnown (snapshot_of_db store new) h
    runs_know (Ok commit) new r h k = r.takes.leaves.others h k
    runs_know (Err (Abort e)) new r h k = r.takes.leaves.others h k
    runs_know (Err (Storage e)) new (inl (cause, same)) h k = subst (λ (d : DbValue P M). IsKnown (snapshot_of_db store d) h) (sym same) k
    runs_know (Err (Storage e)) new (inr r) h k = r.takes.leaves.others h k

-- ---- the tests of a list

foreign_zip : (name : Key) (trees : List Tree) (writes : List Writes) → foreign_test name trees ≡ None → foreign_test name (trees_of_batches (zip trees writes)) ≡ None
foreign_zip name [] writes e = refl
foreign_zip name (t ∷ trees) [] e = refl
foreign_zip name (t ∷ trees) (w ∷ writes) e = go (bytes_eq t.database name) (foreign_zip name trees writes) e
  where
    go : (b : Bool) → (foreign_test name trees ≡ None → foreign_test name (trees_of_batches (zip trees writes)) ≡ None) → cond b (foreign_test name trees) (Some IsForeign) ≡ None
        → cond b (foreign_test name (trees_of_batches (zip trees writes))) (Some IsForeign) ≡ None
    go true rest f = rest f
    go false rest f = none_some (sym f)

dropped_zip : (s : model.State) (trees : List Tree) (writes : List Writes) → dropped_test s trees ≡ None → dropped_test s (trees_of_batches (zip trees writes)) ≡ None
dropped_zip s [] writes e = refl
dropped_zip s (t ∷ trees) [] e = refl
dropped_zip s (t ∷ trees) (w ∷ writes) e = go (is_number t.number (s.trees t.name)) (dropped_zip s trees writes) e
  where
    go : (b : Bool) → (dropped_test s trees ≡ None → dropped_test s (trees_of_batches (zip trees writes)) ≡ None) → cond b (dropped_test s trees) (Some (IsDropped t.name)) ≡ None
        → cond b (dropped_test s (trees_of_batches (zip trees writes))) (Some (IsDropped t.name)) ≡ None
    go true rest f = rest f
    go false rest f = none_some (sym f)

-- batches on trees that pass the tests
pub tested_zip : (s : model.State) (trees : List Tree) (writes : List Writes) → must_refuse_of s trees ≡ None → must_refuse_of s (trees_of_batches (zip trees writes)) ≡ None
tested_zip s trees writes e =
    let opens = first_none (cond s.is_open None (Some IsClosed)) (first_of (foreign_test s.name trees) (dropped_test s trees)) e in
    let both = first_none (foreign_test s.name trees) (dropped_test s trees) opens.1 in
    none_first _ _ opens.0 (none_first _ _ (foreign_zip s.name trees writes both.0) (dropped_zip s trees writes both.1))

-- ---- lists of trees

-- a tree of a list that passes the tests passes them
tested_place : (s : model.State) (trees : List Tree) (i : ℕ) (t : Tree) → slice_get trees i ≡ Some t → must_refuse_of s trees ≡ None → must_refuse_of s (t ∷ []) ≡ None
tested_place s trees i t at tested =
    let rest = (tested_parts s (take i trees) (t ∷ drop (i + 1) trees) (ap (must_refuse_of s) (sym (parted trees i t (slice_get_within trees i t at) (sym (get_or_from_slice_get trees i t t at)))) ∙ tested)).1 in
    (tested_parts s (t ∷ []) (drop (i + 1) trees) rest).0

-- .. of references
pub tested_at : (s : model.State) (trees : List (Bor Tree)) (i : ℕ) (t : Bor Tree) → i < length trees → t ≡ get_or trees i t → must_refuse_of s (trees_of_list trees) ≡ None → must_refuse_of s (t.now ∷ []) ≡ None
tested_at s trees i t h e tested =
    let parts = ap trees_of_list (parted trees i t h e) ∙ map_append (λ (x : Bor Tree). x.now) (take i trees) (t ∷ drop (i + 1) trees) in
    let rest = (tested_parts s (trees_of_list (take i trees)) (trees_of_list (t ∷ drop (i + 1) trees)) (ap (must_refuse_of s) (sym parts) ∙ tested)).1 in
    (tested_parts s (t.now ∷ []) (trees_of_list (drop (i + 1) trees)) rest).0

-- ---- reads inside

-- what is known of a place of the list of roots
root_at : (roots_of : Tree → Option ℕ) (trees : List Tree) (roots : List ℕ) (position : ℕ) (tree : Tree) (root : ℕ) → map roots_of trees ≡ map Some roots → slice_get trees position ≡ Some tree → slice_get roots position ≡ Some root
    → roots_of tree ≡ Some root
root_at roots_of trees roots position tree root are tree_is root_is = some_is (
    sym (slice_get-map roots_of trees position ∙ ap (option_map roots_of) tree_is)
    ∙ ap (λ l. slice_get l position) are
    ∙ slice_get-map Some roots position
    ∙ ap (option_map Some) root_is
    )

-- a walk is refused for the same causes over pages that mean the same
refuses_same : (of : ℕ → ℕ) (s : Store) (mark faults root : ℕ) (e : Error) → refuses_walk_as of (record s { mark = mark; faults = faults }) root e → refuses_walk_as of s root e
refuses_same of s mark faults root NoMemory h = h
refuses_same of s mark faults root other h = h

-- a cause that follows from another
refused_by : (why so : Error → Type 0) → ((e : Error) → why e → so e) → (e : UnabortableTransactionError) → is_storage why e → is_storage so e
refused_by why so follows Conflict h = absurd h
refused_by why so follows (inside.Storage e) h = follows e h

module _ {P M : Type 0} (store : P → Store) (meant : M → Merge) where
  pub shows : ShowsLaw store meant
  shows d tree given key value db tested root_is only s = reads store meant d tree tested given.root root_is db
      (λ pairs. value ≡ unwrap_or (find key_cmp key given.overlay) (find key_cmp key pairs))
      (subst (λ (z : State). OfContents z given.root (λ pairs. value ≡ unwrap_or (find key_cmp key given.overlay) (find key_cmp key pairs))) (ap now only.is) s.is.is)

  pub shows_at : ShowsAtLaw store meant
  shows_at d trees given position tree key value db tested roots_are only tree_is s = (
    s.overlay,
    s.at.overlay_is,
    reads store meant d tree (tested_place (db_state store meant d) trees position tree tree_is tested) s.root (root_at (λ (t : Tree). (now (store d.pages)).roots t.name) trees given.roots.now position tree s.root roots_are tree_is s.at.root_is) db
        (λ pairs. value ≡ unwrap_or (find key_cmp key s.overlay) (find key_cmp key pairs))
        (subst (λ (z : State). OfContents z s.root (λ pairs. value ≡ unwrap_or (find key_cmp key s.overlay) (find key_cmp key pairs))) (ap now only.is) s.is.is),
  )

  module _ (d : DbValue P M) (tree : Tree) (db : IsDb store d) (tested : must_refuse_of (db_state store meant d) (tree ∷ []) ≡ None) (root : ℕ) (root_is : (now (store d.pages)).roots tree.name ≡ Some root) (s : Store) (only : OnlyRaises (store d.pages) s) (overlay : Writes) (key : Key) where
    refused_inside : (own : Option (Option Key)) → find key_cmp key overlay ≡ own → (e : Error) → refuses_through_as own s root key e → RefusesInside store meant d tree overlay key e
    refused_inside (Some written) is e h = subst (RefusesInside store meant d tree overlay key) (sym h) (record {
      own = λ w found. refl;
      reading = refuses store meant d tree tested root root_is db once NoMemory (record { is = tt });
      gives_up = gives_up store meant d tree tested root root_is key NoMemory (record { is = λ k i. tt });
    })
    refused_inside None is e h = record {
      own = λ w found. none_some (sym is ∙ found);
      reading = refuses store meant d tree tested root root_is db once e (record { is = refuses_same once (store d.pages) s.mark s.faults root e (subst (λ z. refuses_walk_as once z root e) only.is h.0.is) });
      gives_up = gives_up store meant d tree tested root root_is key e (subst (λ (z : State). GivesUp z root (Included key) 0 e) (ap now only.is) h.1);
    }

    pub refused_read : (e : Error) → RefusesThrough s root overlay key e → RefusesInside store meant d tree overlay key e
    refused_read e h = refused_inside (find key_cmp key overlay) refl e h.is

  pub refuses_to_show : RefusesToShowLaw store meant
  refuses_to_show d tree given key e db tested root_is only h = record {
    is = refused_by (RefusesThrough (store given.pages.now) given.root given.overlay key) (RefusesInside store meant d tree given.overlay key)
        (refused_read d tree db tested given.root root_is (store given.pages.now) only given.overlay key) e h.is.is;
  }

  pub refuses_to_show_at : RefusesToShowAtLaw store meant
  refuses_to_show_at d trees given position tree overlay key e db tested roots_are only tree_is overlay_is h = elim h.is.is [
    | inl r ↦ there r.is
    | inr k ↦ record {
      is = refused_by (RefusesThrough (store given.pages.now) k.0 k.1 key) (RefusesInside store meant d tree overlay key)
          (λ cause because. subst (λ w. RefusesInside store meant d tree w key cause) (some_is (sym k.2.overlay_is ∙ overlay_is))
          (refused_read d tree db (tested_place (db_state store meant d) trees position tree tree_is tested) k.0
          (root_at (λ (t : Tree). (now (store d.pages)).roots t.name) trees given.roots.now position tree k.0 roots_are tree_is k.2.root_is) (store given.pages.now) only k.1 key cause because)) e k.3.is;
    }
  ]
    where
      -- there is a tree at the position
      there : is_storage (LacksTree given position) e → RefusedFor (RefusesInside store meant d tree overlay key) e
      there r = record {
        is = refused_by (LacksTree given position) (RefusesInside store meant d tree overlay key) (λ cause l. elim l.none [
          | inl roots ↦ no_root_at (slice_get-map (λ (t : Tree). (now (store d.pages)).roots t.name) trees position ∙ ap (option_map (λ (t : Tree). (now (store d.pages)).roots t.name)) tree_is) (ap (λ l. slice_get l position) roots_are ∙ slice_get-map Some given.roots.now position ∙ ap (option_map Some) roots)
          | inr overlays ↦ none_some (sym overlays ∙ overlay_is)
        ]) e r;
      }
        where
          no_root_at : {X : Type 0} {o : Option (Option ℕ)} {x : Option ℕ} → o ≡ Some x → o ≡ None → X
          no_root_at p q = none_some (sym q ∙ p)

-- ---- the batches of a list

-- the batches so far, and those to come
zip_more : {X Y : Type 0} (xs : List X) (i : ℕ) (x : X) (y : Y) (ys : List Y) → slice_get xs i ≡ Some x → zip (drop i xs) (y ∷ ys) ≡ (x, y) ∷ zip (drop (suc i) xs) ys
zip_more [] i x y ys e = none_some e
zip_more (x ∷ xs) zero z y ys e = ap (λ w. (w, y) ∷ zip xs ys) (some_is e)
zip_more (x ∷ xs) (suc i) z y ys e = zip_more xs i z y ys e

zip_end : {X Y : Type 0} (xs : List X) (ys : List Y) → ys ≡ [] → zip xs ys ≡ []
zip_end [] ys e = refl
zip_end (x ∷ xs) ys e = ap (zip (x ∷ xs)) e

-- a tree of a list by its place
tree_at : (trees : List (Bor Tree)) (i : ℕ) (t : Bor Tree) → slice_get trees i ≡ Some t → slice_get (trees_of_list trees) i ≡ Some t.now
tree_at [] i t e = none_some e
tree_at (x ∷ trees) zero t e = ap (λ (z : Bor Tree). Some z.now) (some_is e)
tree_at (x ∷ trees) (suc i) t e = tree_at trees i t e

pub one_less : {X : Type 0} (f : X) (fs rest : List X) (n count : ℕ) → rest ≡ f ∷ fs → n + 1 ≡ count → count ≡ length rest → n ≡ length fs
one_less f fs rest n count e less is = let longer : length rest ≡ suc (length fs) = ap length e in omega arith

pub less : (i n : ℕ) → true ≡ nat_lt i n → i < n
less i n h = grind arith

-- one more batch goes to the next tree
pub grouped_pushed : (trees : List (Bor Tree)) (all : List Writes) (group pushed : List (Tree × Writes)) (left rest : List Writes) (t : Bor Tree) (u : Tree) (w : Writes) (place next : ℕ) → pushed ≡ group ++ (u, w) ∷ [] → u ≡ t.now → left ≡ w ∷ rest → next ≡ place + 1 → slice_get trees place ≡ Some t
    → zip (trees_of_list trees) all ≡ group ++ zip (drop place (trees_of_list trees)) left → zip (trees_of_list trees) all ≡ pushed ++ zip (drop next (trees_of_list trees)) rest
grouped_pushed trees all group pushed left rest t u w place next pushed_is u_is is next_is at e =
    e
    ∙ ap (λ l. group ++ zip (drop place (trees_of_list trees)) l) is
    ∙ ap (λ l. group ++ l) (zip_more (trees_of_list trees) place t.now w rest (tree_at trees place t at))
    ∙ sym (append_assoc group ((t.now, w) ∷ []) (zip (drop (suc place) (trees_of_list trees)) rest))
    ∙ ap (λ z. (group ++ (z, w) ∷ []) ++ zip (drop (suc place) (trees_of_list trees)) rest) (sym u_is)
    ∙ ap (λ p. p ++ zip (drop (suc place) (trees_of_list trees)) rest) (sym pushed_is)
    ∙ ap (λ n. pushed ++ zip (drop n (trees_of_list trees)) rest) (sym (next_is ∙ one_more place))

-- there is no batch left
pub grouped_batches : (trees : List (Bor Tree)) (all : List Writes) (group : List (Tree × Writes)) (left : List Writes) (place : ℕ) → left ≡ [] → zip (trees_of_list trees) all ≡ group ++ zip (drop place (trees_of_list trees)) left → group ≡ zip (trees_of_list trees) all
grouped_batches trees all group left place is e = sym (e ∙ ap (λ l. group ++ l) (zip_end (drop place (trees_of_list trees)) left is) ∙ append-nil group)

-- ---- the commit

module _ {P M : Type 0} (store : P → Store) (flush_number : P → ℕ) (meant : M → Merge) (old made new : DbValue P M) (batches all : List (Tree × Writes)) (same : batches ≡ all) (flushes : Bool) (group : GroupDecided store meant old batches made) (quiet : IsQuietGroup store meant old batches made) where
  pub committed : (r : Result (Unit {0}) Error) → OnOk r (flushes_as store flush_number meant flushes made new) → OnOk r (CommitsGroup store flush_number meant old all flushes new)
  committed (Ok x) h = subst (λ b. CommitsGroup store flush_number meant old b flushes new) same (record { made = made; group = group; quiet = quiet; flushed = h })
  committed (Err e) h = tt

  pub uncommitted : (r : Result (Unit {0}) Error) → IfErr r (λ e. (flushes ≡ true) × RefusesFlush store meant made new e) → IfErr r (λ e. StopsCommit store flush_number meant old all flushes e new)
  uncommitted (Ok x) h = tt
  uncommitted (Err e) h = subst (λ b. StopsCommit store flush_number meant old b flushes e new) same (record { is = inr (record { made = made; group = group; quiet = quiet; asked = h.0; refused = h.1 }) })

module _ {P M A E W : Type 0} (store : P → Store) (flush_number : P → ℕ) (meant : M → Merge) (tests : Error → Type 0) (reaches : Result (Commit A W) (TransactionError E) → Store → ℕ → Type 0) (batches_of : W → List (Tree × Writes)) (has : Bool) (old : DbValue P M) where
  -- the closure was run to this end
  pub ran_of : (ended : Result (Commit A W) (TransactionError E)) (new : DbValue P M) → reaches ended (store new.pages) new.greatest_id → TakesIds store meant old new → runs_as store meant tests reaches old ended new
  ran_of (Ok commit) new reached taken = record { runs = reached; takes = taken }
  ran_of (Err (Abort e)) new reached taken = record { runs = reached; takes = taken }
  ran_of (Err (Storage e)) new reached taken = inr (record { runs = reached; takes = taken })

  pub made_of : (commit : Commit A W) (run new : DbValue P M) (flushes : Bool) → flushes ≡ has && commit.flushes → RunsTo store meant reaches old (Ok commit) run
      → CommitsGroup store flush_number meant run (batches_of commit.writes) flushes new → Commits store flush_number meant tests reaches batches_of has old commit.answer new
  made_of commit run new flushes asked ran k = record {
    commit = commit;
    answers = refl;
    run = run;
    made = k.made;
    makes = record { runs = ran; group = k.group; quiet = k.quiet };
    flushes = subst (λ b. flushes_as store flush_number meant b k.made new) asked k.flushed;
  }

  pub not_made_of : (commit : Commit A W) (run new : DbValue P M) (e : Error) (flushes : Bool) → flushes ≡ has && commit.flushes → RunsTo store meant reaches old (Ok commit) run
      → StopsCommit store flush_number meant run (batches_of commit.writes) flushes e new → Fails store flush_number meant tests reaches batches_of has old (Storage e) new
  not_made_of commit run new e flushes asked ran k = record {
    is = elim k.is [
      | inl r ↦ ByGroup commit run ran r.0 r.1
      | inr l ↦ ByFlush commit run l.made (record { runs = ran; group = l.group; quiet = l.quiet }) (sym asked ∙ l.asked) l.refused
    ];
  }

  pub ended_of : (e : TransactionError E) (new : DbValue P M) → runs_as store meant tests reaches old (Err e) new → Fails store flush_number meant tests reaches batches_of has old e new
  ended_of (Abort e) new ran = record { is = ran }
  ended_of (Storage e) new (inl (cause, same)) = record { is = ByTest cause same }
  ended_of (Storage e) new (inr ran) = record { is = ByClosure ran }

-- ---- a method knows the database by its fields

module _ {P M : Type 0} (store : P → Store) (inside old : DbValue P M) (same : inside ≡ old) where
  pub so_over : (so : Store → ℕ → Type 0) → so (store inside.pages) inside.greatest_id → so (store old.pages) old.greatest_id
  so_over so h = subst (λ (d : DbValue P M). so (store d.pages) d.greatest_id) same h
