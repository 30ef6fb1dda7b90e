-- What the taking of a job makes of the two trees of jobs.
use Rattle.std.proofs.Common.{◌≡◌, ◌≢◌, ℕ, true, false, Bool, List, [], ◌∷◌, zip, slice_get, slice_set, Option, Some, None, Result, Ok, Err, IfOk, IfErr, sym, refl, ap, ◌∙◌, subst, inl, inr}
use Rattle.std.specs.FinMap.Entries.{put}
use Rattle.sled_nodes.proofs.Basics.{none_some, some_is}
use Rattle.sled_nodes.proofs.Put.{found_here, found_there}
use denote.Ref.{MutBor}
use Rattle.sled_nodes.specs.Order.{Key, key_cmp}
use Rattle.sled_batch.specs.Batch.{Writes}
use Rattle.sled_store.specs.Store.{Store}
use Rattle.sled_model.specs.Maps.{Maps, Merge}
use Rattle.sled_model.specs.declared.tree.Tree.{Tree}
use Rattle.tree_transactions.specs.Attempts.{Answer, Closure, Calls}
use Rattle.tree_transactions.specs.Changes.{ChangesAt}
use Rattle.tree_transactions.specs.Positions.{ShowsAt}
use Rattle.tree_transactions.specs.declared.attempts.Commit.{Commit}
use Rattle.tree_transactions.specs.declared.errors.ConflictableTransactionError.{ConflictableTransactionError}
use Rattle.tree_transactions.specs.declared.errors.ConflictableTransactionError.TheVariants as closure
use Rattle.tree_transactions.specs.declared.errors.TransactionError.{TransactionError}
use Rattle.tree_transactions.specs.declared.errors.TransactionError.TheVariants.{Abort, Storage}
use Rattle.tree_transactions.specs.declared.trees.TransactionalTrees.{TransactionalTrees}
use Rattle.sled.specs.Sound.{IsDb}
use Rattle.sled.specs.Transactions.{RunsOnList, ListMade, ListNotMade, ShowsAtLaw}
use Rattle.sled.specs.Values.{DbValue}
use Rattle.example_parts.specs.Reads.{found_in, maps_now}
use Rattle.example_parts.proofs.Keys.{same_or_apart}
use Rattle.example_transactions.specs.Throughout.{HoldsThroughout}
use Rattle.example_transactions.specs.Jobs.{is_in_one, MovesJob, TakesJob, RefusesJob}
use Rattle.example_transactions.specs.theory.Jobs.{MovesInside, TakesInside, NotAborted}
use Rattle.example_transactions.proofs.Attempted.{makes_group, stops_before, LastAll, last_all_made, last_all_given_up, shown_at}
use Rattle.example_transactions.proofs.Made.{Wrote, found_by, MakesGroup, Stopped, NotWritten, made_holds, stopped_holds, stopped_stays, none_wrote, first_wrote, second_wrote, two_kept}

-- ---- the writes of two positions

pub first_changed : (old new : List Writes) (a b : Writes) (w : Writes → Writes) → old ≡ a ∷ b ∷ [] → ChangesAt old 0 w new → new ≡ w a ∷ b ∷ []
first_changed old new a b w e c = c.is ∙ ap (λ o. slice_set old 0 (w o)) (some_is (sym c.was ∙ ap (λ l. slice_get l 0) e)) ∙ ap (λ l. slice_set l 0 (w a)) e

pub second_changed : (old new : List Writes) (a b : Writes) (w : Writes → Writes) → old ≡ a ∷ b ∷ [] → ChangesAt old 1 w new → new ≡ a ∷ w b ∷ []
second_changed old new a b w e c = c.is ∙ ap (λ o. slice_set old 1 (w o)) (some_is (sym c.was ∙ ap (λ l. slice_get l 1) e)) ∙ ap (λ l. slice_set l 1 (w b)) e

-- ---- a job in maps

-- each job is in one of the two trees alone still, once one was taken
moved_in_one : (old new : Maps) (ready running job other value : Key) → MovesJob old new ready running job → is_in_one ready running other value old → is_in_one ready running other value new
moved_in_one old new ready running job other value m one = elim (same_or_apart other job) [
  | inl same ↦ subst (λ x. is_in_one ready running x value new) (sym same) (taken (subst (λ x. is_in_one ready running x value old) same one))
  | inr off ↦ elim one [
    | inl (here, away) ↦ inl (m.ready_keys other off ∙ here, m.running_keys other off ∙ away)
    | inr (away, here) ↦ inr (m.ready_keys other off ∙ away, m.running_keys other off ∙ here)
  ]
]
  where
    taken : is_in_one ready running job value old → is_in_one ready running job value new
    taken one = elim one [
      | inl (here, away) ↦ inr (m.gone, m.runs ∙ sym m.was ∙ here)
      | inr (away, here) ↦ none_some (sym away ∙ m.was)
    ]

-- what is told of a call of the closure
abbrev Told : {P F R : Type 0} → (P → Store) → Closure F (TransactionalTrees P) R → (R → Answer Bool (Unit {0})) → F → Key → Type 0
Told {P} {R = R} store says result_of f job = (shown left : MutBor (TransactionalTrees P)) (answer : R) → says.post f (shown, tt) (answer, (left, tt))
    → IfOk (result_of answer) (λ taken. TakesInside store shown.now job taken left.now) × IfErr (result_of answer) NotAborted

module _ {P M F R : Type 0} (store : P → Store) (flush_number : P → ℕ) (meant : M → Merge) (says : Closure F (TransactionalTrees P) R) (result_of : R → Answer Bool (Unit {0})) (f : F) (old : DbValue P M) (ready running : Tree) (job : Key)
    (law : ShowsAtLaw store meant) (sound : IsDb store old)
    (told : Told store says result_of f job) where
  abbrev trees : List Tree
  trees = ready ∷ running ∷ []

  abbrev before : Maps
  before = maps_now store meant old

  -- what its closure did
  takes : (given after : TransactionalTrees P) (taken : Bool) → Calls says result_of f given (Ok taken) after → TakesInside store given job taken after
  takes given after taken c =
      let t : TakesInside store c.shown.now job taken c.left.now = subst (λ r. IfOk r (λ b. TakesInside store c.shown.now job b c.left.now)) c.tells (told c.shown c.left c.told c.met).0 in
      subst (λ g. TakesInside store g job taken after) c.shows (subst (λ a. TakesInside store c.shown.now job taken a) c.leaves t)

  not_given_up : (given after : TransactionalTrees P) (e : ConflictableTransactionError (Unit {0})) → Calls says result_of f given (Err e) after → NotAborted e
  not_given_up given after e c = subst (λ r. IfErr r NotAborted) c.tells (told c.shown c.left c.told c.met).1

  flushes_stay : (given after : TransactionalTrees P) (taken : Bool) → TakesInside store given job taken after → after.flushes ≡ given.flushes
  flushes_stay given after true t =
      let (value, s, m) = t.is in
      ap (λ (x : TransactionalTrees P). x.flushes) m.in_.rest ∙ ap (λ (x : TransactionalTrees P). x.flushes) m.out.rest
  flushes_stay given after false t = ap (λ (x : TransactionalTrees P). x.flushes) t.is.1

  quiet : (commit : Commit Bool (List Writes)) (s : Store) (n : ℕ) → RunsOnList store meant says result_of f old trees (Ok commit) s n → commit.flushes ≡ false
  quiet commit s n r =
      let l = last_all_made store meant says result_of f old trees commit s n r in
      l.flushes_are ∙ flushes_stay l.given l.after commit.answer (takes l.given l.after commit.answer l.calls) ∙ l.unasked

  -- ---- it is made

  module _ (taken : Bool) (writes : List Writes) (flushes : Bool) (l : LastAll store meant says result_of f old trees (Ok taken) writes flushes) (new : DbValue P M) (g : MakesGroup store meant old (zip trees writes) new) where
    abbrev after : Maps
    after = maps_now store meant new

    was_ready : (value : Option Key) → ShowsAt store l.given 0 job value → found_in (before ready.name) job ≡ value
    was_ready value s = sym (shown_at store meant says result_of f old trees law sound (Ok taken) writes flushes l 0 ready refl refl job value s)

    -- the job was ready
    module _ (value : Key) (s : ShowsAt store l.given 0 job (Some value)) (m : MovesInside l.given job value l.after) (apart : ready.name ≢ running.name) where
      abbrev gone : Writes
      gone = put key_cmp job None []

      abbrev come : Writes
      come = put key_cmp job (Some value) []

      writes_are : writes ≡ gone ∷ come ∷ []
      writes_are = l.writes_are ∙ second_changed m.between.overlays l.after.overlays gone [] (put key_cmp job (Some value)) (first_changed l.given.overlays m.between.overlays [] [] (put key_cmp job None) l.empty m.out.changes) m.in_.changes

      made : MakesGroup store meant old ((ready, gone) ∷ (running, come) ∷ []) new
      made = subst (λ ws. MakesGroup store meant old (zip trees ws) new) writes_are g

      ready_wrote : Wrote before after ready.name gone
      ready_wrote = first_wrote store meant old new ready running gone come apart tt tt made

      running_wrote : Wrote before after running.name come
      running_wrote = second_wrote store meant old new ready running gone come apart tt tt made

      moved : MovesJob before after ready.name running.name job
      moved = record {
        value = value;
        was = was_ready (Some value) s;
        gone = found_by ready_wrote job (found_here job None []);
        runs = found_by running_wrote job (found_here job (Some value) []);
        ready_keys = λ other off. found_by ready_wrote other (found_there other job None [] off);
        running_keys = λ other off. found_by running_wrote other (found_there other job (Some value) [] off);
        trees = two_kept store meant old new ready running gone come apart tt tt made;
      }

    -- .. or it was not, and nothing was written
    unmoved : l.after ≡ l.given → after ≡ before
    unmoved same =
        let none : writes ≡ [] ∷ [] ∷ [] = l.writes_are ∙ ap (λ (x : TransactionalTrees P). x.overlays) same ∙ l.empty in
        none_wrote store meant old new ((ready, []) ∷ (running, []) ∷ []) refl (subst (λ ws. MakesGroup store meant old (zip trees ws) new) none g)

  module _ (writes : List Writes) (flushes : Bool) (new : DbValue P M) (g : MakesGroup store meant old (zip trees writes) new) (apart : ready.name ≢ running.name) where
    taken_of : (taken : Bool) → LastAll store meant says result_of f old trees (Ok taken) writes flushes → TakesJob before (maps_now store meant new) ready.name running.name job taken
    taken_of true l = let (value, s, m) = (takes l.given l.after true l.calls).is in record { is = moved true writes flushes l new g value s m apart }
    taken_of false l = let t = (takes l.given l.after false l.calls).is in record { is = (was_ready false writes flushes l new g None t.0, unmoved false writes flushes l new g t.1) }

    step_of : (taken : Bool) → TakesJob before (maps_now store meant new) ready.name running.name job taken → (other value : Key) → is_in_one ready.name running.name other value before → is_in_one ready.name running.name other value (maps_now store meant new)
    step_of true t other value one = moved_in_one before (maps_now store meant new) ready.name running.name job other value t.is one
    step_of false t other value one = subst (is_in_one ready.name running.name other value) (sym t.is.1) one

    keeps_of : (taken : Bool) → LastAll store meant says result_of f old trees (Ok taken) writes flushes → (other value : Key)
        → HoldsThroughout (store old.pages) (is_in_one ready.name running.name other value) → HoldsThroughout (store new.pages) (is_in_one ready.name running.name other value)
    keeps_of taken l other value holds = made_holds store meant (is_in_one ready.name running.name other value) old new sound holds (zip trees writes) g (step_of taken (taken_of taken l) other value)

  module _ (taken : Bool) (new : DbValue P M) (c : ListMade store flush_number meant says result_of f old trees taken new) (apart : ready.name ≢ running.name) where
    grouped : MakesGroup store meant old (zip trees c.commit.writes) new
    grouped = makes_group store flush_number meant _ (RunsOnList store meant says result_of f old trees) _ _ old quiet taken new c

    attempted : LastAll store meant says result_of f old trees (Ok taken) c.commit.writes c.commit.flushes
    attempted = subst (λ b. LastAll store meant says result_of f old trees (Ok b) c.commit.writes c.commit.flushes) c.answers (last_all_made store meant says result_of f old trees c.commit _ _ c.makes.runs.runs)

    took : TakesJob before (maps_now store meant new) ready.name running.name job taken
    took = taken_of c.commit.writes c.commit.flushes new grouped apart taken attempted

    took_keeps : (other value : Key) → HoldsThroughout (store old.pages) (is_in_one ready.name running.name other value) → HoldsThroughout (store new.pages) (is_in_one ready.name running.name other value)
    took_keeps = keeps_of c.commit.writes c.commit.flushes new grouped apart taken attempted

  -- ---- it is not

  stopped : (e : TransactionError (Unit {0})) (new : DbValue P M) → ListNotMade store flush_number meant says result_of f old trees e new → Stopped store meant old new
  stopped (Abort u) new n = NotWritten n.is.takes
  stopped (Storage e) new n = stops_before store flush_number meant _ (RunsOnList store meant says result_of f old trees) _ _ old quiet e new n.is

  refused : (e : TransactionError (Unit {0})) (new : DbValue P M) → ListNotMade store flush_number meant says result_of f old trees e new → RefusesJob store meant old new e
  refused (Abort u) new n =
      let g = last_all_given_up store meant says result_of f old trees u _ _ n.is.runs in
      absurd (not_given_up g.last.given g.last.after (closure.Abort u) g.last.calls).is
  refused (Storage e) new n = record { is = stopped_stays store meant old new (stopped (Storage e) new n) }

  refused_keeps : (e : TransactionError (Unit {0})) (new : DbValue P M) → ListNotMade store flush_number meant says result_of f old trees e new → (other value : Key)
      → HoldsThroughout (store old.pages) (is_in_one ready.name running.name other value) → HoldsThroughout (store new.pages) (is_in_one ready.name running.name other value)
  refused_keeps e new n other value holds = stopped_holds store meant (is_in_one ready.name running.name other value) old new sound holds (stopped e new n)

-- ---- the same, with what is told of the closure last

module _ {P M F R : Type 0} (store : P → Store) (flush_number : P → ℕ) (meant : M → Merge) (says : Closure F (TransactionalTrees P) R) (result_of : R → Answer Bool (Unit {0})) (f : F) (old new : DbValue P M) (ready running : Tree) (job : Key)
    (law : ShowsAtLaw store meant) (sound : IsDb store old) where
  pub job_taken : (taken : Bool) → ListMade store flush_number meant says result_of f old (ready ∷ running ∷ []) taken new → Told store says result_of f job
      → ready.name ≢ running.name → TakesJob (maps_now store meant old) (maps_now store meant new) ready.name running.name job taken
  job_taken taken is told apart = took store flush_number meant says result_of f old ready running job law sound told taken new is apart

  pub job_refused : (e : TransactionError (Unit {0})) → ListNotMade store flush_number meant says result_of f old (ready ∷ running ∷ []) e new → Told store says result_of f job → RefusesJob store meant old new e
  job_refused e not told = refused store flush_number meant says result_of f old ready running job law sound told e new not

  pub job_keeps : (r : Result Bool (TransactionError (Unit {0}))) → IfOk r (λ taken. ListMade store flush_number meant says result_of f old (ready ∷ running ∷ []) taken new)
      → IfErr r (λ e. ListNotMade store flush_number meant says result_of f old (ready ∷ running ∷ []) e new) → Told store says result_of f job → (other value : Key) → ready.name ≢ running.name
      → HoldsThroughout (store old.pages) (is_in_one ready.name running.name other value) → HoldsThroughout (store new.pages) (is_in_one ready.name running.name other value)
  job_keeps (Ok taken) is not told other value apart = took_keeps store flush_number meant says result_of f old ready running job law sound told taken new is apart other value
  job_keeps (Err e) is not told other value apart = refused_keeps store flush_number meant says result_of f old ready running job law sound told e new not other value
