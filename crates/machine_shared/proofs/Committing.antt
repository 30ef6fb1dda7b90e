-- What a transaction comes to, as one step from a state to the next.
use Rattle.std.proofs.Common.{◌≡◌, ◌∙◌, ◌⊎◌, inl, inr, ℕ, ◌<◌, Bool, true, false, List, [], ◌∷◌, ◌++◌, append-nil, length, get_or, Result, Ok, Err, OnOk, OnErr, IfErr, sym, refl, ap, subst}
use Rattle.std.proofs.lemmas.Option.{slice_get_read}
use Rattle.std.specs.Global.{Vec}
use Rattle.sled_nodes.specs.declared.error.Error.{Error}
use Rattle.sled_nodes.specs.declared.error.Error.TheVariants.{NoMemory}
use Rattle.sled_batch.specs.Batch.{Writes}
use Rattle.sled_store.specs.Store.{Store}
use Rattle.sled_model.specs.Collections.{Content}
use Rattle.sled_model.specs.Maps.{Merge}
use Rattle.sled_model.specs.State.{maps_of}
use Rattle.sled_model.specs.declared.call.Whole.TheVariants.{Flush}
use Rattle.sled_model.specs.declared.outcome.Outcome.{Outcome}
use Rattle.sled_model.specs.declared.outcome.Outcome.TheVariants as outcome
use Rattle.sled_model.specs.declared.tree.Tree.{Tree}
use Rattle.tree_reads.specs.Walk.{once}
use Rattle.tree_transactions.specs.declared.attempts.Commit.{Commit}
use Rattle.tree_transactions.specs.declared.errors.TransactionError.{TransactionError}
use Rattle.tree_transactions.specs.declared.errors.TransactionError.TheVariants.{Abort, Storage}
use Rattle.sled.specs.Reads.{RefusesReading}
use Rattle.sled.specs.Values.{DbValue, db_state}
use Rattle.machine_alone.specs.Values.{MachineValue}
use Rattle.machine_shared.specs.Made.{EntryValue, MadeValue}
use Rattle.machine_shared.specs.Notes.{entries_of}
use Rattle.machine_shared.specs.Scans.{ScansValue}
use Rattle.machine_shared.specs.Transacted.{DoesNothing, CannotNote, LacksMemory, CannotRead, MakesGroup, CommitsGroup, RefusesCommit, ByNoting, ByGroup, ByFlush, ByTest, ByClosure, ByCommit, OnlyRuns, commits_as, flushes_as, transacts_as, with_db}
use Rattle.machine_shared.specs.Transactions.{transaction_made}
use Rattle.machine_shared.specs.UnderLock.{MakesWhole}
use Rattle.machine_shared.specs.Values.{CallerValue, OpeningValue, StateValue}
use Rattle.machine_shared.specs.theory.Transacting.{GroupMade, GroupUnmade, StopsGroup, is_decided, is_refused_as, ran_as}

-- nothing was done where nothing changed
pub nothing : {P M : Type 0} (me : CallerValue) (s : StateValue P M) → DoesNothing me me s s
nothing me s = record { caller = refl; state = refl }

-- ---- what is to be noted

module _ {P M : Type 0} (store : P → Store) (meant : M → Merge) (d : DbValue P M) (batches : List (Tree × Writes)) where
  -- what is at the keys of a batch cannot be noted
  pub cannot_note_at : (i : ℕ) (b : Tree × Writes) (e : Error) → i < length batches → b ≡ get_or batches i b → (e ≡ NoMemory) ⊎ RefusesReading store meant d b.0 once e → CannotNote store meant d batches e
  cannot_note_at i b e less at why = elim why [
    | inl n ↦ LacksMemory n
    | inr r ↦ CannotRead i b (slice_get_read batches (length batches) i b refl less at) r
  ]

  pub lacks_memory : {A : Type 0} (r : Result A Error) → IfErr r (λ e. e ≡ NoMemory) → IfErr r (CannotNote store meant d batches)
  lacks_memory (Ok x) n = tt
  lacks_memory (Err e) n = LacksMemory n

-- ---- a group, told by the parts of two states

module _ {P M : Type 0} (store : P → Store) (flush_number : P → ℕ) (meant : M → Merge) (machine after : MachineValue P M) (opening : OpeningValue) (scans : ScansValue) (history longer : List EntryValue) (number : ℕ) (list more : List MadeValue)
    (group : Vec (Tree × Writes)) (noted : List MadeValue) (s : StateValue P M) (at_s : record { machine = machine; opening = opening; history = history; scans = scans } ≡ s) (m : CallerValue) (at_m : record { number = number; made = list } ≡ m)
    (grows : longer ≡ history ++ entries_of number noted) (grows_there : more ≡ list ++ noted) where
  abbrev was : StateValue P M
  was = record { machine = machine; opening = opening; history = history; scans = scans }

  abbrev becomes : StateValue P M
  becomes = record { machine = after; opening = opening; history = longer; scans = scans }

  abbrev caller_was : CallerValue
  caller_was = record { number = number; made = list }

  abbrev caller_becomes : CallerValue
  caller_becomes = record { number = number; made = more }

  pub made_group : (r : Result (Unit {0}) Error) → OnOk r (GroupMade store flush_number meant machine group after) → OnOk r (noted ≡ transaction_made (maps_of (db_state store meant machine.db)) group.items ∷ [])
      → OnOk r (MakesGroup store flush_number meant group.items m caller_becomes s becomes)
  made_group (Err e) g n = tt
  made_group (Ok x) g n =
      subst (λ z. MakesGroup store flush_number meant group.items m caller_becomes z becomes) at_s
      (subst (λ z. MakesGroup store flush_number meant group.items z caller_becomes was becomes) at_m
      (record {
        group = group;
        holds = refl;
        reply = g.reply;
        step = g.step;
        adds = record { history = grows ∙ ap (λ l. history ++ entries_of number l) n; list = ap (λ l. record { number = number; made = l }) (grows_there ∙ ap (λ l. list ++ l) n); opening = refl };
        scans = refl;
      }))

  unmade : (e : Error) → noted ≡ [] → GroupUnmade store flush_number meant machine group after e → StopsGroup store flush_number meant group.items e caller_was caller_becomes was becomes
  unmade e n g =
      let no_more : more ≡ list = grows_there ∙ ap (λ l. list ++ l) n ∙ append-nil list in
      let no_longer : longer ≡ history = grows ∙ ap (λ l. history ++ entries_of number l) n ∙ append-nil history in
      let same : caller_becomes ≡ caller_was = ap (λ l. record { number = number; made = l }) no_more in
      elim g [
        | inl u ↦ inl (u.1, record { caller = same; state = ap (λ (h : List EntryValue). record { machine = after; opening = opening; history = h; scans = scans }) no_longer ∙ ap (λ (x : MachineValue P M). record { machine = x; opening = opening; history = history; scans = scans }) u.0 })
        | inr u ↦ inr (record { group = group; holds = refl; step = u.step; same = ap (λ (h : List EntryValue). record { machine = after; opening = opening; history = h; scans = scans }) no_longer }, same)
      ]

  pub unmade_group : (r : Result (Unit {0}) Error) → IfErr r (GroupUnmade store flush_number meant machine group after) → OnErr r (noted ≡ []) → IfErr r (λ e. StopsGroup store flush_number meant group.items e m caller_becomes s becomes)
  unmade_group (Ok x) g n = tt
  unmade_group (Err e) g n =
      subst (λ z. StopsGroup store flush_number meant group.items e m caller_becomes z becomes) at_s
      (subst (λ z. StopsGroup store flush_number meant group.items e z caller_becomes was becomes) at_m (unmade e n g))

module _ {P M : Type 0} (store : P → Store) (flush_number : P → ℕ) (meant : M → Merge) where
  -- ---- the flush after it

  pub flush_made : (old new : StateValue P M) (me more : CallerValue) (o : Outcome) (r : Result (Unit {0}) Error) → OnOk r (is_decided o) → MakesWhole store flush_number meant Flush o me more old new
      → OnOk r (flushes_as store flush_number meant true me more old new)
  flush_made old new me more o (Err e) d makes = tt
  flush_made old new me more (outcome.Decided reply) (Ok x) d makes = (reply, makes)
  flush_made old new me more other (Ok x) d makes = absurd d

  refused_so : (old new : StateValue P M) (me more : CallerValue) (o : Outcome) (e : Error) → is_refused_as o e → MakesWhole store flush_number meant Flush o me more old new → o ≡ outcome.Refused e
  refused_so old new me more (outcome.Decided reply) e u makes = absurd u
  refused_so old new me more (outcome.Refused x) e u makes = ap (λ y. outcome.Refused y) (sym u)
  refused_so old new me more other e u makes = elim makes.notes.comes [
    | inl d ↦ absurd d.step.step.step.is
    | inr c ↦ no_other c.refused
  ]
    where
      no_other : {X : Type 0} → other ≡ outcome.Refused NoMemory → X
      no_other f = cc

  pub flush_refused : (old new : StateValue P M) (me more : CallerValue) (o : Outcome) (r : Result (Unit {0}) Error) → IfErr r (is_refused_as o) → MakesWhole store flush_number meant Flush o me more old new
      → IfErr r (λ e. MakesWhole store flush_number meant Flush (outcome.Refused e) me more old new)
  flush_refused old new me more o (Ok x) u makes = tt
  flush_refused old new me more o (Err e) u makes = subst (λ y. MakesWhole store flush_number meant Flush y me more old new) (refused_so old new me more o e u makes) makes

  -- ---- both

  module _ (batches : List (Tree × Writes)) (flushes : Bool) (me between more : CallerValue) (old made new : StateValue P M) where
    -- without a flush
    pub commits_alone : flushes ≡ false → MakesGroup store flush_number meant batches me more old new → CommitsGroup store flush_number meant batches flushes me more old new
    commits_alone off g = record { between = more; made = new; group = g; flush = subst (λ b. flushes_as store flush_number meant b more more new new) (sym off) (nothing more new) }

    -- .. and with one
    pub commits_flushed : (r : Result (Unit {0}) Error) → flushes ≡ true → MakesGroup store flush_number meant batches me between old made → OnOk r (flushes_as store flush_number meant true between more made new) → OnOk r (CommitsGroup store flush_number meant batches flushes me more old new)
    commits_flushed (Err e) on g f = tt
    commits_flushed (Ok x) on g f = record { between = between; made = made; group = g; flush = subst (λ b. flushes_as store flush_number meant b between more made new) (sym on) f }

    pub stops_flushing : (r : Result (Unit {0}) Error) → flushes ≡ true → MakesGroup store flush_number meant batches me between old made → IfErr r (λ e. MakesWhole store flush_number meant Flush (outcome.Refused e) between more made new) → IfErr r (λ e. RefusesCommit store flush_number meant batches flushes e me more old new)
    stops_flushing (Ok x) on g f = tt
    stops_flushing (Err e) on g f = ByFlush {between = between} {made = made} g on f

    pub stops_group : (e : Error) → StopsGroup store flush_number meant batches e me more old new → RefusesCommit store flush_number meant batches flushes e me more old new
    stops_group e s = elim s [
      | inl n ↦ ByNoting n.0 n.1
      | inr r ↦ ByGroup r.0 r.1
    ]

    pub stops_unmade : (e : Error) → e ≡ NoMemory → more ≡ me → new ≡ old → RefusesCommit store flush_number meant batches flushes e me more old new
    stops_unmade e n same still = ByNoting (LacksMemory n) (record { caller = same; state = still })

  -- ---- a transaction

  module _ {A E W : Type 0} (tests : DbValue P M → Error → Type 0) (runs : DbValue P M → Result (Commit A W) (TransactionError E) → DbValue P M → Type 0) (batches_of : W → List (Tree × Writes)) (has : Bool) (me more : CallerValue) (old run new : StateValue P M) (same : run ≡ with_db old run.machine.db) where
    pub transacted : (commit : Commit A W) → runs old.machine.db (Ok commit) run.machine.db → commits_as store flush_number meant has (batches_of commit.writes) commit.flushes me more run new
        → transacts_as store flush_number meant tests runs batches_of has (Ok commit.answer) me more old new
    transacted commit ran commits = record { commit = commit; answers = refl; after = run.machine.db; ran = ran; commits = subst (λ (z : StateValue P M). commits_as store flush_number meant has (batches_of commit.writes) commit.flushes me more z new) same commits }

    pub uncommitted : (commit : Commit A W) (e : Error) → runs old.machine.db (Ok commit) run.machine.db → has ≡ true → RefusesCommit store flush_number meant (batches_of commit.writes) commit.flushes e me more run new
        → transacts_as store flush_number meant tests runs batches_of has (Err (Storage e)) me more old new
    uncommitted commit e ran there why = ByCommit commit run.machine.db ran there (subst (λ (z : StateValue P M). RefusesCommit store flush_number meant (batches_of commit.writes) commit.flushes e me more z new) same why)

  -- a closure that did not end by something to write, or was not run
  module _ {A E W : Type 0} (tests : DbValue P M → Error → Type 0) (runs : DbValue P M → Result (Commit A W) (TransactionError E) → DbValue P M → Type 0) (batches_of : W → List (Tree × Writes)) (has : Bool) (me : CallerValue) (old run : StateValue P M) (same : run ≡ with_db old run.machine.db) where
    only_ran : (e : TransactionError E) → runs old.machine.db (Err e) run.machine.db → OnlyRuns {A = A} store flush_number meant tests runs batches_of has (Err e) me me old run
    only_ran e ran = record { after = run.machine.db; ran = ran; nothing = record { caller = refl; state = same } }

    pub not_made : (e : TransactionError E) → ran_as (tests old.machine.db) (runs old.machine.db) old.machine.db (Err e) run.machine.db → transacts_as {A = A} store flush_number meant tests runs batches_of has (Err e) me me old run
    not_made (Abort e) ran = only_ran (Abort e) ran
    not_made (Storage e) (inl t) = ByTest t.0 (record { caller = refl; state = same ∙ ap (λ (d : DbValue P M). with_db old d) t.1 })
    not_made (Storage e) (inr r) = ByClosure (only_ran (Storage e) r)
