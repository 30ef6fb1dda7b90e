-- What is noted of a transaction, and what reads show inside one.
use Rattle.std.proofs.Common.{◌≡◌, ◌∙◌, ◌⊎◌, ℕ, Bool, true, false, List, [], ◌∷◌, ◌++◌, append_assoc, append-nil, None, Result, Ok, Err, OnOk, OnErr, sym, refl, ap, subst, inl, inr}
use Rattle.sled_nodes.specs.declared.error.Error.{Error}
use Rattle.sled_batch.specs.Batch.{Writes}
use Rattle.sled_store.specs.Store.{Store}
use Rattle.sled_model.specs.Maps.{Merge}
use Rattle.sled_model.specs.State.{maps_of}
use Rattle.sled_model.specs.declared.call.Whole.TheVariants.{Flush}
use Rattle.sled_model.specs.declared.outcome.Outcome.{Outcome}
use Rattle.sled_model.specs.declared.outcome.Outcome.TheVariants as outcome
use Rattle.sled_model.specs.declared.reply.Reply.{Reply}
use Rattle.sled_model.specs.declared.reply.Reply.TheVariants.{Number}
use Rattle.sled_model.specs.declared.tree.Tree.{Tree}
use Rattle.tree_transactions.specs.declared.attempts.Commit.{Commit}
use Rattle.tree_transactions.specs.declared.errors.TransactionError.{TransactionError}
use Rattle.tree_transactions.specs.declared.errors.TransactionError.TheVariants.{Abort, Storage}
use Rattle.sled.specs.Sound.{IsDb}
use Rattle.sled.specs.Transactions.{TakesIds, runs_as}
use Rattle.sled.specs.Values.{DbValue, db_state}
use Rattle.machine_alone.specs.Values.{MachineValue, configuration_of}
use Rattle.machine_shared.specs.Made.{EntryValue, MadeValue, WholeMade}
use Rattle.machine_shared.specs.Transactions.{AddsTransaction, IsOnce, RunsWell, flush_noted, transaction_made}
use Rattle.machine_shared.specs.WholeNotes.{noted_with, ComesToWhole, NotesWhole}
use Rattle.machine_shared.specs.Wholes as value
use Rattle.machine_shared.specs.theory.Transacting.{is_decided, is_undecided, ran_as, adds_commit, AddsCommit, AddsFlush, StopsCommit}
use Rattle.machine_shared.proofs.WholeMakes.{makes}

-- ---- results

pub then_ok : {T E : Type 0} {A B : Type 0} (r : Result T E) → OnOk r A → (A → B) → OnOk r B
then_ok (Ok x) a f = f a
then_ok (Err e) a f = tt

pub then_err : {T E : Type 0} {A B : Type 0} (r : Result T E) → OnErr r A → (A → B) → OnErr r B
then_err (Ok x) a f = tt
then_err (Err e) a f = f a

-- ---- flushes

module _ {P M : Type 0} (store : P → Store) (number : P → ℕ) (meant : M → Merge) (a b : MachineValue P M) where
  never : (reply : Reply) {X : Type 0} {x : Error} → outcome.Decided reply ≡ outcome.Refused x → X
  never reply e = cc

  flush_came : (reply : Reply) (noted : List MadeValue) → ComesToWhole store number meant a Flush (outcome.Decided reply) b noted → (count : ℕ) × (noted ≡ WholeMade value.Flush (Number count) ∷ [])
  flush_came reply noted (inl d) =
      let told = (makes (configuration_of store number meant a) Flush reply (configuration_of store number meant b).state d.step.step.maps d.step.step.step.is).0 in
      (told.0, d.notes ∙ ap (λ r. WholeMade value.Flush r ∷ []) told.1)
  flush_came reply noted (inr c) = never reply c.refused

  flush_went : (o : Outcome) → is_undecided o → (noted : List MadeValue) → ComesToWhole store number meant a Flush o b noted → noted ≡ []
  flush_went (outcome.Decided reply) u noted k = absurd u
  flush_went (outcome.Refused x) u noted (inl d) = d.notes ∙ ap (noted_with value.Flush None) d.counts.is
  flush_went (outcome.Refused x) u noted (inr c) = c.none
  flush_went other u noted (inl d) = absurd d.step.step.step.is
  flush_went other u noted (inr c) = c.none

  flush_decided : (o : Outcome) → is_decided o → (noted : List MadeValue) → ComesToWhole store number meant a Flush o b noted → (count : ℕ) × (noted ≡ WholeMade value.Flush (Number count) ∷ [])
  flush_decided (outcome.Decided reply) u noted k = flush_came reply noted k
  flush_decided other u noted k = absurd u

  module _ (history longer : List EntryValue) (n : ℕ) (made more : List MadeValue) (o : Outcome) (t : NotesWhole store number meant a history n made Flush o b longer more) where
    pub flush_adds : is_decided o → AddsFlush made more
    flush_adds d = let f = flush_decided o d t.noted t.comes in (f.0, t.adds_there ∙ ap (λ l. made ++ l) f.1)

    pub flush_adds_none : is_undecided o → more ≡ made
    flush_adds_none u = t.adds_there ∙ ap (λ l. made ++ l) (flush_went o u t.noted t.comes) ∙ append-nil made

-- ---- what is made of what was written

module _ (v : MadeValue) (flushes : Bool) (made mid more : List MadeValue) where
  -- nothing
  pub commit_none : more ≡ made → StopsCommit v flushes made more
  commit_none e = record { is = inl e }

  -- the group, without a flush
  pub commit_unflushed : flushes ≡ false → more ≡ made ++ v ∷ [] → AddsCommit v flushes made more
  commit_unflushed off e = record { flush = []; flushed = subst (λ b. flush_noted b []) (sym off) refl; adds = e }

  -- .. and with one, which was made or refused
  module _ (on : flushes ≡ true) (e : mid ≡ made ++ v ∷ []) where
    pub commit_flushed : AddsFlush mid more → AddsCommit v flushes made more
    commit_flushed f = record {
      flush = WholeMade value.Flush (Number f.0) ∷ [];
      flushed = subst (λ b. flush_noted b (WholeMade value.Flush (Number f.0) ∷ [])) (sym on) (f.0, refl);
      adds = f.1 ∙ ap (λ l. l ++ WholeMade value.Flush (Number f.0) ∷ []) e ∙ append_assoc made (v ∷ []) (WholeMade value.Flush (Number f.0) ∷ []);
    }

    pub commit_unmade : more ≡ mid → StopsCommit v flushes made more
    commit_unmade f = record { is = inr (on, f ∙ e) }

-- ---- transactions

-- a closure was run to this end, in a database whose pages are well formed
pub ran : {P M A E W : Type 0} (store : P → Store) (meant : M → Merge) (tests : Error → Type 0) (reaches : Result (Commit A W) (TransactionError E) → Store → ℕ → Type 0) (d : DbValue P M) → IsDb store d → (ended : Result (Commit A W) (TransactionError E)) (after : DbValue P M)
    → runs_as store meant tests reaches d ended after → ran_as tests (RunsWell store meant reaches d) d ended after
ran store meant tests reaches d sound (Ok commit) after r = record { sound = sound; runs = r }
ran store meant tests reaches d sound (Err (Abort e)) after r = record { sound = sound; runs = r }
ran store meant tests reaches d sound (Err (Storage e)) after (inl t) = inl t
ran store meant tests reaches d sound (Err (Storage e)) after (inr r) = inr (record { sound = sound; runs = r })

-- ids were taken, or nothing changed
pub taken : {P M A E W : Type 0} (store : P → Store) (meant : M → Merge) (tests : Error → Type 0) (reaches : Result (Commit A W) (TransactionError E) → Store → ℕ → Type 0) (d : DbValue P M) (ended : Result (Commit A W) (TransactionError E)) (after : DbValue P M)
    → runs_as store meant tests reaches d ended after → TakesIds store meant d after ⊎ (after ≡ d)
taken store meant tests reaches d (Ok commit) after r = inl r.takes
taken store meant tests reaches d (Err (Abort e)) after r = inl r.takes
taken store meant tests reaches d (Err (Storage e)) after (inl t) = inr t.1
taken store meant tests reaches d (Err (Storage e)) after (inr r) = inl r.takes

-- the maps are not asked for ids
pub taken_maps : {P M : Type 0} (store : P → Store) (meant : M → Merge) (d after : DbValue P M) → TakesIds store meant d after → maps_of (db_state store meant after) ≡ maps_of (db_state store meant d)
taken_maps store meant d after t = ap maps_of (t.state (λ n. None) 0)

module _ {P M A E W : Type 0} (store : P → Store) (meant : M → Merge) (so : DbValue P M → Result (Commit A W) (TransactionError E) → DbValue P M → Type 0) (batches_of : W → List (Tree × Writes)) (has : Bool) (d after : DbValue P M) (made more : List MadeValue) where
  pub ended_made : (commit : Commit A W) → so d (Ok commit) after → maps_of (db_state store meant after) ≡ maps_of (db_state store meant d) → adds_commit has (transaction_made (maps_of (db_state store meant after)) (batches_of commit.writes)) commit.flushes made more
      → AddsTransaction (IsOnce store meant so) batches_of has (Ok commit.answer) made more
  ended_made commit r same = go has
    where
      go : (b : Bool) → adds_commit b (transaction_made (maps_of (db_state store meant after)) (batches_of commit.writes)) commit.flushes made more → AddsTransaction (IsOnce store meant so) batches_of b (Ok commit.answer) made more
      go true c = record {
        noted = transaction_made (maps_of (db_state store meant after)) (batches_of commit.writes) ∷ c.flush;
        notes = record { commit = commit; maps = maps_of (db_state store meant after); reached = (d, after, same, r); answers = refl; flush = c.flush; flushed = c.flushed; is = refl };
        adds = c.adds;
      }
      go false none = record {
        noted = [];
        notes = record { commit = commit; maps = maps_of (db_state store meant after); reached = (d, after, same, r); answers = refl; flush = []; flushed = refl; is = refl };
        adds = none ∙ sym (append-nil made);
      }

  pub ended_stopped : (commit : Commit A W) (e : Error) → so d (Ok commit) after → maps_of (db_state store meant after) ≡ maps_of (db_state store meant d) → has ≡ true → StopsCommit (transaction_made (maps_of (db_state store meant after)) (batches_of commit.writes)) commit.flushes made more
      → AddsTransaction (IsOnce store meant so) batches_of has (Err (Storage e)) made more
  ended_stopped commit e r same there s = elim s.is [
    | inl n ↦ record { noted = []; notes = inl refl; adds = n ∙ sym (append-nil made) }
    | inr n ↦ record {
      noted = transaction_made (maps_of (db_state store meant after)) (batches_of commit.writes) ∷ [];
      notes = inr (record { commit = commit; maps = maps_of (db_state store meant after); reached = (d, after, same, r); there = there; asked = n.0; is = refl });
      adds = n.1;
    }
  ]

  pub ended_failed : (tests : Error → Type 0) (e : TransactionError E) → ran_as tests (so d) d (Err e) after → AddsTransaction (IsOnce store meant so) batches_of has (Err e) made made
  ended_failed tests (Abort e) r = record { noted = []; notes = ((maps_of (db_state store meant d), (d, after, refl, r)), refl); adds = sym (append-nil made) }
  ended_failed tests (Storage e) r = record { noted = []; notes = inl refl; adds = sym (append-nil made) }

pub adds_closed : {P M A E W : Type 0} (store : P → Store) (meant : M → Merge) (so : DbValue P M → Result (Commit A W) (TransactionError E) → DbValue P M → Type 0) (batches_of : W → List (Tree × Writes)) (has : Bool) (e : Error) (made : List MadeValue)
    → AddsTransaction (IsOnce store meant so) batches_of has (Err (Storage e)) made made
adds_closed store meant so batches_of has e made = record { noted = []; notes = inl refl; adds = sym (append-nil made) }
