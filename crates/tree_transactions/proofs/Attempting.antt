-- Attempts, one after the other.
use Rattle.std.proofs.Common.{◌≡◌, ℕ, ◌+◌, ◌<◌, ◌≤◌, nat_lt, Bool, true, false, List, [], ◌∷◌, inl, inr, Some, None, Ok, Err, Result, add-one, refl, sym, ap, subst, ◌∙◌, arith}
use Rattle.sled_nodes.proofs.Basics.{second_true, none_some, some_is}
use Rattle.sled_nodes.specs.declared.error.Error.{Error}
use Rattle.sled_nodes.specs.declared.error.Error.TheVariants.{CollectionNotFound, Unsupported, ReportableBug, Io, Corruption, NoMemory, Closed}
use Rattle.sled_store.specs.Store.{Store, is_refused_as}
use Rattle.sled_model.specs.Ids.{greatest_of_all, raised}
use Rattle.tree_transactions.specs.Ids.{is_short, sets_aside_as, SetsAside, sets_aside_for, GoesOn, OnlyRaises}
use Rattle.tree_transactions.specs.Attempts.{Answer, Closure, Calls, Left, Attempt, Conflicts, NoConflict, OneConflict, Ends, RunsAttempts, runs_as}
use Rattle.tree_transactions.specs.theory.Attempts.{Attempts, made_as, ended_as}
use Rattle.tree_transactions.specs.declared.TheConstants.{MOST_ATTEMPTS}
use Rattle.tree_transactions.specs.declared.attempts.Commit.{Commit}
use Rattle.tree_transactions.specs.declared.errors.ConflictableTransactionError.{ConflictableTransactionError}
use Rattle.tree_transactions.specs.declared.errors.ConflictableTransactionError.TheVariants as closure
use Rattle.tree_transactions.specs.declared.errors.TransactionError.{TransactionError}

pub only_same : (s : Store) → OnlyRaises s s
only_same s = record { is = refl; mark = omega arith; faults = omega arith }

pub only_both : (a b c : Store) → OnlyRaises a b → OnlyRaises b c → OnlyRaises a c
only_both a b c p q = record {
  is = q.is ∙ ap (λ (s : Store). record s { mark = c.mark; faults = c.faults }) p.is;
  mark = omega (arith, p.mark, q.mark);
  faults = omega (arith, p.faults, q.faults);
}

refused_only : (e : Error) (old new : Store) → is_refused_as e old new → OnlyRaises old new
refused_only NoMemory old new h = subst (OnlyRaises old) (sym h) (only_same old)
refused_only (Io fault) old new h = subst (OnlyRaises old) (sym h) (record { is = refl; mark = omega arith; faults = omega arith })
refused_only (CollectionNotFound name) old new h = absurd h
refused_only (Unsupported text) old new h = absurd h
refused_only (ReportableBug text) old new h = absurd h
refused_only (Corruption fault) old new h = absurd h
refused_only Closed old new h = absurd h

raised_above : (mark : ℕ) → nat_lt mark greatest_of_all ≡ true → mark ≤ raised mark
raised_above mark h = grind arith

aside_only : (greatest : ℕ) (old new : Store) (b : Bool) → is_short greatest old.mark ≡ b → sets_aside_as b old new → OnlyRaises old new
aside_only greatest old new false e h = subst (OnlyRaises old) (sym h) (only_same old)
aside_only greatest old new true e (inl h) = subst (OnlyRaises old) (sym h) (record { is = refl; mark = raised_above old.mark (second_true _ _ e); faults = omega arith })
aside_only greatest old new true e (inr h) = refused_only h.0 old new h.1.is

pub sets_only : (greatest : ℕ) (old new : Store) → SetsAside greatest old new → OnlyRaises old new
sets_only greatest old new h = aside_only greatest old new (is_short greatest old.mark) refl h.is

pub sets_only_for : (roots : List ℕ) (greatest : ℕ) (old new : Store) → sets_aside_for roots greatest old new → OnlyRaises old new
sets_only_for [] greatest old new h = subst (OnlyRaises old) (sym h) (only_same old)
sets_only_for (root ∷ roots) greatest old new h = sets_only greatest old new h

module _ {F T R A E W : Type 0} (says : Closure F T R) (result_of : R → Answer A E) (f : F) (raises : ℕ → Store → Store → Type 0)
    (raises_only : (greatest : ℕ) (old new : Store) → raises greatest old new → OnlyRaises old new) (begins : Store → ℕ → T → Type 0) (left_of : T → Left W) where
  -- one call, with the ids that were set aside before it and those that go on after it, is an attempt
  pub attempted : (old new : Store) (greatest mark next : ℕ) (given after : T) (told : Answer A E) (made : Result (Commit A W) (ConflictableTransactionError E)) → raises greatest old new → begins new greatest given → Calls says result_of f given told after
      → mark ≡ new.mark → GoesOn greatest mark (left_of after).greatest_id next → made ≡ made_as told (left_of after).writes (left_of after).flushes
      → Attempts says result_of f raises begins left_of old greatest made new next
  attempted old new greatest mark next given after told made aside fresh calls mark_is ids is = subst (λ m. Attempts says result_of f raises begins left_of old greatest m new next) (sym is) (go told calls)
    where
      once : (answer : Answer A E) → Calls says result_of f given answer after → Attempt says result_of f raises begins left_of old greatest answer (left_of after).writes (left_of after).flushes new next
      once answer called = record {
        aside = aside;
        given = given;
        fresh = fresh;
        after = after;
        calls = called;
        writes_are = refl;
        flushes_is = refl;
        ids = subst (λ m. GoesOn greatest m (left_of after).greatest_id next) mark_is ids;
      }

      go : (answer : Answer A E) → Calls says result_of f given answer after → Attempts says result_of f raises begins left_of old greatest (made_as answer (left_of after).writes (left_of after).flushes) new next
      go (Ok answer) called = record { is = once (Ok answer) called }
      go (Err e) called = record { is = ((left_of after).writes, (left_of after).flushes, once (Err e) called) }

  -- so many attempts met a conflict, and what that leaves of the pages and the ids
  pub record OnWay (old : Store) (greatest count : ℕ) (new : Store) (next : ℕ) : Type 0 where
    pub so_far : Conflicts says result_of f raises begins left_of old greatest count new next
    pub only : OnlyRaises old new
    pub rises : greatest ≤ next
    pub aside : greatest ≤ old.mark → next ≤ new.mark

  pub on_way_first : (old : Store) (greatest : ℕ) → OnWay old greatest 0 old greatest
  on_way_first old greatest = record { so_far = NoConflict; only = only_same old; rises = omega arith; aside = λ h. h }

  attempt_only : (mid new : Store) (here next : ℕ) (answer : Answer A E) (writes : W) (flushes : Bool) → Attempt says result_of f raises begins left_of mid here answer writes flushes new next → OnlyRaises mid new
  attempt_only mid new here next answer writes flushes a = raises_only here mid new a.aside

  attempt_aside : (mid new : Store) (here next : ℕ) (answer : Answer A E) (writes : W) (flushes : Bool) → Attempt says result_of f raises begins left_of mid here answer writes flushes new next → here ≤ mid.mark → next ≤ new.mark
  attempt_aside mid new here next answer writes flushes a h = grind (arith, a.ids.rises, a.ids.aside, (raises_only here mid new a.aside).mark)

  conflict_more : (old mid new : Store) (greatest count here next : ℕ) (writes : W) (flushes : Bool) → OnWay old greatest count mid here
      → Attempt says result_of f raises begins left_of mid here (Err closure.Conflict) writes flushes new next → OnWay old greatest (count + 1) new next
  conflict_more old mid new greatest count here next writes flushes w a = rw add-one (record {
    so_far = OneConflict writes flushes w.so_far a;
    only = only_both old mid new w.only (attempt_only mid new here next _ writes flushes a);
    rises = omega (arith, w.rises, a.ids.rises);
    aside = λ le. attempt_aside mid new here next _ writes flushes a (w.aside le);
  })

  pub on_way_more : (old mid new : Store) (greatest count here next : ℕ) (told : Result (Commit A W) (ConflictableTransactionError E)) → OnWay old greatest count mid here
      → Attempts says result_of f raises begins left_of mid here told new next → ended_as told ≡ None → OnWay old greatest (count + 1) new next
  on_way_more old mid new greatest count here next (Ok commit) w h none = none_some (sym none)
  on_way_more old mid new greatest count here next (Err (closure.Abort e)) w h none = none_some (sym none)
  on_way_more old mid new greatest count here next (Err (closure.Storage e)) w h none = none_some (sym none)
  on_way_more old mid new greatest count here next (Err closure.Conflict) w h none = conflict_more old mid new greatest count here next h.is.0 h.is.1 w h.is.2

  -- .. and the one after them did not, by which the transaction ends
  pub on_way_ends : (old mid new : Store) (greatest count here next : ℕ) (told : Result (Commit A W) (ConflictableTransactionError E)) (ended : Result (Commit A W) (TransactionError E)) → OnWay old greatest count mid here → count < MOST_ATTEMPTS
      → Attempts says result_of f raises begins left_of mid here told new next → ended_as told ≡ Some ended → RunsAttempts says result_of f raises begins left_of old greatest ended new next
  on_way_ends old mid new greatest count here next told ended w few h is = go told h is
    where
      last : (answer : Answer A E) (writes : W) (flushes : Bool) → Attempt says result_of f raises begins left_of mid here answer writes flushes new next → Ends says result_of f raises begins left_of old greatest answer writes flushes new next
      last answer writes flushes a = record { count = count; few = few; mid = mid; here = here; before = w.so_far; last = a; only = only_both old mid new w.only (attempt_only mid new here next answer writes flushes a) }

      runs : (answer : Answer A E) (writes : W) (flushes : Bool) (t : Result (Commit A W) (TransactionError E)) → Some t ≡ Some ended → Attempt says result_of f raises begins left_of mid here answer writes flushes new next
          → runs_as says result_of f raises begins left_of old greatest t new next → RunsAttempts says result_of f raises begins left_of old greatest ended new next
      runs answer writes flushes t e a r = subst (λ t. RunsAttempts says result_of f raises begins left_of old greatest t new next) (some_is e) (record {
        is = r;
        only = only_both old mid new w.only (attempt_only mid new here next answer writes flushes a);
        rises = omega (arith, w.rises, a.ids.rises);
        aside = λ le. attempt_aside mid new here next answer writes flushes a (w.aside le);
      })

      go : (t : Result (Commit A W) (ConflictableTransactionError E)) → Attempts says result_of f raises begins left_of mid here t new next → ended_as t ≡ Some ended → RunsAttempts says result_of f raises begins left_of old greatest ended new next
      go (Ok commit) h e = runs _ commit.writes commit.flushes _ e h.is (last _ commit.writes commit.flushes h.is)
      go (Err (closure.Abort x)) h e = runs _ h.is.0 h.is.1 _ e h.is.2 (h.is.0, h.is.1, last _ h.is.0 h.is.1 h.is.2)
      go (Err (closure.Storage x)) h e = runs _ h.is.0 h.is.1 _ e h.is.2 (inl (h.is.0, h.is.1, last _ h.is.0 h.is.1 h.is.2))
      go (Err closure.Conflict) h e = none_some e
