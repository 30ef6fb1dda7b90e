-- Ids: the mark is raised, and an id is given.
use Rattle.std.proofs.Common.{◌≡◌, ◌∙◌, [], ℕ, ◌+◌, ◌<◌, ◌≤◌, not, cond, true, false, Option, Some, None, option_map, refl, sym, ap, subst, arith}
use Rattle.std.specs.FinMap.Entries.{find}
use Rattle.std.specs.Ordering.{nat_cmp}
use Rattle.sled_store.specs.In.{In}
use Rattle.sled_store.specs.Crash.{crash_states}
use Rattle.sled_store.specs.Store.{Store, now}
use Rattle.sled_nodes.specs.declared.error.Error.{Error}
use Rattle.sled_nodes.specs.declared.error.Error.TheVariants as error
use Rattle.sled_model.specs.Maps.{Merge}
use Rattle.sled_model.specs.State.{CallInFlight}
use Rattle.sled_model.specs.Refusal.{IsClosed, first_of, must_refuse, MayRefuse, ToCall, cause_of_id, may_refuse_as, cause_of}
use Rattle.sled_model.specs.Transition.{Telling}
use Rattle.sled_model.specs.declared.call.Whole.TheVariants.{GenerateId}
use Rattle.sled_model.specs.declared.outcome.Outcome.TheVariants as outcome
use Rattle.sled_model.specs.declared.reply.Reply.TheVariants.{Number}
use Rattle.sled_tree.specs.Known.{IsKnown}
use Rattle.tree_laws.specs.Contents.{trees_of}
use Rattle.tree_laws.specs.Crashes.{IsCrashConsistent}
use Rattle.tree_laws.specs.Forest.{IsSized}
use Rattle.tree_laws.specs.Snapshot.{Snapshot, snapshot_of, HasForest, nodes_at}
use Rattle.tree_laws.proofs.Crashing.{extends_nothing, same_left}
use Rattle.sled_queues.specs.Values.{queue_at}
use Rattle.sled_queues.specs.Queues.{queues_of}
use Rattle.sled.specs.Values.{DbValue, named, numbers_of, given_to, state_of, snapshot_of_db}
use Rattle.sled.specs.Sound.{IsDb}
use Rattle.sled.specs.Direct.{KeepsOrFreesTreePages, LeavesAll, effect_of_whole, WholeDecided, WholeRefused}
use Rattle.sled_model.specs.Ids.{mark_above}
use Rattle.sled.specs.Ids.{refuses_to_raise_as, RefusesToRaise, GivesId, refuses_id_as, RefusesId}
use Rattle.sled.proofs.Conducting.{loses_same}
use Rattle.sled.proofs.Flushing.{same_state, same_moment}
use Rattle.sled.proofs.Resting.{Rests, rests_same, rests_faulted, rests_now, rests_left, rests_extends}

rests_raised : (e : Error) (a b : Store) → refuses_to_raise_as a e b → Rests a b
rests_raised error.NoMemory a b t = rests_same t.1
rests_raised (error.Io fault) a b t = rests_faulted (a.faults + 1) t.1
rests_raised (error.Unsupported text) a b t = rests_same t.2
rests_raised other a b t = absurd t.1

module _ {P M : Type 0} (store : P → Store) (meant : M → Merge) (old : DbValue P M) where
  -- over pages that differ in the mark, and in the faults that were counted, alone
  module _ (q : P) (m n id : ℕ) (e : store q ≡ record (store old.pages) { mark = m; faults = n }) where
    abbrev taken : DbValue P M
    taken = record old { pages = q; greatest_id = id }

    moment_taken : snapshot_of_db store taken ≡ snapshot_of_db store old
    moment_taken = ap (λ (s : Store). snapshot_of s (numbers_of old.trees) (given_to old.trees_given)) e

    db_taken : id ≤ m → IsDb store old → IsDb store taken
    db_taken aside db = record {
      forest = db.forest;
      is = subst (λ (z : Snapshot). HasForest z db.forest) (sym moment_taken) db.is;
      sized = subst (λ (z : Snapshot). IsSized (nodes_at z) db.forest) (sym moment_taken) db.sized;
      safe = subst IsCrashConsistent (sym e) (record { whole = db.safe.whole });
      ascends = db.ascends;
      default = db.default;
      ungiven = db.ungiven;
      calm = db.calm;
      ids = subst (λ (s : Store). id ≤ s.mark) (sym e) aside;
    }

    pub state_taken : (slots : ℕ → Option CallInFlight) (given : ℕ) → state_of store meant taken slots given ≡ record (state_of store meant old slots given) { greatest_id = id; mark = m }
    state_taken slots given i = record {
      name = old.name;
      trees = λ t. named (numbers_of old.trees t) (trees_of (now (e i)) t) (λ n. option_map meant (find nat_cmp n old.operators));
      queues = queues_of (queue_at old.queues);
      slots = slots;
      is_open = not (now (e i)).in_group;
      greatest_id = id;
      mark = (e i).mark;
      trees_given = old.trees_given;
      slots_given = given;
      subscribers_given = old.queues.given;
    }

    pub left_taken : crash_states (store q) ≡ crash_states (store old.pages)
    left_taken = same_left (store old.pages) (store q) (ap (λ (s : Store). s.base) e) (ap (λ (s : Store). s.recent) e)

    pub leaves_taken : (IsDb store old → id ≤ m) → LeavesAll store [] None old taken
    leaves_taken aside = record {
      extends = extends_nothing (store old.pages) (store q) (ap (λ (s : Store). s.base) e) (ap (λ (s : Store). s.recent) e) (ap (λ (s : Store). s.actions) e);
      others = λ h known. subst (λ (z : Snapshot). IsKnown z h) (sym moment_taken) known;
      loses = subst (λ (z : Snapshot). KeepsOrFreesTreePages None (snapshot_of_db store old) z) (sym moment_taken) (loses_same (snapshot_of_db store old));
      sound = λ db. db_taken (aside db) db;
    }

  pub gives : (q : P) → (now (store old.pages)).in_group ≡ false → store q ≡ record (store old.pages) { mark = mark_above old.greatest_id (store old.pages).mark } → old.greatest_id < (store q).mark
      → GivesId store meant old (old.greatest_id + 1) (record old { pages = q; greatest_id = old.greatest_id + 1 })
  gives q no_group e above = record {
    free = ap (λ b. first_of (cond (not b) None (Some IsClosed)) None) no_group;
    next = refl;
    aside = at_most _ _ above;
    is = e;
    same = refl;
    state = state_taken q _ (store old.pages).faults (old.greatest_id + 1) e;
    left = left_taken q _ (store old.pages).faults (old.greatest_id + 1) e;
    leaves = leaves_taken q _ (store old.pages).faults (old.greatest_id + 1) e (λ db. subst (λ (s : Store). old.greatest_id + 1 ≤ s.mark) e (at_most _ _ above));
  }
    where
      at_most : (x y : ℕ) → x < y → x + 1 ≤ y
      at_most x y l = omega arith

  -- refused by the store, or for want of ids
  pub leaves_rests : (q : P) → Rests (store old.pages) (store q) → LeavesAll store [] None old (record old { pages = q })
  leaves_rests q r = record {
    extends = rests_extends r;
    others = λ h known. subst (λ (z : Snapshot). IsKnown z h) (sym still) known;
    loses = subst (λ (z : Snapshot). KeepsOrFreesTreePages None (snapshot_of_db store old) z) (sym still) (loses_same (snapshot_of_db store old));
    sound = λ db. record {
      forest = db.forest;
      is = subst (λ (z : Snapshot). HasForest z db.forest) (sym still) db.is;
      sized = subst (λ (z : Snapshot). IsSized (nodes_at z) db.forest) (sym still) db.sized;
      safe = record { whole = λ x i. db.safe.whole x (subst (In x) (rests_left r) i) };
      ascends = db.ascends;
      default = db.default;
      ungiven = db.ungiven;
      calm = db.calm;
      ids = subst (λ m. old.greatest_id ≤ m) (sym r.mark) db.ids;
    };
  }
    where
      still : snapshot_of_db store (record old { pages = q }) ≡ snapshot_of_db store old
      still = same_moment store meant old q (rests_now r)

  pub refuses : (q : P) (e : Error) → (now (store old.pages)).in_group ≡ false → RefusesToRaise old.greatest_id (store old.pages) e (store q) → RefusesId store meant old e (record old { pages = q })
  refuses q e no_group r = let rests = rests_raised e (store old.pages) (store q) r.is in record {
    is = go e r;
    same = refl;
    state = λ slots given. same_state store meant old q (rests_now rests) slots given;
    leaves = leaves_rests q rests;
    left = rests_left rests;
  }
    where
      go : (e : Error) → RefusesToRaise old.greatest_id (store old.pages) e (store q) → refuses_id_as store old.greatest_id old.pages e q
      go error.NoMemory r = (no_group, r)
      go (error.Io fault) r = (no_group, r)
      go (error.Unsupported text) r = (no_group, r)
      go other r = absurd r.is.1

  pub closed : (now (store old.pages)).in_group ≡ true → RefusesId store meant old error.Closed old
  closed e = record {
    is = (e, refl);
    same = refl;
    state = λ slots given. refl;
    leaves = leaves_rests old.pages (rests_same refl);
    left = refl;
  }

-- the same, where the method knows the database by its fields
module _ {P M : Type 0} (store : P → Store) (meant : M → Merge) (inside old : DbValue P M) (same : inside ≡ old) where
  pub gives_as : (q : P) → (now (store inside.pages)).in_group ≡ false → store q ≡ record (store inside.pages) { mark = mark_above inside.greatest_id (store inside.pages).mark } → inside.greatest_id < (store q).mark
      → GivesId store meant old (inside.greatest_id + 1) (record inside { pages = q; greatest_id = inside.greatest_id + 1 })
  gives_as q no_group e above = subst (λ (z : DbValue P M). GivesId store meant z (inside.greatest_id + 1) (record inside { pages = q; greatest_id = inside.greatest_id + 1 })) same (gives store meant inside q no_group e above)

  pub refuses_as : (q : P) (e : Error) → (now (store inside.pages)).in_group ≡ false → RefusesToRaise inside.greatest_id (store inside.pages) e (store q) → RefusesId store meant old e (record inside { pages = q })
  refuses_as q e no_group r = subst (λ (z : DbValue P M). RefusesId store meant z e (record inside { pages = q })) same (refuses store meant inside q e no_group r)

  pub closed_as : (now (store inside.pages)).in_group ≡ true → RefusesId store meant old error.Closed old
  closed_as e = subst (λ (z : DbValue P M). RefusesId store meant z error.Closed z) same (closed store meant inside e)

-- ---- an id as a whole call

module _ {P M : Type 0} (store : P → Store) (meant : M → Merge) (old new : DbValue P M) where
  pub id_decided : (id : ℕ) → GivesId store meant old id new → WholeDecided store meant old GenerateId (Number id) new
  id_decided id g = record {
    maps = [];
    decides = λ slots given number. record {
      free = ap (λ o. first_of o None) g.free;
      replies = ap Number g.next;
      aside = subst (λ k. k ≤ (store new.pages).mark) g.next g.aside;
      is = g.state slots given ∙ ap (λ k. record (state_of store meant old slots given) { greatest_id = k; mark = mark_above old.greatest_id (store old.pages).mark }) g.next;
      added = refl;
    };
    acts = g.is ∙ ap (λ m. record (store old.pages) { mark = m }) (sym (ap (λ (s : Store). s.mark) g.is));
    leaves = g.leaves;
    same = g.same ∙ ap (λ k. record old { pages = new.pages; greatest_id = k }) (sym (ap (λ (d : DbValue P M). d.greatest_id) g.same));
  }

  -- no test refuses an open database
  must_not : (now (store old.pages)).in_group ≡ false → (slots : ℕ → Option CallInFlight) (given : ℕ) → must_refuse (state_of store meant old slots given) (ToCall GenerateId) ≡ None
  must_not e slots given = ap (λ b. first_of (first_of (cond (not b) None (Some IsClosed)) None) None) e

  may_not : (e : Error) → (now (store old.pages)).in_group ≡ false → (slots : ℕ → Option CallInFlight) (given : ℕ) → cause_of_id (state_of store meant old slots given) (store old.pages) (store new.pages) e → MayRefuse (state_of store meant old slots given) (store old.pages) (store new.pages) (ToCall GenerateId) e
  may_not e no_group slots given k = record { is = subst (λ o. may_refuse_as o (cause_of (state_of store meant old slots given) (store old.pages) (store new.pages) (ToCall GenerateId)) e) (sym (must_not no_group slots given)) k }

  unraised : (e : Error) → RefusesId store meant old e new → (now (store old.pages)).in_group ≡ false → ((slots : ℕ → Option CallInFlight) (given : ℕ) → cause_of_id (state_of store meant old slots given) (store old.pages) (store new.pages) e) → effect_of_whole Telling (outcome.Refused e) (store old.pages) (store new.pages) → WholeRefused store meant old GenerateId e new
  unraised e r no_group cause acts = record {
    maps = [];
    refuses = λ slots given. (may_not e no_group slots given (cause slots given), r.state slots given, refl);
    acts = acts;
    leaves = r.leaves;
    same = r.same;
    tested = λ must. absurd (must (must_not no_group (λ n. None) 0));
  }

  pub id_refused : (e : Error) → RefusesId store meant old e new → WholeRefused store meant old GenerateId e new
  id_refused error.NoMemory r = let k = r.is in unraised error.NoMemory r k.0 (λ slots given. (k.1.none, k.1.is.0)) k.1.is.1
  id_refused (error.Io fault) r = let k = r.is in unraised (error.Io fault) r k.0 (λ slots given. (k.1.none, k.1.is.0, more (ap (λ (s : Store). s.faults) k.1.is.1))) k.1.is.1
    where
      more : (store new.pages).faults ≡ (store old.pages).faults + 1 → (store old.pages).faults < (store new.pages).faults
      more e = omega arith
  id_refused (error.Unsupported text) r = let k = r.is in unraised (error.Unsupported text) r k.0 (λ slots given. (k.1.is.0, k.1.none, k.1.is.1)) k.1.is.2
  id_refused (error.CollectionNotFound name) r = absurd r.is.1.is.1
  id_refused (error.ReportableBug text) r = absurd r.is.1.is.1
  id_refused (error.Corruption fault) r = absurd r.is.1.is.1
  id_refused error.Closed r = record {
    maps = [];
    refuses = λ slots given. (record { is = subst (λ o. may_refuse_as o (cause_of (state_of store meant old slots given) (store old.pages) (store new.pages) (ToCall GenerateId)) error.Closed) (sym (ap (λ b. first_of (first_of (cond (not b) None (Some IsClosed)) None) None) r.is.0)) refl }, r.state slots given, refl);
    acts = ap store r.is.1;
    leaves = r.leaves;
    same = r.same;
    tested = λ must. r.same ∙ ap (λ q. record old { pages = q }) r.is.1;
  }
