-- A flush changes what a crash may leave, and nothing else.
use Rattle.std.proofs.Common.{◌≡◌, ℕ, ◌+◌, ◌<◌, ◌≤◌, true, false, not, [], ◌∷◌, Option, sym, refl, ap, ◌∙◌, subst, arith, option_map}
use Rattle.std.specs.FinMap.Entries.{find}
use Rattle.std.specs.Ordering.{nat_cmp}
use Rattle.sled_store.specs.In.{In}
use Rattle.sled_store.specs.Store.{Store, now, after_flush, IsRefused, is_refused_as, only_faults}
use Rattle.sled_nodes.specs.declared.error.Error.{Error}
use Rattle.sled_nodes.specs.declared.error.Error.TheVariants as error
use Rattle.sled_model.specs.Maps.{Merge}
use Rattle.sled_model.specs.State.{CallInFlight}
use Rattle.sled_model.specs.Refusal.{may_refuse_as, cause_of, ToCall}
use Rattle.sled_model.specs.declared.call.Whole.TheVariants.{Flush}
use Rattle.tree_laws.specs.Contents.{trees_of}
use Rattle.tree_laws.specs.Crashes.{Flushes}
use Rattle.tree_laws.specs.Forest.{IsSized}
use Rattle.tree_laws.specs.Snapshot.{Snapshot, HasForest, nodes_at}
use Rattle.tree_laws.proofs.Crashing.{flushes_same, flushes_valid_law, flushes_left, flushes_now}
use Rattle.sled_queues.specs.Values.{queue_at}
use Rattle.sled_queues.specs.Queues.{queues_of}
use Rattle.sled.specs.Values.{DbValue, named, numbers_of, given_to, state_of, snapshot_of_db}
use Rattle.sled.specs.Sound.{IsDb}
use Rattle.sled.specs.Flush.{FlushesDb, RefusesFlush}
use Rattle.sled.proofs.Trees.{maps_are}
use Rattle.sled.proofs.Testing.{open_now, closed_now}
use Rattle.sled.proofs.Resting.{SameNow, flushed_now, rests_only_faults, rests_now, rests_left}

-- a refusal of the store is one in which nothing changes but the faults
pub only : (e : Error) (a b : Store) → is_refused_as e a b → only_faults e a b
only error.NoMemory a b t = t
only (error.Io fault) a b t = t
only other a b t = absurd t

module _ {P M : Type 0} (store : P → Store) (meant : M → Merge) (old : DbValue P M) where
  -- over pages that show the same now the state is the same, and so is what calls in flight know
  pub same_state : (q : P) → SameNow (store old.pages) (store q) → (slots : ℕ → Option CallInFlight) (given : ℕ) → state_of store meant (record old { pages = q }) slots given ≡ state_of store meant old slots given
  same_state q s slots given i = record {
    name = old.name;
    trees = λ t. named (numbers_of old.trees t) (trees_of (s.now_is i) t) (λ n. option_map meant (find nat_cmp n old.operators));
    queues = queues_of (queue_at old.queues);
    slots = slots;
    is_open = not (s.now_is i).in_group;
    greatest_id = old.greatest_id;
    mark = s.mark i;
    trees_given = old.trees_given;
    slots_given = given;
    subscribers_given = old.queues.given;
  }

  pub same_moment : (q : P) → SameNow (store old.pages) (store q) → snapshot_of_db store (record old { pages = q }) ≡ snapshot_of_db store old
  same_moment q s i = record { state = s.now_is i; pids = s.pids i; versions = s.versions i; numbers = numbers_of old.trees; given = given_to old.trees_given }

  module _ (db : IsDb store old) (q : P) where
    still : SameNow (store old.pages) (store q) → HasForest (snapshot_of_db store (record old { pages = q })) db.forest × IsSized (nodes_at (snapshot_of_db store (record old { pages = q }))) db.forest
    still s = (subst (λ (m : Snapshot). HasForest m db.forest) (sym (same_moment q s)) db.is, subst (λ (m : Snapshot). IsSized (nodes_at m) db.forest) (sym (same_moment q s)) db.sized)

    pub flush_db : (now (store old.pages)).in_group ≡ false → store q ≡ after_flush (store old.pages) → IsDb store (record old { pages = q })
    flush_db no_group e = let s = still (flushed_now e) in record {
      forest = db.forest;
      is = s.0;
      sized = s.1;
      safe = flushes_valid_law (store old.pages) (store q) (subst (λ (z : Store). Flushes (store old.pages) z) (sym e) (flushes_same (store old.pages))) no_group (record { forest = db.forest; formed = db.is.formed; sized = db.sized });
      ascends = db.ascends;
      default = db.default;
      ungiven = db.ungiven;
      calm = db.calm;
      ids = subst (λ (z : Store). old.greatest_id ≤ z.mark) (sym e) db.ids;
    }

    pub flush_done : (flush_number : P → ℕ) (number : ℕ) → number ≡ flush_number old.pages → (now (store old.pages)).in_group ≡ false → store q ≡ after_flush (store old.pages) → FlushesDb store flush_number meant old number (record old { pages = q })
    flush_done flush_number number told no_group e = record {
      free = open_now store meant old no_group;
      answers = told;
      is = e;
      sound = λ d. flush_db no_group e;
      same = refl;
      left = flushes_left flushes no_group ∙ ap (λ z. z ∷ []) (sym (flushes_now flushes));
      maps = sym (maps_are store meant (record old { pages = q }) db.forest (still (flushed_now e)).0);
    }
      where
        flushes : Flushes (store old.pages) (store q)
        flushes = subst (λ (s : Store). Flushes (store old.pages) s) (sym e) (flushes_same (store old.pages))

    pub refused_db : (e : Error) → IsRefused e (store old.pages) (store q) → IsDb store (record old { pages = q })
    refused_db e r = let rests = rests_only_faults e (store old.pages) (store q) (only e (store old.pages) (store q) r.is) in let s = still (rests_now rests) in record {
      forest = db.forest;
      is = s.0;
      sized = s.1;
      safe = record { whole = λ x i. db.safe.whole x (subst (In x) (rests_left rests) i) };
      ascends = db.ascends;
      default = db.default;
      ungiven = db.ungiven;
      calm = db.calm;
      ids = subst (λ m. old.greatest_id ≤ m) (sym rests.mark) db.ids;
    }

  -- refused by the store
  cause : (slots : ℕ → Option CallInFlight) (given : ℕ) (q : P) (e : Error) → is_refused_as e (store old.pages) (store q) → cause_of (state_of store meant old slots given) (store old.pages) (store q) (ToCall Flush) e
  cause slots given q error.NoMemory t = tt
  cause slots given q (error.Io fault) t = more (ap (λ (s : Store). s.faults) t)
    where
      more : (store q).faults ≡ (store old.pages).faults + 1 → (store old.pages).faults < (store q).faults
      more e = omega arith
  cause slots given q other t = absurd t

  pub flush_refused : (q : P) (e : Error) → (now (store old.pages)).in_group ≡ false → IsRefused e (store old.pages) (store q) → RefusesFlush store meant old (record old { pages = q }) e
  flush_refused q e no_group r = record {
    may = λ slots given. record { is = subst (λ o. may_refuse_as o (cause_of (state_of store meant old slots given) (store old.pages) (store q) (ToCall Flush)) e) (sym (open_now store meant old no_group)) (cause slots given q e r.is) };
    is = only e (store old.pages) (store q) r.is;
    sound = λ d. refused_db d q e r;
    same = refl;
  }

  -- closed
  pub flush_closed : (now (store old.pages)).in_group ≡ true → RefusesFlush store meant old old error.Closed
  flush_closed e = record {
    may = λ slots given. record { is = subst (λ o. may_refuse_as o (cause_of (state_of store meant old slots given) (store old.pages) (store old.pages) (ToCall Flush)) error.Closed) (sym (closed_now store meant old e)) refl };
    is = refl;
    sound = λ d. d;
    same = refl;
  }

-- the same, where the method knows the database by its fields
module _ {P M : Type 0} (store : P → Store) (meant : M → Merge) (inside old : DbValue P M) (e : inside ≡ old) where
  pub flush_refused_as : (q : P) (r : Error) → (now (store inside.pages)).in_group ≡ false → IsRefused r (store inside.pages) (store q) → RefusesFlush store meant old (record inside { pages = q }) r
  flush_refused_as q r no_group t = subst (λ (z : DbValue P M). RefusesFlush store meant z (record inside { pages = q }) r) e (flush_refused store meant inside q r no_group t)

  pub flush_done_as : (flush_number : P → ℕ) (number : ℕ) → number ≡ flush_number inside.pages → (now (store inside.pages)).in_group ≡ false → IsDb store inside → (q : P) → store q ≡ after_flush (store inside.pages) → FlushesDb store flush_number meant old number (record inside { pages = q })
  flush_done_as flush_number number told no_group db q t = subst (λ (z : DbValue P M). FlushesDb store flush_number meant z number (record inside { pages = q })) e (flush_done store meant inside db q flush_number number told no_group t)

-- where nothing of the database changes but its pages, and they show the same now
module _ {P M : Type 0} (store : P → Store) (meant : M → Merge) (old new : DbValue P M) (same : new ≡ record old { pages = new.pages }) (s : SameNow (store old.pages) (store new.pages)) where
  pub stays_state : (slots : ℕ → Option CallInFlight) (given : ℕ) → state_of store meant new slots given ≡ state_of store meant old slots given
  stays_state slots given = ap (λ (d : DbValue P M). state_of store meant d slots given) same ∙ same_state store meant old new.pages s slots given

  pub stays_moment : snapshot_of_db store new ≡ snapshot_of_db store old
  stays_moment = ap (λ (d : DbValue P M). snapshot_of_db store d) same ∙ same_moment store meant old new.pages s
