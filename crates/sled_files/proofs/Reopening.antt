-- What two files are opened to is sound as a store in two files.
use Rattle.std.proofs.Common.{◌≡◌, ◌≤◌, ⊎_elim, inl, inr, ℕ, ◌<◌, List, [], refl, sym, ◌∙◌, ap, subst, arith}
use Rattle.std.specs.Prelude.{◌⊎◌, true, None, nat_lt, ◌&&◌}
use Rattle.std.proofs.lemmas.List.Elements.{All-nil}
use Rattle.sled_store.specs.In.{In}
use Rattle.sled_store.specs.State.{State}
use Rattle.sled_store.specs.Store.{Store}
use Rattle.sled_store.specs.Crash.{crash_states}
use Rattle.sled_pages.specs.Memory.{store_of, empty_store}
use Rattle.sled_files.specs.declared.replay.Made.{Made}
use Rattle.sled_files.specs.declared.found.OpenError.{OpenError}
use Rattle.sled_files.specs.declared.found.OpenError.TheVariants.{NoMemory, NotAStore, OtherFormat, Decayed, Disk}
use Rattle.sled_files.specs.Change.{Durable, nothing_yet, IsWithin}
use Rattle.sled_files.specs.Standing.{AreFor, AreBlank, IsBegun}
use Rattle.sled_files.specs.Files.{Files, IsReady}
use Rattle.sled_files.specs.Lasting.{Limits, AreLimits, IsLasting, EachPair}
use Rattle.sled_files.specs.Stored.{Stored, stored_as, over, AreWithin, Stands}
use Rattle.sled_files.specs.Laws.{OpenedGoesOn, OpensAgain}
use Rattle.sled_files.specs.Opening.{AreOpenable, AreOfNone, IsReopened, OpensTo, LeavesWhileOpened, is_why_closed, is_refusal}
use Rattle.sled_files.specs.theory.Reopened.{Opens}
use Rattle.sled_files.proofs.Choosing.{blanks_or_store}
use Rattle.sled_files.proofs.Grows.{spells_none}

abbrev pub limits_in : Made → Limits
limits_in m = record { pids = m.pids; versions = m.versions }

-- the store as it is opened
abbrev opened_with : {D : Type 0} → Files D → Made → Stored D
opened_with files m = record { pages = m.pages; files = files; pending = []; mark = (store_of m.pages).mark; limits = limits_in m; asked = None; faults = 0; longest = 4000000; missed = 0 }

below_limit : (p limit : ℕ) → (nat_lt 0 p && nat_lt p limit) ≡ true → p < limit
below_limit p limit is = grind arith

version_below : (s : Store) (v limit : ℕ) → s.versions v ≡ nat_lt v limit → s.versions v ≡ true → v < limit
version_below s v limit below is = let b = sym below ∙ is in grind arith

reopened_over : (d : Durable) (s : Store) → IsReopened d s → IsReopened d (over s.mark 0 s)
reopened_over d s r = record {
  base = r.base;
  recent = r.recent;
  mark = r.mark;
  recovered = r.recovered;
  pids = r.pids;
  versions = r.versions;
  actions = r.actions;
  faults = (let f = r.faults in omega (arith, f));
  readable = r.readable;
}

module _ {D : Type 0} (seen : D → List ℕ) (may_leave : D → List ℕ → Type 0) (first second : List ℕ) (files : Files D) (m : Made) where
  pub stands_opened : Opens seen may_leave first second files m → Stands seen may_leave (limits_in m) (store_of m.pages) files []
  stands_opened (inl o) = record {
    durable = o.durable;
    ready = o.ready;
    pends = record {
      base = sym o.reopened.base;
      mark = sym o.reopened.mark;
      limited = record { pids = sym o.pids; versions = sym o.versions };
      changes = [];
      spells = spells_none;
      within = All-nil (IsWithin o.durable);
      acts = sym o.reopened.recent;
      aside = λ whole. refl;
    };
  }
  stands_opened (inr n) = record {
    durable = nothing_yet;
    ready = n.ready;
    pends = record {
      base = sym (ap (λ (s : Store). s.base) n.empty);
      mark = sym (ap (λ (s : Store). s.mark) n.empty);
      limited = record { pids = sym n.pids; versions = sym n.versions };
      changes = [];
      spells = spells_none;
      within = All-nil (IsWithin nothing_yet);
      acts = sym (ap (λ (s : Store). s.recent) n.empty);
      aside = λ whole. refl;
    };
  }

  pub within_opened : Opens seen may_leave first second files m → AreWithin (limits_in m) (store_of m.pages)
  within_opened (inl o) = record {
    numbered = o.reopened.pids 0;
    pids = λ p lt is. (let b = below_limit p o.durable.pids (sym (o.reopened.pids p) ∙ is) in let e = o.pids in omega (arith, b, e));
    versions = λ v is. (let b = version_below (store_of m.pages) v o.durable.versions (o.reopened.versions v) is in let e = o.versions in omega (arith, b, e));
  }
  within_opened (inr n) = record {
    numbered = ap (λ (s : Store). s.pids 0) n.empty;
    pids = λ p lt is. absurd (let e = sym (ap (λ (s : Store). s.pids p) n.empty) ∙ is in cc);
    versions = λ v is. absurd (let e = sym (ap (λ (s : Store). s.versions v) n.empty) ∙ is in cc);
  }

  opens_as : Opens seen may_leave first second files m → OpensTo seen may_leave first second files (over (store_of m.pages).mark 0 (store_of m.pages))
  opens_as (inl o) = inl (record { durable = o.durable; stand = o.stand; alone = o.alone; ready = o.ready; first_stays = o.first_stays; second_stays = o.second_stays; reopened = reopened_over o.durable (store_of m.pages) o.reopened })
  opens_as (inr n) = inr (record { blanks = n.blanks; ready = n.ready; grown = n.grown; second_stays = n.second_stays; empty = ap (λ (s : Store). over s.mark 0 s) n.empty })

  pub opens_to : Opens seen may_leave first second files m → (f : Stored D) → f ≡ opened_with files m → OpensTo seen may_leave first second f.files (stored_as f)
  opens_to o f is = subst (λ (x : Stored D). OpensTo seen may_leave first second x.files (stored_as x)) (sym is) (opens_as o)

module _ {D : Type 0} (seen : D → List ℕ) (may_leave : D → List ℕ → Type 0) (first second : List ℕ) (files : Files D) (s : Store) where
  pub recovers_each : OpensTo seen may_leave first second files s → (d : Durable) → AreFor first second d → IsReady seen may_leave files d × IsReopened d s
  recovers_each (inl o) d a = (subst (λ (x : Durable). IsReady seen may_leave files x) (sym (o.alone d a)) o.ready, subst (λ (x : Durable). IsReopened x s) (sym (o.alone d a)) o.reopened)
  recovers_each (inr n) d a = absurd (blanks_or_store n.blanks a)

  pub begins_new : OpensTo seen may_leave first second files s → AreBlank first second → IsReady seen may_leave files nothing_yet × (s ≡ empty_store)
  begins_new (inl o) blanks = absurd (blanks_or_store blanks o.stand)
  begins_new (inr n) blanks = (n.ready, n.empty)

-- its limits are those that the files have
pub limits_opened : {D : Type 0} (seen : D → List ℕ) (may_leave : D → List ℕ → Type 0) (first second : List ℕ) (files : Files D) (store : Made) → Opens seen may_leave first second files store → (d : Durable) → AreFor first second d → AreLimits (limits_in store) d
limits_opened seen may_leave first second files store (inl o) d a = record { pids = ap (λ (x : Durable). x.pids) (o.alone d a) ∙ sym o.pids; versions = ap (λ (x : Durable). x.versions) (o.alone d a) ∙ sym o.versions }
limits_opened seen may_leave first second files store (inr n) d a = absurd (blanks_or_store n.blanks a)

-- a store that is opened of what is right for one

given_below : (p limit low : ℕ) → 0 < p → p < low → low ≤ limit → (nat_lt 0 p && nat_lt p limit) ≡ true
given_below p limit low positive lt le = grind arith

given_version : (v limit low : ℕ) → v < low → low ≤ limit → nat_lt v limit ≡ true
given_version v limit low lt le = grind arith

pub opened_goes_on : OpenedGoesOn
opened_goes_on asked limits before opened first second l opens =
    let d = l.durable in
    let r = opens l.durable l.stands in
    record {
      base = record { is = subst (λ (x : State). In x (crash_states before)) (sym r.base) l.right.state.is };
      recent = r.recent;
      mark = ⊎_elim (λ same. inl (r.mark ∙ same)) (λ one. inr (subst (λ (n : ℕ). In n asked) (sym r.mark) one)) l.right.mark;
      no_lower = (let e = r.mark in omega (arith, e, l.right.no_lower));
      recovered = r.recovered;
      pids = λ p positive lt. r.pids p ∙ given_below p d.pids limits.pids positive lt l.right.limited.pids;
      versions = λ v lt. r.versions v ∙ given_version v d.versions limits.versions lt l.right.limited.versions;
      pids_most = λ p is. (let b = below_limit p d.pids (sym (r.pids p) ∙ is) in omega (arith, b, l.right.limited.pids_most));
      versions_most = λ v is. (let b = version_below opened v d.versions (r.versions v) is in omega (arith, b, l.right.limited.versions_most));
    }

-- what is of no store is not of one
none_or_one : {first second : List ℕ} → AreOfNone first second → AreOpenable first second → ⊥
none_or_one none (inl blanks) = none.no_blanks blanks
none_or_one none (inr one) = none.no_store one.0 one.1

-- two files of a store, or blank ones, are refused for want of memory or by a disk alone
pub refused_openable : (first second : List ℕ) (e : OpenError) → is_why_closed e first second → AreOpenable first second → is_refusal e
refused_openable first second NoMemory why are = tt
refused_openable first second NotAStore why are = absurd (none_or_one why.0 are)
refused_openable first second (OtherFormat other) why are = absurd (none_or_one why.0 are)
refused_openable first second (Decayed place) why are = absurd (none_or_one why.0 are)
refused_openable first second (Disk e) why are = why

pub opens_again : OpensAgain
opens_again asked limits s first second l e why = refused_openable first second e why (inr (l.durable, l.stands))

-- a crash while files are opened that are right for a store, or once they were refused
module _ {D : Type 0} {seen : D → List ℕ} {moment : D → ℕ} {left_since : D → ℕ → List ℕ → Type 0} {may_leave : D → List ℕ → Type 0} (first second one two : D) (w : LeavesWhileOpened seen moment left_since may_leave first second one two)
    (stays : may_leave first (seen first)) (also : may_leave second (seen second)) (asked : List ℕ) (limits : Limits) (s : Store) (lasts : EachPair (may_leave first) (may_leave second) (IsLasting asked limits s)) where
  lasts_with : (a b : List ℕ) → may_leave first a ⊎ (AreBlank (seen first) (seen second) × IsBegun (seen first) 1 nothing_yet a) → may_leave second b → IsLasting asked limits s a b
  lasts_with a b (inl before) y = lasts.each a b before y
  lasts_with a b (inr begun) y = absurd (blanks_or_store begun.0 (lasts.each (seen first) (seen second) stays also).stands)

  pub lasts_while : EachPair (left_since one (moment first)) (left_since two (moment second)) (IsLasting asked limits s)
  lasts_while = record { each = λ a b x y. lasts_with a b (w.first_is a x) (w.second_is b y) }

  pub lasts_then : EachPair (may_leave one) (may_leave two) (IsLasting asked limits s)
  lasts_then = record { each = λ a b x y. lasts_with a b (w.first_now a x) (w.second_now b y) }
