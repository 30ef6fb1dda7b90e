-- Changes of a store, and those that are added to them.
use Rattle.std.proofs.Common.{◌≡◌, ℕ, zero, suc, ◌<◌, ◌≤◌, Bool, true, false, List, [], ◌∷◌, ◌++◌, refl, sym, ◌∙◌, arith}
use Rattle.std.specs.List.{All}
use Rattle.std.proofs.lemmas.List.Elements.{All-nil, All-cons, All-head, All-append, All-weaker}
use Rattle.sled_store.specs.Store.{Store}
use Rattle.sled_bytes.specs.declared.change.Change.{Change}
use Rattle.sled_bytes.specs.declared.change.Change.TheVariants.{Given, Linked, Freed, Rooted, Begun, Sealed, Marked, Limited}
use Rattle.sled_bytes.specs.Spelling.{FitsChange}
use Rattle.sled_files.specs.Change.{Durable, nothing_yet, changed_all, IsWithin, AreOfStore, AreAdded}
use Rattle.sled_files.specs.Lasting.{Limits}
use Rattle.sled_files.specs.Pending.{Spells}
use Rattle.sled_files.specs.Stored.{AreWithin}
use Rattle.sled_files.specs.theory.Spelled.{WereGiven}

-- what is below limits is below higher ones
pub within_higher : (d e : Durable) → d.pids ≤ e.pids → d.versions ≤ e.versions → (c : Change) → IsWithin d c → IsWithin e c
within_higher d e more further (Given pid version node) w = (w.0, omega (arith, w.1, more), omega (arith, w.2, further))
within_higher d e more further (Linked pid version link) w = (w.0, omega (arith, w.1, further))
within_higher d e more further (Freed pid) w = tt
within_higher d e more further (Rooted name root) w = tt
within_higher d e more further Begun w = tt
within_higher d e more further Sealed w = tt
within_higher d e more further (Marked upto) w = tt
within_higher d e more further (Limited pids versions) w = tt

pub all_higher : (d e : Durable) → d.pids ≤ e.pids → d.versions ≤ e.versions → (changes : List Change) → All (IsWithin d) changes → All (IsWithin e) changes
all_higher d e more further changes all = All-weaker (IsWithin d) (IsWithin e) (within_higher d e more further) changes all

-- with changes that are added they are those of a store
pub of_both : (front more : List Change) (d : Durable) → AreOfStore front d → AreAdded more d → AreOfStore (front ++ more) (changed_all more d)
of_both front more d old added = record {
  within = All-append (IsWithin (changed_all more d)) front more (all_higher d (changed_all more d) added.pids added.versions front old.within) added.of_store.within;
  fits = added.of_store.fits;
  sealed = added.of_store.sealed;
}

-- a new store has no changes
pub of_none : AreOfStore [] nothing_yet
of_none = record { within = All-nil (IsWithin nothing_yet); fits = omega arith; sealed = refl }

module _ {olds : List Change} {d : Durable} (old : AreOfStore olds d) where
  -- limits that are no lower are added, and a mark
  pub added_limits : (pids versions : ℕ) {payload : List ℕ} → Spells payload (Limited pids versions ∷ []) → d.pids ≤ pids → d.versions ≤ versions → AreAdded (Limited pids versions ∷ []) d
  added_limits pids versions spells more further =
      let c = Limited pids versions in
      let e = changed_all (c ∷ []) d in
      record {
        of_store = record { within = All-cons (IsWithin e) c [] tt (All-nil (IsWithin e)); fits = (All-head FitsChange c [] spells.fit).1; sealed = old.sealed };
        pids = more;
        versions = further;
      }

  pub added_mark : (upto : ℕ) → AreAdded (Marked upto ∷ []) d
  added_mark upto =
      let c = Marked upto in
      let e = changed_all (c ∷ []) d in
      record {
        of_store = record { within = All-cons (IsWithin e) c [] tt (All-nil (IsWithin e)); fits = old.fits; sealed = old.sealed };
        pids = omega arith;
        versions = omega arith;
      }

-- numbers that were given are below the limits
number_positive : (given : ℕ → Bool) (p : ℕ) → given 0 ≡ false → given p ≡ true → 0 < p
number_positive given zero none is = absurd (let e = sym none ∙ is in cc)
number_positive given (suc p) none is = omega arith

pub given_within : {limits : Limits} {s : Store} (d : Durable) → AreWithin limits s → limits.pids ≤ d.pids → limits.versions ≤ d.versions → (c : Change) → WereGiven s c → IsWithin d c
given_within {limits} {s} d w more further (Given pid version node) g =
    let lt = number_positive s.pids pid w.numbered g.0 in
    (lt, omega (arith, w.pids pid lt g.0, more), omega (arith, w.versions version g.1, further))
given_within {limits} {s} d w more further (Linked pid version link) g =
    (number_positive s.pids pid w.numbered g.0, omega (arith, w.versions version g.1, further))
given_within d w more further (Freed pid) g = tt
given_within d w more further (Rooted name root) g = tt
given_within d w more further Begun g = tt
given_within d w more further Sealed g = tt
given_within d w more further (Marked upto) g = tt
given_within d w more further (Limited pids versions) g = tt
