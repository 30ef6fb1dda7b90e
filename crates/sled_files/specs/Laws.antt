-- What holds of the files of all stores.
use Rattle.std.specs.Prelude.{◌≡◌, ◌⊎◌, ◌+◌, ◌<◌, ◌≤◌, ℕ, true, false, List, []}
use Rattle.sled_store.specs.Store.{Store, now, after_flush}
use Rattle.sled_store.specs.In.{In}
use Rattle.sled_store.specs.Crash.{IsCrashState}
use Rattle.sled_files.specs.declared.found.OpenError.{OpenError}
use Rattle.sled_files.specs.Change.{Durable, changed_all}
use Rattle.sled_files.specs.Standing.{IsBegun, AreFor, AreBlank}
use Rattle.sled_files.specs.Lasting.{Limits, IsLasting}
use Rattle.sled_files.specs.Pending.{IsPending}
use Rattle.sled_files.specs.Files.{AreForEither}
use Rattle.sled_files.specs.Opening.{IsReopened, is_why_closed, is_refusal}

-- While no group is open, files without what is pending of a store and with it are right for the store
abbrev pub FlushLasts : Type 0
FlushLasts = (limits : Limits) (s : Store) (d : Durable) (bytes : List ℕ) (p : IsPending limits s d bytes) → s.base.in_group ≡ false → (now s).in_group ≡ false → (first second : List ℕ) → AreForEither d (changed_all p.changes d) first second → IsLasting [] limits s first second

-- and with it nothing is pending of the flushed store
abbrev pub FlushEnds : Type 0
FlushEnds = (limits : Limits) (s : Store) (d : Durable) (bytes : List ℕ) (p : IsPending limits s d bytes) → IsPending limits (after_flush s) (changed_all p.changes d) []

-- while the first file of a store that is still to be made is begun, the store is still to be made or it is there
abbrev pub NewStoreLasts : Type 0
NewStoreLasts = (generation : ℕ) (d : Durable) (first second left : List ℕ) → AreBlank first second → IsBegun first generation d left → AreBlank left second ⊎ AreFor left second d

-- What a store that is opened has of the one before: a state that a crash may leave of it, and the mark that was set aside or a higher
-- one that was asked for. All numbers below the limits count as given, and none that is more than a piece above them
pub record GoesOn (asked : List ℕ) (limits : Limits) (before opened : Store) : Type 0 where
  pub base : IsCrashState before opened.base
  pub recent : opened.recent ≡ []
  pub mark : (opened.mark ≡ before.mark) ⊎ In opened.mark asked
  pub no_lower : before.mark ≤ opened.mark
  pub recovered : opened.recovered ≡ true
  pub pids : (p : ℕ) → 0 < p → p < limits.pids → opened.pids p ≡ true
  pub versions : (v : ℕ) → v < limits.versions → opened.versions v ≡ true
  pub pids_most : (p : ℕ) → opened.pids p ≡ true → p < limits.pids + 1000001
  pub versions_most : (v : ℕ) → opened.versions v ≡ true → v < limits.versions + 1000000

-- a store that is opened of files that are right for one goes on from it
abbrev pub OpenedGoesOn : Type 0
OpenedGoesOn = (asked : List ℕ) (limits : Limits) (before opened : Store) (first second : List ℕ) → IsLasting asked limits before first second → ((d : Durable) → AreFor first second d → IsReopened d opened) → GoesOn asked limits before opened

-- files that are right for a store are opened, unless a disk refuses a call or there is no memory
abbrev pub OpensAgain : Type 0
OpensAgain = (asked : List ℕ) (limits : Limits) (s : Store) (first second : List ℕ) → IsLasting asked limits s first second → (e : OpenError) → is_why_closed e first second → is_refusal e
