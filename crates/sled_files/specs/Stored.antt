-- A store in two files as code holds it.
use Rattle.std.specs.Prelude.{◌≡◌, ◌⊎◌, ◌+◌, ◌-◌, ◌/◌, ◌<◌, ◌^◌, ◌&&◌, not, min, nat_lt, ℕ, Bool, true, false, List, [], ◌∷◌, Option, Some, None}
use Rattle.sled_pages.specs.declared.memory.MemPages.{MemPages}
use Rattle.sled_pages.specs.Memory.{store_of, flush_number_of}
use Rattle.sled_store.specs.Store.{Store}
use Rattle.sled_files.specs.Change.{Durable}
use Rattle.sled_files.specs.Files.{Files, IsReady}
use Rattle.sled_files.specs.Lasting.{Limits, IsLasting, EachPair}
use Rattle.sled_files.specs.Pending.{IsPending}

-- The pages in memory, the files, the bytes that the next flush adds to them, the mark, the limits, and a mark that may be in the files
-- though it was refused. How many calls were refused for a fault of the files, the length of the log above which a flush begins it
-- anew, and how many flushes found no memory for that
pub record Stored (D : Type 0) : Type 0 where
  pub pages : MemPages
  pub files : Files D
  pub pending : List ℕ
  pub mark : ℕ
  pub limits : Limits
  pub asked : Option ℕ
  pub faults : ℕ
  pub longest : ℕ
  pub missed : ℕ

-- what it means: what the pages in memory mean, but for the mark, and with the faults of the files
abbrev pub over : ℕ → ℕ → Store → Store
over mark faults s = record s { mark = mark; faults = faults + s.faults }

abbrev pub stored_as : {D : Type 0} → Stored D → Store
stored_as f = over f.mark f.faults (store_of f.pages)

abbrev pub asked_of : Option ℕ → List ℕ
asked_of None = []
asked_of (Some upto) = upto ∷ []

-- page numbers and versions that were given are below the limits, and no page has number 0
pub record AreWithin (limits : Limits) (s : Store) : Type 0 where
  pub numbered : s.pids 0 ≡ false
  pub pids : (p : ℕ) → 0 < p → s.pids p ≡ true → p < limits.pids
  pub versions : (v : ℕ) → s.versions v ≡ true → v < limits.versions

-- the files stand for the store's base, and the bytes are the actions since
pub record Stands {D : Type 0} (seen : D → List ℕ) (may_leave : D → List ℕ → Type 0) (limits : Limits) (s : Store) (files : Files D) (pending : List ℕ) : Type 0 where
  pub durable : Durable
  pub ready : IsReady seen may_leave files durable
  pub pends : IsPending limits s durable pending

-- whatever a crash leaves of the files now is right for the store
abbrev pub Lasts : {D : Type 0} → (D → List ℕ → Type 0) → List ℕ → Limits → Store → Files D → Type 0
Lasts may_leave asked limits s files = EachPair (may_leave files.first) (may_leave files.second) (IsLasting asked limits s)

-- the invariant
pub record IsSound {D : Type 0} (seen : D → List ℕ) (may_leave : D → List ℕ → Type 0) (f : Stored D) : Type 0 where
  pub stands : f.files.failed ≡ false → Stands seen may_leave f.limits (stored_as f) f.files f.pending
  pub lasts : Lasts may_leave (asked_of f.asked) f.limits (stored_as f) f.files
  pub within : AreWithin f.limits (stored_as f)

-- a flush returns how many actions it makes durable
abbrev pub flush_number_in : {D : Type 0} → Stored D → ℕ
flush_number_in f = flush_number_of f.pages

-- the files stay as they are, and what is known of them
pub record KeepsFiles {D : Type 0} (old new : Stored D) : Type 0 where
  pub files : new.files ≡ old.files
  pub limits : new.limits ≡ old.limits
  pub asked : new.asked ≡ old.asked
  pub longest : new.longest ≡ old.longest
  pub missed : new.missed ≡ old.missed

-- what decides when a log is begun anew stays, and the count of those that were missed
pub record KeepsRule {D : Type 0} (old new : Stored D) : Type 0 where
  pub longest : new.longest ≡ old.longest
  pub missed : new.missed ≡ old.missed

-- a flush is to begin the log anew: no disk refused a call, and it is longer than was set, and than twice its snapshot
abbrev pub is_due : {D : Type 0} → Stored D → Bool
is_due f = not f.files.failed && (nat_lt f.longest f.files.gate && nat_lt f.files.snapshot (f.files.gate / 2))

-- how many snapshots were missed with this one, as far as 64 bits go
abbrev pub missed_after : {D : Type 0} → Stored D → ℕ
missed_after f = min (f.missed + 1) (2 ^ 64 - 1)

-- the mark that is asked for stays, or it is this one, and a disk refused it just now
pub record AsksFor {D : Type 0} (upto : ℕ) (old new : Stored D) : Type 0 where
  pub is : (new.asked ≡ old.asked) ⊎ ((new.asked ≡ Some upto) × (old.files.failed ≡ false) × (new.files.failed ≡ true))
