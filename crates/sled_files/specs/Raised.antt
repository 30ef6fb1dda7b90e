-- How far the limits of page numbers and versions are raised, by which call, and how many bytes that adds to the log.
use Rattle.std.specs.Prelude.{◌≡◌, ◌⊎◌, ◌+◌, ◌-◌, ◌≤◌, ◌<◌, ◌^◌, ◌&&◌, ◌==◌, ℕ, Bool, true, min, max, nat_lt, if◌then◌else◌, List, [], length}
use Rattle.sled_store.specs.Store.{Store, now}
use Rattle.sled_files.specs.Lasting.{Limits}
use Rattle.sled_files.specs.Files.{IsGrown, IsRenewed}
use Rattle.sled_files.specs.Snapshot.{IsSnapshot}
use Rattle.sled_files.specs.Stored.{Stored, stored_as}

-- the page numbers that were given are those below the first of these, and the versions those below the second
pub record ComeNext (s : Store) (pid version : ℕ) : Type 0 where
  pub positive : 0 < pid
  pub pids : (p : ℕ) → 0 < p → s.pids p ≡ nat_lt p pid
  pub versions : (v : ℕ) → s.versions v ≡ nat_lt v version

-- a limit that is raised: a piece of 1,000,000 above what comes next, as far as 64 bits go, and no lower than it was
abbrev pub raised_to : ℕ → ℕ → ℕ
raised_to limit next = max limit (min (next + 1000000) (2 ^ 64 - 1))

-- both limits, where this page number and this version come next
abbrev pub raised_above : ℕ → ℕ → Limits → Limits
raised_above pid version limits = record { pids = raised_to limits.pids pid; versions = raised_to limits.versions version }

-- what comes next is more than 200,000 below both limits
abbrev pub are_far : ℕ → ℕ → Limits → Bool
are_far pid version limits = nat_lt (pid + 200000) limits.pids && nat_lt (version + 200000) limits.versions

-- a flush that writes raises the limits unless they are far
pub record RaisesNear (s : Store) (limits raised : Limits) : Type 0 where
  pub pid : ℕ
  pub version : ℕ
  pub next : ComeNext s pid version
  pub is : raised ≡ (if are_far pid version limits then limits else raised_above pid version limits)

-- what comes next has reached one of the limits
pub record HasReached (s : Store) (limits : Limits) : Type 0 where
  pub pid : ℕ
  pub version : ℕ
  pub next : ComeNext s pid version
  pub is : (limits.pids ≤ pid) ⊎ (limits.versions ≤ version)

-- a call that gives a number raises them where what comes next has reached one
pub record RaisesReached (s : Store) (limits raised : Limits) : Type 0 where
  pub pid : ℕ
  pub version : ℕ
  pub next : ComeNext s pid version
  pub reached : (limits.pids ≤ pid) ⊎ (limits.versions ≤ version)
  pub is : raised ≡ raised_above pid version limits

-- how many bytes limits take in a block: none if they stay
abbrev pub limits_length : Limits → Limits → ℕ
limits_length limits raised = if (raised.pids == limits.pids) && (raised.versions == limits.versions) then 0 else 17

-- A flush added a block of what was pending, and of the limits if it raised them; or nothing, if nothing was pending
pub record FlushesOn {D : Type 0} (seen : D → List ℕ) (old new : Stored D) : Type 0 where
  pub files : IsGrown seen (length old.pending + limits_length old.limits new.limits) old.files new.files
  pub idle : old.pending ≡ [] → new.limits ≡ old.limits
  pub limits : 0 < length old.pending → RaisesNear (stored_as old) old.limits new.limits

-- a flush began the other file anew with a snapshot, and with limits that are far, as far as 64 bits go
pub record FlushesAnew {D : Type 0} (seen : D → List ℕ) (old new : Stored D) : Type 0 where
  pub files : IsRenewed seen old.files new.files
  pub snapshot : IsSnapshot (now (stored_as old)) old.mark new.limits new.files.snapshot
  pub limits : RaisesNear (stored_as old) old.limits new.limits

-- before a number was given, the limits were raised by a block of their own
pub record Raises {D : Type 0} (seen : D → List ℕ) (old new : Stored D) : Type 0 where
  pub files : IsGrown seen 17 old.files new.files
  pub limits : RaisesReached (stored_as old) old.limits new.limits

-- a call that gives a number leaves files and limits as they are, or raises the limits first
abbrev pub Reaches : {D : Type 0} → (D → List ℕ) → Stored D → Stored D → Type 0
Reaches seen old new = ((new.files ≡ old.files) × (new.limits ≡ old.limits)) ⊎ Raises seen old new

-- one that is refused did the same, or a disk refused to raise them, where what comes next has reached one
abbrev pub ReachesOrFails : {D : Type 0} → (D → List ℕ) → Stored D → Stored D → Type 0
ReachesOrFails seen old new = Reaches seen old new ⊎ (HasReached (stored_as old) old.limits × (new.files.failed ≡ true) × (new.limits ≡ old.limits))
