-- What the two files of a store are found to be, and the store that is opened of them.
use Rattle.std.specs.Prelude.{◌≡◌, ◌⊎◌, ◌+◌, ℕ, true, ◌&&◌, nat_lt, List, [], None}
use Rattle.sled_store.specs.Store.{Store}
use Rattle.sled_disk.specs.Disk.{Only}
use Rattle.sled_disk.specs.declared.disk.DiskError.{DiskError}
use Rattle.sled_disk.specs.declared.disk.DiskError.TheVariants as full
use Rattle.sled_pages.specs.Memory.{empty_store}
use Rattle.sled_files.specs.declared.found.OpenError.{OpenError}
use Rattle.sled_files.specs.declared.found.OpenError.TheVariants.{NoMemory, Disk}
use Rattle.sled_files.specs.Change.{Durable, nothing_yet}
use Rattle.sled_files.specs.Flaws.{is_flaw}
use Rattle.sled_files.specs.Standing.{AreFor, AreBlank, IsBegun}
use Rattle.sled_files.specs.Files.{Files, IsReady, GrowsTo}
use Rattle.sled_files.specs.Stored.{Stored}

-- two files are those of a store, or of one that is still to be made
abbrev pub AreOpenable : List ℕ → List ℕ → Type 0
AreOpenable first second = AreBlank first second ⊎ ((d : Durable) × AreFor first second d)

-- two files are not those of a store, nor of one that is still to be made
pub record AreOfNone (first second : List ℕ) : Type 0 where
  pub no_blanks : AreBlank first second → ⊥
  pub no_store : (d : Durable) → AreFor first second d → ⊥

-- A store that was opened: the state, the mark, and the limits below which all numbers count as given, and no others
pub record IsReopened (d : Durable) (s : Store) : Type 0 where
  pub base : s.base ≡ d.state
  pub recent : s.recent ≡ []
  pub mark : s.mark ≡ d.mark
  pub recovered : s.recovered ≡ true
  pub pids : (p : ℕ) → s.pids p ≡ (nat_lt 0 p && nat_lt p d.pids)
  pub versions : (v : ℕ) → s.versions v ≡ nat_lt v d.versions
  pub actions : s.actions ≡ 0
  pub faults : s.faults ≡ 0
  pub readable : (p : ℕ) → s.is_readable p ≡ true

-- Why two files are not opened, if no disk refused a call. Memory ran out, or they are not the files of a store, and the error names the
-- first thing that is wrong with them
abbrev pub is_why_unopened : OpenError → List ℕ → List ℕ → Type 0
is_why_unopened NoMemory first second = Unit {0}
is_why_unopened (Disk e) first second = ⊥
is_why_unopened e first second = AreOfNone first second × is_flaw e first second

-- a fault of a disk: want of memory has an error of its own
abbrev pub is_fault : DiskError → Type 0
is_fault full.NoMemory = ⊥
is_fault e = Unit {0}

-- a disk refused a call, for memory or for a fault
abbrev pub is_refusal : OpenError → Type 0
is_refusal NoMemory = Unit {0}
is_refusal (Disk e) = is_fault e
is_refusal _ = ⊥

-- why no store was opened: a disk refused a call for a fault, or the two files are not those of a store
abbrev pub is_why_closed : OpenError → List ℕ → List ℕ → Type 0
is_why_closed (Disk e) first second = is_fault e
is_why_closed e first second = is_why_unopened e first second

-- the error of an opening of two files, if this is wrong with them: it, or that a disk refused a call
abbrev pub IsTold : OpenError → OpenError → Type 0
IsTold flaw told = (told ≡ flaw) ⊎ is_refusal told

-- What a crash leaves of two disks from when they are given to be opened until they are given back, in a store or as they were refused. Of
-- each it is what might have been left of it before. Of the first, if both files are blank, it is also what is left of a store's first file
-- while it is begun
pub record LeavesWhileOpened {D : Type 0} (seen : D → List ℕ) (moment : D → ℕ) (left_since : D → ℕ → List ℕ → Type 0) (may_leave : D → List ℕ → Type 0) (first second first_then second_then : D) : Type 0 where
  pub first_is : (c : List ℕ) → left_since first_then (moment first) c → may_leave first c ⊎ (AreBlank (seen first) (seen second) × IsBegun (seen first) 1 nothing_yet c)
  pub second_is : (c : List ℕ) → left_since second_then (moment second) c → may_leave second c
  -- and then
  pub first_now : (c : List ℕ) → may_leave first_then c → may_leave first c ⊎ (AreBlank (seen first) (seen second) × IsBegun (seen first) 1 nothing_yet c)
  pub second_now : (c : List ℕ) → may_leave second_then c → may_leave second c

-- two disks are as they were, and all that they have is on them
pub record StayAsTheyWere {D : Type 0} (seen : D → List ℕ) (may_leave : D → List ℕ → Type 0) (first second first_then second_then : D) : Type 0 where
  pub first_stays : seen first_then ≡ seen first
  pub second_stays : seen second_then ≡ seen second
  pub first_only : Only (seen first) (may_leave first_then)
  pub second_only : Only (seen second) (may_leave second_then)

-- a read of two disks returns what it did. If both were blank, the first may have what begins a store
abbrev pub AreSeenAsBefore : {D : Type 0} → (D → List ℕ) → D → D → D → D → Type 0
AreSeenAsBefore seen first second first_then second_then = ((seen first_then ≡ seen first) ⊎ AreBlank (seen first) (seen second)) × (seen second_then ≡ seen second)

-- of a store that was just opened no mark was refused, nothing is to be added to its files, and no snapshot was missed
pub record IsFresh {D : Type 0} (f : Stored D) : Type 0 where
  pub asked : f.asked ≡ None
  pub pending : f.pending ≡ []
  pub longest : f.longest ≡ 4000000
  pub missed : f.missed ≡ 0

-- a refusal of a disk, but for want of memory, is counted as its fault, and no other refusal is
abbrev pub is_counted : ℕ → ℕ → OpenError → Type 0
is_counted before now (Disk full.NoMemory) = ⊥
is_counted before now (Disk e) = now ≡ before + 1
is_counted before now e = now ≡ before

-- the store that two files stand for was opened, they stand for nothing else, and they stay as they were
pub record Recovers {D : Type 0} (seen : D → List ℕ) (may_leave : D → List ℕ → Type 0) (first second : List ℕ) (files : Files D) (s : Store) : Type 0 where
  pub durable : Durable
  pub stand : AreFor first second durable
  pub alone : (d : Durable) → AreFor first second d → d ≡ durable
  pub ready : IsReady seen may_leave files durable
  pub first_stays : seen files.first ≡ first
  pub second_stays : seen files.second ≡ second
  pub reopened : IsReopened durable s

-- Both files were blank, and a new store was begun in the first. No byte was added behind its gate, and the second stays as it was
pub record Begins {D : Type 0} (seen : D → List ℕ) (may_leave : D → List ℕ → Type 0) (first second : List ℕ) (files : Files D) (s : Store) : Type 0 where
  pub blanks : AreBlank first second
  pub ready : IsReady seen may_leave files nothing_yet
  pub grown : GrowsTo files.gate first (seen files.first)
  pub second_stays : seen files.second ≡ second
  pub empty : s ≡ empty_store

-- what two files are opened to, as a store
abbrev pub OpensTo : {D : Type 0} → (D → List ℕ) → (D → List ℕ → Type 0) → List ℕ → List ℕ → Files D → Store → Type 0
OpensTo seen may_leave first second files s = Recovers seen may_leave first second files s ⊎ Begins seen may_leave first second files s
