-- Which error a refused call of a store in files has, and with which code.
use Rattle.std.specs.Prelude.{◌≡◌, ◌⊎◌, ◌+◌, ◌-◌, ◌<◌, ◌^◌, ℕ, true, if◌then◌else◌, nat_lt, length}
use Rattle.sled_nodes.specs.declared.error.Error.{Error}
use Rattle.sled_nodes.specs.declared.error.Error.TheVariants.{Io, NoMemory}
use Rattle.sled_disk.specs.declared.disk.DiskError.{DiskError}
use Rattle.sled_disk.specs.declared.disk.DiskError.TheVariants as disk
use Rattle.sled_store.specs.Store.{Store, IsRefused as IsRefusedCall}
use Rattle.sled_pages.specs.Memory.{store_of}
use Rattle.sled_files.specs.Files.{Files, IsRefused, is_stop, faults_in}
use Rattle.sled_files.specs.Stored.{Stored, stored_as, missed_after}

-- no page number or no version is left
abbrev pub used_up : ℕ
used_up = 3

-- a disk has no room, or the log or its generation would be too large
abbrev pub disk_full : ℕ
disk_full = 4

-- a disk failed in another way or had no memory while a file was changed, or refused a call before
abbrev pub disk_failed : ℕ
disk_failed = 5

-- the fault of this code, while faults can be counted, of which there were so many
abbrev pub fault_of : ℕ → ℕ → Error
fault_of counted code = if nat_lt counted (2 ^ 64 - 1) then Io (record { 0 = code }) else NoMemory

-- the error of a refusal of the files
abbrev pub error_of : ℕ → DiskError → Error
error_of counted disk.NoMemory = NoMemory
error_of counted disk.Full = fault_of counted disk_full
error_of counted disk.Failed = fault_of counted disk_failed

-- A call that brings something to the files is refused as they are: the error says by which refusal of theirs. For want of memory it may
-- be refused before they are asked
pub record IsUnstored {D : Type 0} (faults : D → ℕ) (lacks_room : Type 0) (old new : Files D) (counted : ℕ) (e : Error) : Type 0 where
  pub cause : DiskError
  pub why : IsRefused faults lacks_room old new cause
  pub is : e ≡ error_of counted cause

-- a disk refused a call while a file was changed, and the store's call is refused with the error for that
pub record Stops {D : Type 0} (faults : D → ℕ) (old new : Stored D) (e : Error) : Type 0 where
  pub cause : DiskError
  pub refused : is_stop (faults_in faults old.files) (faults_in faults new.files) cause
  pub told : e ≡ error_of old.faults cause

-- A refused call stops the store, so that its disks have to be opened again, only as a disk refused a call of it, and then says so. After
-- each other refusal the store is stopped if it was before, and not if it was not
pub record StopsOnlyAsFailed {D : Type 0} (faults : D → ℕ) (old new : Stored D) (e : Error) : Type 0 where
  pub is : (new.files.failed ≡ old.files.failed) ⊎ Stops faults old new e

-- once a disk refused a call, this one is refused for that, whatever else might refuse it
abbrev pub SaysThatItFailed : {D : Type 0} → Stored D → Error → Type 0
SaysThatItFailed old e = old.files.failed ≡ true → e ≡ fault_of old.faults disk_failed

-- what is pending has no room in the log, limits that are set with it included
abbrev pub LacksRoom : {D : Type 0} → Stored D → Type 0
LacksRoom f = 2 ^ 62 < f.files.gate + 34 + length f.pending

-- no generation is left
abbrev pub IsLast : {D : Type 0} → Stored D → Type 0
IsLast f = f.files.generation + 1 ≡ 2 ^ 64

-- a flush was refused that was due to begin the log anew: it was refused there
pub record FailsAnew {D : Type 0} (faults : D → ℕ) (old new : Stored D) (e : Error) : Type 0 where
  pub cause : IsUnstored faults (IsLast old) old.files new.files old.faults e
  pub missed : new.missed ≡ old.missed
  pub has_memory : e ≡ NoMemory → new.files.failed ≡ true

-- or that was counted as missed, and then the block was refused
pub record FailsOn {D : Type 0} (faults : D → ℕ) (old new : Stored D) (e : Error) : Type 0 where
  pub cause : IsUnstored faults (LacksRoom old) old.files new.files old.faults e
  pub missed : new.missed ≡ missed_after old

-- the page numbers, or the versions, were given that 64 bits have, but for the greatest
abbrev pub AreUsedUp : Store → Type 0
AreUsedUp s = ((p : ℕ) → 0 < p → p < 2 ^ 64 - 1 → s.pids p ≡ true) ⊎ ((v : ℕ) → v < 2 ^ 64 - 1 → s.versions v ≡ true)

-- none is left for a call that gives one, and the files stay as they are
pub record LacksNumber {D : Type 0} (old new : Stored D) (e : Error) : Type 0 where
  pub given : AreUsedUp (stored_as old)
  pub files : new.files ≡ old.files
  pub is : e ≡ fault_of old.faults used_up

-- limits alone have no room in the log
abbrev pub LacksRoomForLimits : {D : Type 0} → Stored D → Type 0
LacksRoomForLimits f = 2 ^ 62 < f.files.gate + 34

-- a call that gives a number gets to none: none is left, or higher limits were refused by the files
abbrev pub FailsToReach : {D : Type 0} → (D → ℕ) → Stored D → Stored D → Error → Type 0
FailsToReach faults old new e = LacksNumber old new e ⊎ IsUnstored faults (LacksRoomForLimits old) old.files new.files old.faults e

-- the pages in memory refused the call, which is no fault of the files
pub record FailsInMemory {D : Type 0} (old new : Stored D) (e : Error) : Type 0 where
  pub is : IsRefusedCall e (store_of old.pages) (store_of new.pages)
  pub calm : new.faults ≡ old.faults

-- why a call that gives a number is refused
abbrev pub is_why_ungiven : {D : Type 0} → (D → ℕ) → Stored D → Stored D → Error → Type 0
is_why_ungiven faults old new e = FailsToReach faults old new e ⊎ FailsInMemory old new e
