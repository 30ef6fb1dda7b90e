-- The two files of a store as code holds them, between two calls and within one.
use Rattle.std.specs.Prelude.{◌≡◌, ◌⊎◌, ◌+◌, ◌<◌, ◌≤◌, ◌==◌, max, ℕ, Bool, true, false, List, length, if◌then◌else◌}
use Rattle.sled_disk.specs.Disk.{Only}
use Rattle.sled_disk.specs.declared.disk.DiskError.{DiskError}
use Rattle.sled_disk.specs.declared.disk.DiskError.TheVariants.{NoMemory, Full, Failed}
use Rattle.sled_files.specs.Change.{Durable}
use Rattle.sled_files.specs.Standing.{StandsAt, IsBlank, IsOlder, AreFor}
use Rattle.sled_files.specs.Lasting.{EachPair}

-- The files, whether the second is the one that counts, the place of the closed gate of its log, how long the snapshot is that it begins
-- with, and its generation. And whether a call of a disk was refused: then nothing is known of its file but what a crash may leave
pub record Files (D : Type 0) : Type 0 where
  pub first : D
  pub second : D
  pub is_second : Bool
  pub gate : ℕ
  pub snapshot : ℕ
  pub generation : ℕ
  pub failed : Bool

abbrev pub picked : {D : Type 0} → Bool → D → D → D
picked is_second first second = if is_second then second else first

-- the file that counts, and the other
abbrev pub one_of : {D : Type 0} → Files D → D
one_of f = picked f.is_second f.first f.second

abbrev pub other_of : {D : Type 0} → Files D → D
other_of f = picked f.is_second f.second f.first

-- No call of a disk was refused, all of both files is on the disk, the one that counts stands for this, and the other is blank or
-- older
pub record IsReady {D : Type 0} (seen : D → List ℕ) (may_leave : D → List ℕ → Type 0) (f : Files D) (d : Durable) : Type 0 where
  pub sound : f.failed ≡ false
  pub first_only : Only (seen f.first) (may_leave f.first)
  pub second_only : Only (seen f.second) (may_leave f.second)
  pub stands : StandsAt (seen (one_of f)) f.gate f.generation d
  pub begins : length stands.stands.has.first ≡ f.snapshot
  pub behind : IsBlank (seen (other_of f)) ⊎ IsOlder f.generation (seen (other_of f))

-- what the laws of a disk say of one file: this moment is one of those since an earlier one, and the only one since itself
pub record KeepsTime {D : Type 0} (moment : D → ℕ) (left_since : D → ℕ → List ℕ → Type 0) (may_leave : D → List ℕ → Type 0) (file : D) : Type 0 where
  pub counts : (t : ℕ) (c : List ℕ) → t ≤ moment file → may_leave file c → left_since file t c
  pub only : (c : List ℕ) → left_since file (moment file) c → may_leave file c

-- a crash at any moment since `old`, or now, leaves a pair of files that has P
pub record LeavesPairs {D : Type 0} (moment : D → ℕ) (left_since : D → ℕ → List ℕ → Type 0) (may_leave : D → List ℕ → Type 0) (old new : Files D) (P : List ℕ → List ℕ → Type 0) : Type 0 where
  pub first_later : moment old.first ≤ moment new.first
  pub second_later : moment old.second ≤ moment new.second
  pub each : EachPair (left_since new.first (moment old.first)) (left_since new.second (moment old.second)) P
  pub now : EachPair (may_leave new.first) (may_leave new.second) P

-- two files stand for one of the two
abbrev pub AreForEither : Durable → Durable → List ℕ → List ℕ → Type 0
AreForEither before after first second = AreFor first second before ⊎ AreFor first second after

-- how many calls of both disks were refused for a fault
abbrev pub faults_in : {D : Type 0} → (D → ℕ) → Files D → ℕ
faults_in faults f = faults f.first + faults f.second

-- why a call is refused before a disk is asked: for memory, for room, or as a call of a disk was refused before
abbrev pub is_unasked : Bool → Type 0 → DiskError → Type 0
is_unasked failed lacks_room NoMemory = Unit {0}
is_unasked failed lacks_room Full = lacks_room
is_unasked failed lacks_room Failed = failed ≡ true

-- A disk refused a call while a file was changed, and which part of it is done is not known. It is counted as the disk's fault; a disk that
-- has no memory is one that failed, and is not counted. So want of memory is never told of a call that stops the store
abbrev pub is_stop : ℕ → ℕ → DiskError → Type 0
is_stop before now NoMemory = ⊥
is_stop before now Full = now ≡ before + 1
is_stop before now Failed = (now ≡ before + 1) ⊎ (now ≡ before)

-- A call was refused: before a disk was asked, and then nothing changed, or by a disk, and then all calls are refused from then on
abbrev pub IsRefused : {D : Type 0} → (D → ℕ) → Type 0 → Files D → Files D → DiskError → Type 0
IsRefused faults lacks_room old new e = ((new ≡ old) × is_unasked old.failed lacks_room e) ⊎ ((new.failed ≡ true) × is_stop (faults_in faults old) (faults_in faults new) e)

-- the invariant: unless a call of a disk was refused, all of both files is on the disk, and there is a byte at the gate
pub record IsKept {D : Type 0} (seen : D → List ℕ) (may_leave : D → List ℕ → Type 0) (f : Files D) : Type 0 where
  pub first_only : f.failed ≡ false → Only (seen f.first) (may_leave f.first)
  pub second_only : f.failed ≡ false → Only (seen f.second) (may_leave f.second)
  pub place : f.failed ≡ false → f.gate < length (seen (one_of f))

-- a file ends with the closed gate at this place, or it is as long as it was before, if that is longer
abbrev pub GrowsTo : ℕ → List ℕ → List ℕ → Type 0
GrowsTo gate old new = length new ≡ max (length old) (gate + 1)

-- A file was begun anew, with a snapshot alone, and counts from then on; the one that counted is the other. No byte was added behind its
-- gate
pub record IsRenewed {D : Type 0} (seen : D → List ℕ) (old new : Files D) : Type 0 where
  pub other : other_of new ≡ one_of old
  pub generation : new.generation ≡ old.generation + 1
  pub bytes : new.gate ≡ new.snapshot + 37
  pub grown : GrowsTo new.gate (seen (other_of old)) (seen (one_of new))

-- The log that counts has a block more, of a gate, two numbers of 8 bytes and so many bytes of changes, and its file has no byte more behind
-- that; the other file is emptied. Or there was nothing to be added
pub record IsGrown {D : Type 0} (seen : D → List ℕ) (added : ℕ) (old new : Files D) : Type 0 where
  pub same : new.is_second ≡ old.is_second
  pub snapshot : new.snapshot ≡ old.snapshot
  pub generation : new.generation ≡ old.generation
  pub bytes : new.gate ≡ old.gate + (if added == 0 then 0 else 17 + added)
  pub nothing : added ≡ 0 → new ≡ old
  pub calm : new.failed ≡ old.failed
  pub other : 0 < added → length (seen (other_of new)) ≤ 1
  pub grown : 0 < added → GrowsTo new.gate (seen (one_of old)) (seen (one_of new))
