-- What two disks are left with that had blocks in one sync, against what the store in them means.
use Rattle.std.specs.Prelude.{◌⊎◌, ℕ, List}
use Rattle.sled_store.specs.Store.{Store}
use Rattle.sled_files.specs.Change.{Durable}
use Rattle.sled_files.specs.Standing.{AreFor}
use Rattle.sled_files.specs.Lasting.{Limits, IsLasting}
use Rattle.sled_files.specs.Stored.{Stored, stored_as, asked_of}
use Rattle.sled_files.specs.Files.{Files}
use Rattle.sled_files.specs.Opening.{OpensTo, is_why_unopened, is_refusal}
use Rattle.sled_files.specs.declared.found.OpenError.{OpenError}
use Rattle.sled_once.specs.Stages.{IsReadAs, IsTold}
use Rattle.sled_once.specs.Once.{Once, bytes_of, outcomes_of}
use Rattle.files_once.specs.Mended.{IsMended}

-- two files are read as two others that stand for this
pub record AreReadFor (first second : List ℕ) (d : Durable) : Type 0 where
  pub one : List ℕ
  pub two : List ℕ
  pub first_read : IsReadAs one first
  pub second_read : IsReadAs two second
  pub stand : AreFor one two d

-- two files are read as two others that are right for a store, as two syncs leave them
pub record AreReadLasting (asked : List ℕ) (limits : Limits) (s : Store) (first second : List ℕ) : Type 0 where
  pub one : List ℕ
  pub two : List ℕ
  pub first_read : IsReadAs one first
  pub second_read : IsReadAs two second
  pub lasting : IsLasting asked limits s one two

-- If the digest tells what a crash left of the blocks under way, all that it may leave of the two disks is read as what is right for the store
abbrev pub LastsAsRead : {D : Type 0} → (D → List ℕ → Type 0) → Stored (Once D) → Type 0
LastsAsRead may_leave f = (first second : List ℕ) → may_leave f.files.first.disk first → may_leave f.files.second.disk second → IsTold f.files.first.stage first → IsTold f.files.second.stage second → AreReadLasting (asked_of f.asked) f.limits (stored_as f) first second

-- a store was opened of two files once they were mended
pub record OpensMended {D : Type 0} (first second : List ℕ) (files : Files (Once D)) (s : Store) : Type 0 where
  pub one : List ℕ
  pub two : List ℕ
  pub first_mended : IsMended first one
  pub second_mended : IsMended second two
  pub opens : OpensTo bytes_of outcomes_of one two files s

-- two files are refused for this once they were mended, the first thing that is wrong with them then
pub record AreRefusedMended (first second : List ℕ) (e : OpenError) : Type 0 where
  pub one : List ℕ
  pub two : List ℕ
  pub first_mended : IsMended first one
  pub second_mended : IsMended second two
  pub why : is_why_unopened e one two

-- why none was: a disk refused a call, there was no memory, or the files were refused once they were mended
abbrev pub IsWhyUnmended : List ℕ → List ℕ → OpenError → Type 0
IsWhyUnmended first second e = is_refusal e ⊎ AreRefusedMended first second e

-- two files that are read as those that are right for a store are right for it once they were mended
abbrev pub MendedLasts : Type 0
MendedLasts = (asked : List ℕ) (limits : Limits) (s : Store) (first second one two : List ℕ) → AreReadLasting asked limits s first second → IsMended first one → IsMended second two → IsLasting asked limits s one two
