-- A file of a store that a crash may have torn, and what is made of it before it is opened.
use Rattle.std.specs.Prelude.{◌≡◌, ◌⊎◌, ℕ, List, [], ◌∷◌, ◌++◌, take, Ok}
use Rattle.sled_disk.specs.Disk.{Only}
use Rattle.sled_log.specs.Digest.{digest}
use Rattle.sled_log.specs.Log.{closed, blocks, log_of}
use Rattle.sled_log.specs.Tear.{log_to_tear}
use Rattle.sled_files.specs.Change.{nothing_yet}
use Rattle.sled_files.specs.Header.{magic, header, format}
use Rattle.sled_files.specs.Flaws.{format_in}
use Rattle.sled_files.specs.Standing.{AreBlank, IsBegun}
use Rattle.sled_once.specs.Stages.{IsReadAs}

-- up to a tear, the log's first payload begins with the header of a store
pub record IsOfStore (file : List ℕ) : Type 0 where
  pub generation : ℕ
  pub first : List ℕ
  pub others : List (List ℕ)
  pub read : log_to_tear digest file ≡ (header generation ++ first) ∷ others

-- up to a tear, the log's first payload begins with the name and the number of the format
pub record BeginsAsStore (file : List ℕ) : Type 0 where
  pub payload : List ℕ
  pub others : List (List ℕ)
  pub read : log_to_tear digest file ≡ payload ∷ others
  pub begins : take 8 payload ≡ magic
  pub same : format_in payload ≡ format

-- A file that began as one of a store was made whole: a log of what was read up to the tear, whose closed gate is the last byte. So one that
-- was whole stays as it is, but for what was behind its gate
pub record IsMadeWhole (before after : List ℕ) : Type 0 where
  pub began : BeginsAsStore before
  pub log : log_of digest after ≡ Ok (log_to_tear digest before)
  pub is : after ≡ blocks digest (log_to_tear digest before) ++ closed ∷ []

-- A file after it was mended. One that is none of a store stays as it is
abbrev pub IsMended : List ℕ → List ℕ → Type 0
IsMended before after = ((after ≡ before) × (IsOfStore before → ⊥)) ⊎ IsMadeWhole before after

-- Both disks have what they had, mended where a crash had torn it, and nothing else is left by a crash
pub record StayMended {D : Type 0} (seen : D → List ℕ) (may_leave : D → List ℕ → Type 0) (first second first_then second_then : D) : Type 0 where
  pub first_mended : IsMended (seen first) (seen first_then)
  pub second_mended : IsMended (seen second) (seen second_then)
  pub first_only : Only (seen first_then) (may_leave first_then)
  pub second_only : Only (seen second_then) (may_leave second_then)

-- what a crash might have left of the first of two disks, or what it leaves of a store's first file that is begun in two blank ones
abbrev pub LeftOrBegun : (List ℕ → Type 0) → List ℕ → List ℕ → List ℕ → Type 0
LeftOrBegun before first second c = before c ⊎ (AreBlank first second × IsBegun first 1 nothing_yet c)

-- What a crash leaves of a file while it is mended: what it might have left before, or a file that is read as it was
abbrev pub LeftMeanwhile : (List ℕ → Type 0) → List ℕ → List ℕ → Type 0
LeftMeanwhile before file c = before c ⊎ IsReadAs file c
