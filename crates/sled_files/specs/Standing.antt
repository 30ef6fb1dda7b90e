-- What the bytes of one file of a store stand for, and of two files.
use Rattle.std.specs.Prelude.{◌≡◌, ◌⊎◌, ◌≤◌, ◌<◌, ◌^◌, ℕ, List, [], ◌∷◌, ◌++◌, length, Result, Ok, Err}
use Rattle.sled_log.specs.Digest.{digest}
use Rattle.sled_log.specs.Log.{log_of, IsLog}
use Rattle.sled_bytes.specs.declared.change.Change.{Change}
use Rattle.sled_bytes.specs.declared.refusal.Flaw.{Flaw}
use Rattle.sled_bytes.specs.Reading.{changes_of}
use Rattle.sled_files.specs.Change.{Durable, nothing_yet, changed_all, AreOfStore}
use Rattle.sled_files.specs.Header.{header}

-- the changes of one payload before those of others, or the first flaw
abbrev pub joined : Result (List Change) Flaw → Result (List Change) Flaw → Result (List Change) Flaw
joined (Ok front) (Ok rest) = Ok (front ++ rest)
joined (Ok front) (Err flaw) = Err flaw
joined (Err flaw) rest = Err flaw

abbrev pub all_changes : List (List ℕ) → Result (List Change) Flaw
all_changes [] = Ok []
all_changes (payload ∷ payloads) = joined (changes_of payload) (all_changes payloads)

-- The bytes of a file are a log whose first payload begins with the header of this generation, and what is behind the header and
-- the other payloads are these changes
pub record HasChanges (bytes : List ℕ) (generation : ℕ) (changes : List Change) : Type 0 where
  pub fits : generation < 2 ^ 64
  pub first : List ℕ
  pub others : List (List ℕ)
  pub log : log_of digest bytes ≡ Ok ((header generation ++ first) ∷ others)
  pub decoded : all_changes (first ∷ others) ≡ Ok changes

-- its changes are those of a store, and make this of nothing
pub record StandsFor (bytes : List ℕ) (generation : ℕ) (d : Durable) : Type 0 where
  pub changes : List Change
  pub has : HasChanges bytes generation changes
  pub makes : changed_all changes nothing_yet ≡ d
  pub made : AreOfStore changes d

-- and the closed gate of the log is at this place
pub record StandsAt (file : List ℕ) (gate generation : ℕ) (d : Durable) : Type 0 where
  pub stands : StandsFor file generation d
  pub log : IsLog digest file ((header generation ++ stands.has.first) ∷ stands.has.others) gate

-- and its snapshot, which is what its first payload has behind the header, is so long
pub record StandsWith (file : List ℕ) (gate snapshot generation : ℕ) (d : Durable) : Type 0 where
  pub at : StandsAt file gate generation d
  pub snapshot_is : length at.stands.has.first ≡ snapshot

-- a file in which nothing counts: at most one byte, or a closed gate at its front
abbrev pub IsBlank : List ℕ → Type 0
IsBlank bytes = (length bytes ≤ 1) ⊎ (log_of digest bytes ≡ Ok [])

-- a file of a store, of this generation, whatever else it has: a log whose first payload begins with the header
pub record OfGeneration (bytes : List ℕ) (generation : ℕ) : Type 0 where
  pub fits : generation < 2 ^ 64
  pub first : List ℕ
  pub others : List (List ℕ)
  pub log : log_of digest bytes ≡ Ok ((header generation ++ first) ∷ others)

-- a store's file of an earlier generation
pub record IsOlder (generation : ℕ) (bytes : List ℕ) : Type 0 where
  pub earlier : ℕ
  pub below : earlier < generation
  pub is : OfGeneration bytes earlier

-- What a crash may leave of a file that is begun anew: what it was, nothing that counts, or what it is to stand for
abbrev pub IsBegun : List ℕ → ℕ → Durable → List ℕ → Type 0
IsBegun old generation d c = (c ≡ old) ⊎ (IsBlank c ⊎ StandsFor c generation d)

-- one file stands for this, and the other is blank or older
pub record Counts (one other : List ℕ) (generation : ℕ) (d : Durable) : Type 0 where
  pub stands : StandsFor one generation d
  pub behind : IsBlank other ⊎ IsOlder generation other

-- the two files of a store stand for what the one that counts stands for
pub record AreFor (first second : List ℕ) (d : Durable) : Type 0 where
  pub generation : ℕ
  pub which : Counts first second generation d ⊎ Counts second first generation d

-- the two files are those of a store that is still to be made
pub record AreBlank (first second : List ℕ) : Type 0 where
  pub first_is : IsBlank first
  pub second_is : IsBlank second
