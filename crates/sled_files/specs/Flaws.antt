-- What is wrong with two files that are not those of a store.
use Rattle.std.specs.Prelude.{◌≡◌, ◌⊎◌, ◌<◌, ◌≤◌, ℕ, List, ◌∷◌, ◌++◌, length, take, drop, Ok, Err}
use Rattle.std.specs.Int.{w32, from_le_bytes}
use Rattle.sled_log.specs.Digest.{digest}
use Rattle.sled_log.specs.Log.{log_of, IsLog}
use Rattle.sled_bytes.specs.declared.change.Change.{Change}
use Rattle.sled_files.specs.declared.found.OpenError.{OpenError}
use Rattle.sled_files.specs.declared.found.OpenError.TheVariants.{NoMemory, NotAStore, OtherFormat, Decayed, Disk}
use Rattle.sled_files.specs.Change.{nothing_yet, changed_all, AreOfStore}
use Rattle.sled_files.specs.Header.{magic, format, header}
use Rattle.sled_files.specs.Standing.{all_changes, IsBlank, OfGeneration, IsOlder}

-- the bytes say whose file it is, at the place of the header of the first block
abbrev pub HasMagic : List ℕ → Type 0
HasMagic bytes = take 8 (drop 17 bytes) ≡ magic

-- the number of the format in a header
abbrev pub format_in : List ℕ → ℕ
format_in payload = from_le_bytes w32 (take 4 (drop 8 payload))

-- a header of another format
pub record HasOtherFormat (other : ℕ) (bytes : List ℕ) : Type 0 where
  pub payload : List ℕ
  pub others : List (List ℕ)
  pub log : log_of digest bytes ≡ Ok (payload ∷ others)
  pub begins : take 8 payload ≡ magic
  pub long : 12 ≤ length payload
  pub number : format_in payload ≡ other
  pub is_other : other ≡ format → ⊥

-- If the payload begins with the name of the format, it ends before the number of the format does, or that number is this format's, and it
-- ends before the header does
abbrev pub IsCutShort : List ℕ → Type 0
IsCutShort payload = take 8 payload ≡ magic → (length payload < 12) ⊎ ((format_in payload ≡ format) × (length payload < 20))

-- a log whose first payload begins with no whole header
pub record HasNoHeader (bytes : List ℕ) : Type 0 where
  pub payload : List ℕ
  pub others : List (List ℕ)
  pub log : log_of digest bytes ≡ Ok (payload ∷ others)
  pub short : IsCutShort payload

-- a file that is no log, as is found at this place
pub record Breaks (place : ℕ) (bytes : List ℕ) : Type 0 where
  pub long : 1 < length bytes
  pub log : log_of digest bytes ≡ Err place

-- nothing is wrong with a file alone: it is blank, or one of a store
abbrev pub HasNoFlaw : List ℕ → Type 0
HasNoFlaw bytes = IsBlank bytes ⊎ ((generation : ℕ) × OfGeneration bytes generation)

-- what is wrong with a file alone. The header begins behind the 17 bytes that are before the first payload
abbrev pub IsFlawOf : OpenError → List ℕ → Type 0
IsFlawOf NotAStore bytes = (HasNoFlaw bytes → ⊥) × (HasMagic bytes → ⊥)
IsFlawOf (OtherFormat other) bytes = HasMagic bytes × HasOtherFormat other bytes
IsFlawOf (Decayed place) bytes = HasMagic bytes × (Breaks place bytes ⊎ ((place ≡ 17) × HasNoHeader bytes))
IsFlawOf NoMemory bytes = ⊥
IsFlawOf (Disk e) bytes = ⊥

-- two files of one generation
pub record AreEven (first second : List ℕ) : Type 0 where
  pub generation : ℕ
  pub first_is : OfGeneration first generation
  pub second_is : OfGeneration second generation

-- the file that counts has a closed gate at this place, and before it changes that no store makes
pub record IsNoStore (place : ℕ) (one other : List ℕ) : Type 0 where
  pub generation : ℕ
  pub is : OfGeneration one generation
  pub behind : IsBlank other ⊎ IsOlder generation other
  pub log : IsLog digest one ((header generation ++ is.first) ∷ is.others) place
  pub unmade : (changes : List Change) → all_changes (is.first ∷ is.others) ≡ Ok changes → AreOfStore changes (changed_all changes nothing_yet) → ⊥

-- what is wrong with two files together
abbrev pub IsFlawOfBoth : OpenError → List ℕ → List ℕ → Type 0
IsFlawOfBoth (Decayed place) first second = ((place ≡ 0) × AreEven first second) ⊎ (IsNoStore place first second ⊎ IsNoStore place second first)
IsFlawOfBoth _ first second = ⊥

-- what is wrong with two files, the first thing that is found
abbrev pub is_flaw : OpenError → List ℕ → List ℕ → Type 0
is_flaw e first second = IsFlawOf e first ⊎ ((HasNoFlaw first × IsFlawOf e second) ⊎ IsFlawOfBoth e first second)
