-- What the next flush adds to the files of a store.
use Rattle.std.specs.Prelude.{◌≡◌, ◌++◌, ℕ, List, Result, Ok, Err}
use Rattle.std.specs.List.{flat_map, All}
use Rattle.sled_store.specs.Store.{Store}
use Rattle.sled_bytes.specs.declared.change.Change.{Change}
use Rattle.sled_bytes.specs.Spelling.{change_bytes, FitsChange}
use Rattle.sled_files.specs.Change.{Durable, changed_all, actions_of, IsWithin}
use Rattle.sled_files.specs.Lasting.{Limits, AreLimits}

-- The bytes are those of changes, one after the other
pub record Spells (bytes : List ℕ) (changes : List Change) : Type 0 where
  pub fit : All FitsChange changes
  pub spelled : bytes ≡ flat_map change_bytes changes

-- what is no part of the state
abbrev pub aside_of : Durable → ℕ × ℕ × ℕ
aside_of d = (d.mark, d.pids, d.versions)

-- What the files stand for is the store's base, its mark and these limits, and the bytes are changes that are the actions of the
-- store since, and nothing else; their numbers are below the limits
pub record IsPending (limits : Limits) (s : Store) (d : Durable) (bytes : List ℕ) : Type 0 where
  pub base : d.state ≡ s.base
  pub mark : d.mark ≡ s.mark
  pub limited : AreLimits limits d
  pub changes : List Change
  pub spells : Spells bytes changes
  pub within : All (IsWithin d) changes
  pub acts : actions_of changes s.base ≡ s.recent
  pub aside : (whole : Durable) → aside_of (changed_all changes whole) ≡ aside_of whole

-- What a call adds to what is pending: the change that it made, by what it returned, or nothing if it found another version or root
abbrev pub AddsMade : {T S : Type 0} → (T → Change) → Result T S → List ℕ → List ℕ → Type 0
AddsMade change (Ok given) before after = after ≡ before ++ change_bytes (change given)
AddsMade change (Err present) before after = after ≡ before
