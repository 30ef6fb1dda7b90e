-- A file of a store that is begun, or emptied.
use Rattle.std.specs.Prelude.{◌≡◌, ◌⊎◌, ◌<◌, ◌^◌, ℕ, List, ◌++◌, length}
use Rattle.sled_log.specs.Digest.{digest}
use Rattle.sled_log.specs.Append.{behind_gate}
use Rattle.sled_bytes.specs.declared.change.Change.{Change}
use Rattle.sled_files.specs.Change.{nothing_yet, changed_all, AreOfStore}
use Rattle.sled_files.specs.Header.{header}
use Rattle.sled_files.specs.Pending.{Spells}
use Rattle.sled_files.specs.Standing.{IsBlank}

-- The bytes are those of a block behind its gate, and then a closed gate; the block's payload is the header of this generation and
-- what spells these changes, which are those of a store
pub record IsFirstBlock (bytes payload : List ℕ) (generation : ℕ) (changes : List Change) : Type 0 where
  pub fits : generation < 2 ^ 64
  pub spells : Spells payload changes
  pub made : AreOfStore changes (changed_all changes nothing_yet)
  pub few : length (header generation ++ payload) < 2 ^ 64
  pub bytes_are : bytes ≡ behind_gate digest (header generation ++ payload)

-- what a crash may leave of a file that is emptied: what it was, or nothing that counts
abbrev pub IsEmptied : List ℕ → List ℕ → Type 0
IsEmptied old c = (c ≡ old) ⊎ IsBlank c
