-- Limits that a flush raises in its own block.
use Rattle.std.specs.Prelude.{◌≡◌, ◌<◌, ◌^◌, ℕ, List, ◌++◌, length}
use Rattle.std.specs.List.{All}
use Rattle.sled_bytes.specs.declared.change.Change.{Change}
use Rattle.sled_files.specs.Change.{Durable, changed_all, IsWithin}
use Rattle.sled_files.specs.Lasting.{Limits, AreLimits}
use Rattle.sled_files.specs.Pending.{Spells}
use Rattle.sled_files.specs.Raised.{limits_length}

-- what is pending, and then changes that set these limits, if they are others
pub record IsAhead (limits raised : Limits) (before after : List ℕ) : Type 0 where
  pub rest : List ℕ
  pub bytes : after ≡ before ++ rest
  pub long : length rest ≡ limits_length limits raised
  pub more : List Change
  pub spells : (changes : List Change) → Spells before changes → Spells after (changes ++ more)
  pub state : (d : Durable) → (changed_all more d).state ≡ d.state
  pub mark : (d : Durable) → (changed_all more d).mark ≡ d.mark
  pub limited : (d : Durable) → AreLimits limits d → AreLimits raised (changed_all more d)
  pub within : (d : Durable) → All (IsWithin d) more
  pub fits : (d : Durable) → d.versions < 2 ^ 64 → (changed_all more d).versions < 2 ^ 64
