-- A line that a reader holds in parts.
use Rattle.std.specs.Prelude.{◌≡◌, ◌≢◌, ℕ, Bool, true, false, List, ◌++◌, length, Option, OnSome}
use Rattle.std.proofs.Common.{All}
use Rattle.std.specs.Io.{StopsAt, IsEmptyOrEndsWith}
use Rattle.std.specs.Io.KnownBytes.{Consumes, IsAtEnd}

-- bytes of one line: if it ends behind them its end is the last of them, unless there are none, and else no end is among them
abbrev pub is_part : List ℕ → Bool → Type 0
is_part part true = StopsAt part 10 × IsEmptyOrEndsWith part 10
is_part part false = All (λ b. b ≢ 10) part

-- a reader loses bytes of one line, which are copied; there are none at the end of the input
pub record CopiesPart (before after : Option (List ℕ)) (old new : List ℕ) (ends : Bool) : Type 0 where
  pub part : List ℕ
  pub copied : new ≡ old ++ part
  pub taken : Consumes before after part
  pub is : is_part part ends
  pub none : ends ≡ true → length part ≡ 0 → OnSome before (IsAtEnd after)
