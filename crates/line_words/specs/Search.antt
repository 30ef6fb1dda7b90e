-- Where a byte is first.
use Rattle.std.specs.Prelude.{◌≡◌, ℕ, ◌<◌, ◌==◌, false, List, length, slice_index}

-- the byte is at none of the first n places
abbrev pub Lacks : ℕ → List ℕ → ℕ → Type 0
Lacks byte bytes n = (k : ℕ) → k < n → (slice_index bytes k == byte) ≡ false

-- the byte is here, and nowhere before
pub record IsFirst (byte : ℕ) (bytes : List ℕ) (at : ℕ) : Type 0 where
  pub within : at < length bytes
  pub stands : slice_index bytes at ≡ byte
  pub before : Lacks byte bytes at
