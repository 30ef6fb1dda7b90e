-- The front of a byte string: its first eight bytes, as a number.
use Rattle.std.specs.Prelude.{◌≡◌, ◌++◌, ℕ}
use Rattle.std.specs.Int.{from_be_bytes, w64}
use Rattle.std.specs.declared.ops.Bound.{Bound}
use Rattle.std.specs.declared.ops.Bound.TheVariants.{Included, Excluded, Unbounded}
use Rattle.sled_nodes.specs.Order.{Key}
use Rattle.sled_nodes.specs.Bytes.{padded}

-- the first of them counts most, and zeros follow a shorter string
unfoldable pub front : Key → ℕ
front bytes = from_be_bytes w64 (padded 8 bytes)

-- the same bytes precede the rests of two byte strings
pub record AreBehind (a b rest other : Key) : Type 0 where
  pub before : Key
  pub is : a ≡ before ++ rest
  pub other_is : b ≡ before ++ other

-- the front of a bound's key; of no bound any number will do
abbrev pub IsFrontOf : ℕ → Bound Key → Type 0
IsFrontOf n (Included k) = n ≡ front k
IsFrontOf n (Excluded k) = n ≡ front k
IsFrontOf n Unbounded = Unit {0}
