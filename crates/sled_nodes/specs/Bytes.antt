-- The bytes of a byte string, by where they are stored.
use Rattle.std.specs.Prelude.{◌≡◌, ℕ, zero, suc, List, [], ◌∷◌, take, ◌≤◌}
use Rattle.std.specs.Arc.{arc_value}
use Rattle.sled_nodes.specs.declared.ivec.Bytes.{Bytes}
use Rattle.sled_nodes.specs.declared.ivec.Bytes.TheVariants.{Short, Middle, Long}

abbrev pub bytes_of : Bytes → List ℕ
bytes_of (Short len bytes) = take len bytes
bytes_of (Middle len bytes) = take len (arc_value bytes)
bytes_of (Long bytes) = (arc_value bytes).items

-- the first n bytes, with zeros behind a shorter string
unfoldable pub padded : ℕ → List ℕ → List ℕ
padded zero bytes = []
padded (suc n) [] = 0 ∷ padded n []
padded (suc n) (b ∷ bytes) = b ∷ padded n bytes

-- a string in an array is no longer than the array, and zeros follow it
abbrev pub IsShort : Bytes → Type 0
IsShort (Short len bytes) = (len ≤ 22) × (padded 22 (take len bytes) ≡ bytes)
IsShort (Middle len bytes) = (len ≤ 56) × (padded 56 (take len (arc_value bytes)) ≡ arc_value bytes)
IsShort (Long bytes) = Unit {0}
