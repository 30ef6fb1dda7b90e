-- Numbers in values, and counters in the maps of a database.
use Rattle.std.specs.Prelude.{ℕ, ◌+◌, ◌%◌, ◌^◌, length, nat_eq, Option, Some, None, if◌then◌else◌}
use Rattle.std.specs.Int.{w64, to_be_bytes, from_be_bytes}
use Rattle.sled_nodes.specs.Order.{Key}
use Rattle.sled_model.specs.Maps.{Maps}
use Rattle.example_parts.specs.Reads.{found_in}

-- eight bytes are a number, the highest first; none, and any other count of bytes, are 0
abbrev pub number_in : Option Key → ℕ
number_in None = 0
number_in (Some bytes) = if nat_eq (length bytes) 8 then (from_be_bytes w64 bytes) else 0

-- the sum in 64 bits, which wraps
abbrev pub sum_of : ℕ → ℕ → ℕ
sum_of m n = (m + n) % 2 ^ 64

-- the bytes of the sum of the number that is there and another
abbrev pub bytes_of_sum : Option Key → ℕ → Key
bytes_of_sum stood n = to_be_bytes w64 (sum_of (number_in stood) n)

-- a merge writes the sum of the number that is there and the one in its bytes
abbrev pub adding : Key → Option Key → Key → Option Key
adding key old new = Some (bytes_of_sum old (number_in (Some new)))

-- the number of a counter of a tree
abbrev pub counter_in : Maps → Key → Key → ℕ
counter_in maps tree name = number_in (found_in (maps tree) name)
