-- How numbers in values are read.
use Rattle.std.proofs.Common.{◌≡◌, ℕ, ◌<◌, ◌^◌, Some, ap, ◌∙◌}
use Rattle.std.proofs.lemmas.Nat.{from_be_bytes-to_be_bytes_8}
use Rattle.std.specs.Int.{w64, to_be_bytes}
use Rattle.sled_nodes.specs.Order.{Key}
use Rattle.example_parts.specs.Counters.{number_in}

-- the bytes of a number are it
pub number_read : (bytes : Key) (n : ℕ) → bytes ≡ to_be_bytes w64 n → n < 2 ^ 64 → number_in (Some bytes) ≡ n
number_read bytes n is fits = ap (λ b. number_in (Some b)) is ∙ from_be_bytes-to_be_bytes_8 n fits
