-- Numbers of parts, as they are told.
use Rattle.std.proofs.Common.{◌≡◌, ℕ, suc, ◌+◌, min, arith}
use Rattle.sled.specs.Parts.{most_parts, told_parts}

-- the parts of two stretches
pub told_then : (n m a b c : ℕ) → a ≡ told_parts n → b ≡ told_parts m → c ≡ min (a + b) most_parts → c ≡ told_parts (n + m)
told_then n m a b c first second both = omega (arith, first, second, both)

-- one part more
pub told_one : (n a c : ℕ) → a ≡ told_parts n → c ≡ min (a + 1) most_parts → c ≡ told_parts (suc n)
told_one n a c before more = omega (arith, before, more)

-- .. and one part before
pub told_before : (n a c : ℕ) → a ≡ told_parts n → c ≡ min (a + 1) most_parts → c ≡ told_parts (1 + n)
told_before n a c after more = omega (arith, after, more)
