-- What the merge operators of the shell mean.
use Rattle.std.specs.Prelude.{ℕ, ◌+◌, ◌%◌, ◌^◌, List, [], ◌++◌, length, nat_eq, Option, Some, None, if◌then◌else◌}
use Rattle.std.specs.Int.{w64, to_be_bytes, from_be_bytes}
use Rattle.std.specs.Cmp.Lexicographic.{slice_cmp}
use Rattle.std.specs.Ordering.{nat_cmp, is_lt}
use Rattle.shell_words.specs.declared.operators.Operator.{Operator}
use Rattle.shell_words.specs.declared.operators.Operator.TheVariants.{Concat, Add, Max, Before, Keep, Gone, Short}

abbrev pub bytes_or_none : Option (List ℕ) → List ℕ
bytes_or_none None = []
bytes_or_none (Some bytes) = bytes

-- eight bytes are a number, the greatest first, and as many others are 0
abbrev pub number_of : List ℕ → ℕ
number_of bytes = if nat_eq (length bytes) 8 then (from_be_bytes w64 bytes) else 0

abbrev pub greater : Option (List ℕ) → List ℕ → List ℕ
greater None new = new
greater (Some old) new = if is_lt (slice_cmp nat_cmp old new) then new else old

abbrev pub kept : Option (List ℕ) → List ℕ → List ℕ
kept None new = new
kept (Some old) new = old

-- one that answers that there is no memory may mean anything
abbrev pub meaning : Operator → List ℕ → Option (List ℕ) → List ℕ → Option (List ℕ)
meaning Concat key old new = Some (bytes_or_none old ++ new)
meaning Add key old new = Some (to_be_bytes w64 ((number_of (bytes_or_none old) + number_of new) % 2 ^ 64))
meaning Max key old new = Some (greater old new)
meaning Before key old new = Some (new ++ bytes_or_none old)
meaning Keep key old new = Some (kept old new)
meaning Gone key old new = None
meaning Short key old new = None
