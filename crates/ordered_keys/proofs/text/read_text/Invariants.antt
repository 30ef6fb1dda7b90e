use Rattle.std.proofs.Common.{◌≡◌, ◌++◌, length}
use Rattle.std.specs.List.{flat_map}
use Rattle.ordered_keys.specs.Keys.{spelled_byte}
use Rattle.ordered_keys.proofs.text.read_text.Given as goal

abbrev pub invariant-pieces : goal.invariant-pieces
invariant-pieces l = flat_map spelled_byte l.text.items ++ l.rest ≡ l.bytes

abbrev pub decreases-pieces : goal.decreases-pieces
decreases-pieces l = length l.rest
