use Rattle.std.proofs.Common.{◌≡◌, ◌++◌, take}
use Rattle.std.specs.List.{flat_map}
use Rattle.ordered_keys.specs.Keys.{spelled_byte}
use Rattle.ordered_keys.proofs.text.push_pieces.Given as goal

abbrev pub invariant-bytes : goal.invariant-bytes
invariant-bytes l = l.out.items ≡ l.fn.out.items ++ flat_map spelled_byte (take l.byte-index l.text)
