use Rattle.std.proofs.Common.{◌≡◌, ◌++◌, take}
use Rattle.std.specs.List.{flat_map, All}
use Rattle.sled_bytes.specs.Spelling.{pair, FitsPair}
use Rattle.sled_bytes.proofs.writing.push_each_pair.Given as goal

abbrev pub invariant-pairs : goal.invariant-pairs
invariant-pairs l = record { written : l.out.items ≡ l.fn.out.items ++ flat_map pair (take l.entry-index l.pairs); fits : All FitsPair (take l.entry-index l.pairs) }
