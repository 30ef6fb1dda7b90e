use Rattle.std.proofs.Common.{◌≡◌, take}
use Rattle.sled_nodes.specs.Prefix.{cut}
use Rattle.sled_nodes.proofs.prefix.cut_keys.Given as goal

abbrev pub invariant-loop-pair : goal.invariant-loop-pair
invariant-loop-pair g l = l.rests.items ≡ cut l.count (take l.pair-index l.pairs)
