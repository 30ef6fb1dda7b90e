use Rattle.std.proofs.Common.{◌≡◌, take}
use Rattle.sled_nodes.proofs.stripped.copied.Given as goal

abbrev pub invariant-loop-pair : goal.invariant-loop-pair
invariant-loop-pair g l = l.copy.items ≡ take l.pair-index l.pairs
