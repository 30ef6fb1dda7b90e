use Rattle.std.proofs.Common.{◌≡◌}
use Rattle.sled_nodes.specs.Prefix.{cut}
use Rattle.sled_nodes.proofs.prefix.keys_cut.Given as goal

abbrev pub invariant-loop-key : goal.invariant-loop-key
invariant-loop-key g l = l.rests.items ≡ cut l.count l.yielded
