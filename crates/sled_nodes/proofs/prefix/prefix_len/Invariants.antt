use Rattle.std.proofs.Common.{◌≡◌, ◌≤◌, take, drop, length}
use Rattle.sled_nodes.specs.Prefix.{shared_with, prefix_of}
use Rattle.sled_nodes.proofs.prefix.prefix_len.Given as goal

-- what the keys so far begin with
abbrev pub invariant-loop-i : goal.invariant-loop-i
invariant-loop-i g l = record {
  so_far : prefix_of l.pairs ≡ shared_with (take l.count l.first) (drop l.i l.pairs);
  within : l.count ≤ length l.first;
}
