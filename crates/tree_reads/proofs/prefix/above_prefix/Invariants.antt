use Rattle.std.proofs.Common.{◌≡◌, length}
use Rattle.tree_reads.specs.Prefixes.{raised_key}
use Rattle.tree_reads.proofs.prefix.above_prefix.Given as goal

abbrev pub invariant-loop-last : goal.invariant-loop-last
invariant-loop-last l = raised_key l.bytes.items ≡ raised_key l.fn.prefix

abbrev pub decreases-loop-last : goal.decreases-loop-last
decreases-loop-last l = length l.bytes.items
