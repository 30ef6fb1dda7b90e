use Rattle.std.proofs.Common.{◌≡◌, ◌++◌}
use Rattle.sled_queues.specs.Lists.{at_length}
use Rattle.sled_queues.specs.theory.Lists.{at_beginnings}
use Rattle.sled_queues.proofs.prefixes.find_in.Given as goal

abbrev pub invariant-loop-len : goal.invariant-loop-len
invariant-loop-len l = l.found.items ≡ l.fn.found.items ++ at_beginnings (at_length l.lengths) l.key l.len
