use Rattle.sled_queues.specs.Lists.{at_length}
use Rattle.sled_queues.proofs.Beginning.{found_more}
use Rattle.sled_queues.proofs.prefixes.find_in.Goals as goal

pub loop-len-preserved : goal.loop-len-preserved
loop-len-preserved c = found_more (at_length c.args.lengths.now) c.args.key.now c.loop-len.len c.args.found.now.items c.numbers_at-numbers.result.now c.loop-len.found.items _ _ c.loop-len.invariant c.numbers_at-numbers.ensures c.if-is_err.ensures.negation c.extend_from_slice.ensures.items
