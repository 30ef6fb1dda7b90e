use Rattle.std.proofs.Common.{◌+◌, length, refl, sym, arith}
use Rattle.sled_queues.specs.Lists.{at_length}
use Rattle.sled_queues.proofs.Beginning.{none_more, some_found}
use Rattle.sled_queues.proofs.prefixes.any_in.Goals as goal

pub returns-then-not-is_empty : goal.returns-then-not-is_empty
returns-then-not-is_empty c = sym (some_found (at_length c.args.lengths.now) c.args.key.now _ c.loop-len.len (length c.args.key.now + 1) c.numbers_at.result.now c.loop-len.invariant refl c.numbers_at.ensures (sym c.if-not-is_empty.ensures) (omega arith))

pub loop-len-preserved : goal.loop-len-preserved
loop-len-preserved c = none_more (at_length c.args.lengths.now) c.args.key.now _ c.loop-len.len c.numbers_at.result.now c.loop-len.invariant refl c.numbers_at.ensures (sym c.if-not-is_empty.ensures)
