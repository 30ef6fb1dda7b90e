use Rattle.std.proofs.Common.{rules}
use Rattle.tree_transactions.proofs.Overlaying.{puts_more}
use Rattle.tree_transactions.proofs.overlay.apply_through.Goals as goal

pub loop-key-preserved : goal.loop-key-preserved
loop-key-preserved c = puts_more c.args.batch.now c.args.overlay.now c.loop-key.overlay c.loop-key.key-iterator c.in-Some.key.now c.in-Some.value.now c.next.new.self c.apply_write.new.overlay c.loop-key.invariant (search rules) (search rules)
