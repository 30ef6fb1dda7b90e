use Rattle.std.proofs.Common.{rules}
use Rattle.sled_batch.proofs.Copying.{copied_on}
use Rattle.sled_batch.proofs.batch.Batch.clone.Goals as goal

pub loop-key-preserved : goal.loop-key-preserved
loop-key-preserved c = copied_on c.args.self.now c.loop-key.copy c.copy_write.new.self c.loop-key.key-iterator c.in-Some.key.now c.in-Some.value.now c.next.new.self (search rules) c.loop-key.invariant (search rules) (search rules)
