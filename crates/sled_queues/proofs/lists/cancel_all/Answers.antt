use Rattle.std.proofs.Common.{refl, arith}
use Rattle.sled_queues.specs.Queues.{cancelled_in}
use Rattle.sled_queues.proofs.Changing.{changes_again, changes_all}
use Rattle.sled_queues.proofs.lists.cancel_all.Goals as goal

pub loop-i-preserved : goal.loop-i-preserved
loop-i-preserved c = changes_again cancelled_in c.args.numbers.now c.loop-i.i 0 _ _ _ (λ w. refl) c.loop-i-test.true c.loop-i.invariant c.cancel.ensures

pub returns : goal.returns
returns c = changes_all cancelled_in c.args.numbers.now c.loop-i.i _ _ (omega arith) c.loop-i.invariant
