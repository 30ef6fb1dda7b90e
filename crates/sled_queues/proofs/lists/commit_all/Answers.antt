use Rattle.std.proofs.Common.{refl, arith}
use Rattle.sled_queues.specs.Queues.{committed_in}
use Rattle.sled_queues.proofs.Changing.{changes_again, changes_all}
use Rattle.sled_queues.proofs.lists.commit_all.Goals as goal

pub loop-i-preserved : goal.loop-i-preserved
loop-i-preserved c = changes_again committed_in c.args.numbers.now c.loop-i.i 0 _ _ _ (λ w. refl) c.loop-i-test.true c.loop-i.invariant c.commit.ensures

pub returns : goal.returns
returns c = changes_all committed_in c.args.numbers.now c.loop-i.i _ _ (omega arith) c.loop-i.invariant
