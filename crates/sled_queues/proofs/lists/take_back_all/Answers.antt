use Rattle.std.proofs.Common.{arith, ◌∙◌}
use Rattle.sled_queues.specs.theory.Lists.{loses}
use Rattle.sled_queues.proofs.Changing.{changes_more, changes_all}
use Rattle.sled_queues.proofs.lists.take_back_all.Goals as goal

pub loop-i-preserved : goal.loop-i-preserved
loop-i-preserved c = (
  changes_more loses c.args.numbers.now c.loop-i.i 0 _ _ _ c.requires c.loop-i-test.true c.loop-i.invariant.0 c.take_back.ensures.changed,
  c.take_back.ensures.keys ∙ c.loop-i.invariant.1,
)

pub returns-clause-changed : goal.returns-clause-changed
returns-clause-changed c = changes_all loses c.args.numbers.now c.loop-i.i _ _ (omega arith) c.loop-i.invariant.0

pub returns-clause-keys : goal.returns-clause-keys
returns-clause-keys c = c.loop-i.invariant.1
