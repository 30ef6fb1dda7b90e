use Rattle.std.proofs.Common.{refl, arith}
use Rattle.example_databases.proofs.Following.{catches_none, catches_both, fewer_to_come, only_queues}
use Rattle.example_databases.proofs.endings.Endings.follow.Goals as goal

pub loop-self-init : goal.loop-self-init
loop-self-init g c = (catches_none _ _, refl)

pub loop-self-preserved : goal.loop-self-preserved
loop-self-preserved g c = (catches_both _ _ _ _ _ _ c.loop-self.invariant.0 c.in-Ok-Partly.ensures.ok.catches, only_queues c.args.db.now c.loop-self.db c.catch_up.new.db c.loop-self.invariant.1 c.in-Ok-Partly.ensures.same)

pub loop-self-smaller : goal.loop-self-smaller
loop-self-smaller g c = fewer_to_come 1000 _ _ _ _ (omega arith) _ c.in-Ok-Partly.field-0-is c.in-Ok-Partly.ensures.ok
