use Rattle.tree_groups.proofs.Grouping.{left_from}
use Rattle.sled.proofs.Telling.{prepared_more}
use Rattle.sled.proofs.group.prepare_events.Goals as goal

pub loop-write-preserved : goal.loop-write-preserved
loop-write-preserved c = prepared_more c.args.writes.now _ c.args.queues.now c.loop-write.queues c.loop-write.invariant c.write-item.result _ (left_from c.args.writes.now c.loop-write.write-index c.write-item.result c.loop-write-test.true c.write-item.is) c.prepare_event.new.queues c.in_ok-prepare_event.ensures.ok
