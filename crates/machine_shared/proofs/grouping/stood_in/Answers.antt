use Rattle.sled_model.specs.State.{maps_of}
use Rattle.sled.specs.Values.{db_state}
use Rattle.machine_shared.proofs.Committing.{cannot_note_at}
use Rattle.machine_shared.proofs.Stands.{stood_more}
use Rattle.machine_shared.proofs.grouping.stood_in.Goals as goal

pub loop-batch-preserved : goal.loop-batch-preserved
loop-batch-preserved g c = stood_more (maps_of (db_state g.P.Pages.store g.M.MergeOperator.meant c.args.machine.now.db)) c.args.group.now c.loop-batch.batch-index c.batch-item.result c.loop-batch.stood.items c.add_stood.new.stood.items c.loop-batch-test.true c.batch-item.is c.loop-batch.invariant c.in_default.ensures.ok

pub returns-in-Err-clause-err : goal.returns-in-Err-clause-err
returns-in-Err-clause-err g c = cannot_note_at g.P.Pages.store g.M.MergeOperator.meant c.args.machine.now.db c.args.group.now c.loop-batch.batch-index c.batch-item.result c.in-Err.e c.loop-batch-test.true c.batch-item.is c.in-Err.ensures.err
