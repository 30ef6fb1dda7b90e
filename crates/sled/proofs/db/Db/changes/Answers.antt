use Rattle.sled.specs.Values.{db_state, snapshot_of_db}
use Rattle.sled.proofs.Changes.{tested_to, found_on}
use Rattle.sled.proofs.db.Db.changes.Goals as goal

pub add_changes-requires-clause-tested : goal.add_changes-requires-clause-tested
add_changes-requires-clause-tested g c κs within = tested_to (db_state g.P.Pages.store g.M.MergeOperator.meant c.args.self.now) c.args.batches.now c.loop-index.index c.index-batches-index.result c.loop-index-test.true c.index-batches-index.is c.requires.tested

pub loop-index-preserved : goal.loop-index-preserved
loop-index-preserved g c = found_on (snapshot_of_db g.P.Pages.store c.args.self.now) (db_state g.P.Pages.store g.M.MergeOperator.meant c.args.self.now) c.args.batches.now c.loop-index.index c.index-batches-index.result c.loop-index.writes.items _ c.loop-index-test.true c.index-batches-index.is c.loop-index.invariant c.in_default.ensures.ok
