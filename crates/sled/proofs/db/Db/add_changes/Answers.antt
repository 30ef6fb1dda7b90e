use Rattle.std.proofs.Common.{rules, subst}
use Rattle.sled_store.specs.In.{In}
use Rattle.sled.specs.Values.{db_state, snapshot_of_db}
use Rattle.sled.proofs.Batching.{tested_last}
use Rattle.sled.proofs.Beginning.{untested}
use Rattle.sled.proofs.Changes.{added_first, added_on, there_after}
use Rattle.sled.proofs.db.Db.add_changes.Goals as goal

pub returns-in-Err-clause-err : goal.returns-in-Err-clause-err
returns-in-Err-clause-err g c = untested _ _ (tested_last (db_state g.P.Pages.store g.M.MergeOperator.meant c.args.self.now) c.args.before.now c.args.tree.now c.requires.tested) c.in-Err.ensures.err

pub loop-key-init : goal.loop-key-init
loop-key-init g c = (added_first _ _ _ _ _ _ (search rules), λ v i. absurd (subst (In v) c.new-way.ensures.items i))

pub loop-key-preserved : goal.loop-key-preserved
loop-key-preserved g c = (
  added_on (snapshot_of_db g.P.Pages.store c.args.self.now) c.args.tree.now c.args.batch.now _ c.args.writes.now.items c.loop-key.writes.items c.loop-key.key-iterator c.in-Some.key.now c.in-Some.value.now c.next.new.self c.add_change.new.writes.items
      c.writes.ensures.rise (there_after (db_state g.P.Pages.store g.M.MergeOperator.meant c.args.self.now) c.args.before.now c.args.tree.now c.requires.tested) c.loop-key.invariant.0 (search rules) c.in_default.ensures.ok,
  c.in_default.ensures.way,
)
