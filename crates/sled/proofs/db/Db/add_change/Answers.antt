use Rattle.sled.specs.Values.{db_state, snapshot_of_db}
use Rattle.sled.proofs.Batching.{tested_last}
use Rattle.sled.proofs.Beginning.{stands_at, finds_at}
use Rattle.sled.proofs.Changes.{adds_none, adds_one, there_after}
use Rattle.sled.proofs.db.Db.add_change.Goals as goal

pub stands-requires-clause-stood : goal.stands-requires-clause-stood
stands-requires-clause-stood g c κs within =
    stands_at g.P.Pages.store g.M.MergeOperator.meant c.args.self.now c.audit.ensures.sound c.args.tree.now (tested_last (db_state g.P.Pages.store g.M.MergeOperator.meant c.args.self.now) c.args.before.now c.args.tree.now c.requires.tested) c.args.root c.requires.root
    c.args.key.now c.args.value.now c.in-Ok.read.0 c.in-Ok.read.1 c.in-Ok.ensures.ok

pub returns-then-stands-clause-ok : goal.returns-then-stands-clause-ok
returns-then-stands-clause-ok g c =
    adds_none (snapshot_of_db g.P.Pages.store c.args.self.now) _ (record { tree = c.args.tree.now; key = c.args.key.now; value = c.args.value.now })
    (there_after (db_state g.P.Pages.store g.M.MergeOperator.meant c.args.self.now) c.args.before.now c.args.tree.now c.requires.tested) c.stands.result c.stands.ensures.is c.args.writes.now.items c.if-stands.true

pub returns-in-Ok-push-clause-ok : goal.returns-in-Ok-push-clause-ok
returns-in-Ok-push-clause-ok g c =
    adds_one (snapshot_of_db g.P.Pages.store c.args.self.now) _ (record { tree = c.args.tree.now; key = c.args.key.now; value = c.args.value.now })
    (there_after (db_state g.P.Pages.store g.M.MergeOperator.meant c.args.self.now) c.args.before.now c.args.tree.now c.requires.tested) c.stands.result c.stands.ensures.is c.args.writes.now.items c.if-stands.false (record { tree = c.args.tree; key = c.args.key; value = c.args.value; leaf = c.place_of-place.result }) c.push.new.self.items
    (finds_at g.P.Pages.store g.M.MergeOperator.meant c.args.self.now (record { tree = c.args.tree; key = c.args.key; value = c.args.value; leaf = c.place_of-place.result }) (tested_last (db_state g.P.Pages.store g.M.MergeOperator.meant c.args.self.now) c.args.before.now c.args.tree.now c.requires.tested) c.args.root c.requires.root
    c.in-Ok.read.0 c.in-Ok.read.1 c.in-Ok.ensures.ok c.place_of-place.ensures)
    c.in-Ok-push.ensures.items
