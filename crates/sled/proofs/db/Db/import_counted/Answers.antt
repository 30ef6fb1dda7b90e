use Rattle.std.proofs.Common.{rules, ◌≡◌, true, false, refl, ap}
use Rattle.sled_store.specs.Store.{now}
use Rattle.sled_model.specs.Collections.{contents_of, are_trees}
use Rattle.sled.proofs.Importing.{import_closed, import_unknown, imported_first, imported_more, imported_stopped, import_stopped, contents_left, none_left, imported_all, done_here, stopped_here}
use Rattle.sled.proofs.Parting.{import_refuses, import_refused_leaves, done_changes, done_leaves}
use Rattle.sled.proofs.db.Db.import_counted.Goals as goal

pub returns-then-in_group-clause-err : goal.returns-then-in_group-clause-err
returns-then-in_group-clause-err g c = import_closed g.P.Pages.store g.M.MergeOperator.meant c.args.self.now _ (search rules)

pub returns-then-not-are_trees-clause-err : goal.returns-then-not-are_trees-clause-err
returns-then-not-are_trees-clause-err g c =
    let no_group : (now (g.P.Pages.store c.args.self.now.pages)).in_group ≡ false = search rules in
    let off : are_trees (contents_of c.args.collections.now) ≡ false = search rules in
    import_unknown g.P.Pages.store g.M.MergeOperator.meant c.args.self.now _ no_group off _ refl

pub loop-collection-init : goal.loop-collection-init
loop-collection-init g c = imported_first g.P.Pages.store g.M.MergeOperator.meant c.args.self.now _

pub returns-in-Err-clause-err : goal.returns-in-Err-clause-err
returns-in-Err-clause-err g c =
    let no_group : (now (g.P.Pages.store c.args.self.now.pages)).in_group ≡ false = search rules in
    let on : are_trees (contents_of c.args.collections.now) ≡ true = search rules in
    import_stopped g.P.Pages.store g.M.MergeOperator.meant c.args.self.now _ no_group on _ _ _
    (imported_stopped g.P.Pages.store g.M.MergeOperator.meant c.args.self.now (contents_of c.args.collections.now) _ c.loop-collection.self c.loop-collection.invariant c.audit.ensures.sound _ _ (contents_left c.args.collections.now c.loop-collection.collection-index c.collection-item.result c.loop-collection-test.true c.collection-item.is) _ _ c.import_collection-done.result.1 c.saturating_add-count.result (stopped_here _ c.import_collection-done.result.0 _ c.in-Err.is c.import_collection-done.ensures.err) c.saturating_add-count.ensures)

pub loop-collection-preserved : goal.loop-collection-preserved
loop-collection-preserved g c = imported_more g.P.Pages.store g.M.MergeOperator.meant c.args.self.now (contents_of c.args.collections.now) _ c.loop-collection.self c.loop-collection.invariant c.audit.ensures.sound _ _ (contents_left c.args.collections.now c.loop-collection.collection-index c.collection-item.result c.loop-collection-test.true c.collection-item.is) _ (done_here c.import_collection-done.result.0 c.in_default.not-Err c.import_collection-done.ensures.ok) c.import_collection-done.result.1 c.saturating_add-count.result (done_here c.import_collection-done.result.0 c.in_default.not-Err c.import_collection-done.ensures.all) c.saturating_add-count.ensures

pub returns-then-in_group-clause-refuses : goal.returns-then-in_group-clause-refuses
returns-then-in_group-clause-refuses g c = import_refuses g.P.Pages.store g.M.MergeOperator.meant c.args.self.now (contents_of c.args.collections.now) _ _ _ (returns-then-in_group-clause-err g c)

pub returns-then-in_group-clause-leaves : goal.returns-then-in_group-clause-leaves
returns-then-in_group-clause-leaves g c = import_refused_leaves g.P.Pages.store g.M.MergeOperator.meant c.args.self.now (contents_of c.args.collections.now) _ _ (returns-then-in_group-clause-err g c).is

pub returns-then-not-are_trees-clause-refuses : goal.returns-then-not-are_trees-clause-refuses
returns-then-not-are_trees-clause-refuses g c = import_refuses g.P.Pages.store g.M.MergeOperator.meant c.args.self.now (contents_of c.args.collections.now) _ _ _ (returns-then-not-are_trees-clause-err g c)

pub returns-then-not-are_trees-clause-leaves : goal.returns-then-not-are_trees-clause-leaves
returns-then-not-are_trees-clause-leaves g c = import_refused_leaves g.P.Pages.store g.M.MergeOperator.meant c.args.self.now (contents_of c.args.collections.now) _ _ (returns-then-not-are_trees-clause-err g c).is

pub returns-in-Err-clause-refuses : goal.returns-in-Err-clause-refuses
returns-in-Err-clause-refuses g c = import_refuses g.P.Pages.store g.M.MergeOperator.meant c.args.self.now (contents_of c.args.collections.now) _ _ _ (returns-in-Err-clause-err g c)

pub returns-in-Err-clause-leaves : goal.returns-in-Err-clause-leaves
returns-in-Err-clause-leaves g c = import_refused_leaves g.P.Pages.store g.M.MergeOperator.meant c.args.self.now (contents_of c.args.collections.now) _ _ (returns-in-Err-clause-err g c).is

pub returns-clause-changes : goal.returns-clause-changes
returns-clause-changes g c = done_changes g.P.Pages.store g.M.MergeOperator.meant c.args.self.now (contents_of c.args.collections.now) c.loop-collection.self
    (imported_all g.P.Pages.store g.M.MergeOperator.meant c.args.self.now (contents_of c.args.collections.now) _ c.loop-collection.self c.loop-collection.invariant (ap contents_of (none_left c.args.collections.now c.loop-collection.collection-index c.loop-collection-test.false)))

pub returns-clause-leaves : goal.returns-clause-leaves
returns-clause-leaves g c = done_leaves g.P.Pages.store g.M.MergeOperator.meant c.args.self.now (contents_of c.args.collections.now) c.loop-collection.self
    (imported_all g.P.Pages.store g.M.MergeOperator.meant c.args.self.now (contents_of c.args.collections.now) _ c.loop-collection.self c.loop-collection.invariant (ap contents_of (none_left c.args.collections.now c.loop-collection.collection-index c.loop-collection-test.false)))
