use Rattle.std.specs.List.{zip}
use Rattle.std.proofs.Common.{◌≡◌, ◌≤◌, map, Some, None}
use Rattle.sled_store.specs.Store.{now}
use Rattle.sled_model.specs.Refusal.{must_refuse_of}
use Rattle.sled_model.specs.declared.tree.Tree.{Tree}
use Rattle.tree_transactions.specs.Ids.{OnlyRaises}
use Rattle.sled.specs.Values.{db_state}
use Rattle.sled.specs.Transactions.{RunsOnList, ListRuns, trees_of_list, has_trees}
use Rattle.sled.proofs.Transacting.{runs_know}
use Rattle.machine_alone.proofs.Transacted.{db_over, stay}
use Rattle.machine_alone.proofs.machine.Machine.run_transaction_all.Goals as goal

pub run_transaction_all-requires-after_bounds : goal.run_transaction_all-requires-after_bounds
run_transaction_all-requires-after_bounds g c κs within =
    let store = g.P.Pages.store in
    let meant = g.M.MergeOperator.meant in
    λ tested roots there s here only le aside given begins. c.requires
    (db_over _ _ c.self.view_is (λ d. must_refuse_of (db_state store meant d) (trees_of_list c.args.trees.now) ≡ None) tested) roots
    (db_over _ _ c.self.view_is (λ d. map (λ (t : Tree). (now (store d.pages)).roots t.name) (trees_of_list c.args.trees.now) ≡ map Some roots) there) s here
    (db_over _ _ c.self.view_is (λ d. OnlyRaises (store d.pages) s) only) (db_over _ _ c.self.view_is (λ d. d.greatest_id ≤ here) le) (db_over _ _ c.self.view_is (λ d. d.greatest_id ≤ (store d.pages).mark → here ≤ s.mark) aside) given begins

pub returns-clause-runs : goal.returns-clause-runs
returns-clause-runs g c = db_over _ _ c.self.view_is (λ d. ListRuns g.P.Pages.store g.M.MergeOperator.meant g.F.Fn g.R.TransactionAnswer.result_of c.args.f d (trees_of_list c.args.trees.now) c.run_transaction_all.result c.run_transaction_all.new.self) c.run_transaction_all.ensures

pub invariant_of-self : goal.invariant_of-self
invariant_of-self g c =
    let store = g.P.Pages.store in
    let meant = g.M.MergeOperator.meant in
    let old = c.self.inside.db in
    stay store (record { db = c.self.inside.db; flights = c.self.inside.flights.entries; slots_given = c.self.inside.slots_given }) c.run_transaction_all.new.self c.self.invariant
    (λ h k. runs_know store g.P.Pages.flush_number meant _ (RunsOnList store meant g.F.Fn g.R.TransactionAnswer.result_of c.args.f old (trees_of_list c.args.trees.now)) (zip (trees_of_list c.args.trees.now)) (has_trees (trees_of_list c.args.trees.now)) old c.run_transaction_all.result c.run_transaction_all.new.self c.run_transaction_all.ensures h k)
