use Rattle.std.proofs.Common.{◌≡◌, ◌≤◌, map, Some, None, IfOk, IfErr}
use Rattle.sled_store.specs.Store.{now}
use Rattle.sled_model.specs.Refusal.{must_refuse_of}
use Rattle.sled_model.specs.declared.tree.Tree.{Tree}
use Rattle.tree_transactions.specs.Ids.{OnlyRaises}
use Rattle.sled.specs.Values.{db_state}
use Rattle.sled.specs.Transactions.{RunsOnList, ListMade, ListNotMade, trees_of_list, has_trees}
use Rattle.sled.specs.Written.{WritesOnList, RefusesOnList, LeavesOrFlushes}
use Rattle.sled.proofs.Transacting.{commits_know, fails_know}
use Rattle.machine_alone.proofs.Transacted.{db_over, after_transaction}
use Rattle.machine_alone.proofs.machine.Machine.transaction_all.Goals as goal

pub transaction_all-requires-after_bounds : goal.transaction_all-requires-after_bounds
transaction_all-requires-after_bounds g c κs within =
    let store = g.P.Pages.store in
    let meant = g.M.MergeOperator.meant in
    λ tested roots there s here only le aside given begins. c.requires
    (db_over _ _ c.self.view_is (λ d. must_refuse_of (db_state store meant d) (trees_of_list c.args.trees.now) ≡ None) tested) roots
    (db_over _ _ c.self.view_is (λ d. map (λ (t : Tree). (now (store d.pages)).roots t.name) (trees_of_list c.args.trees.now) ≡ map Some roots) there) s here
    (db_over _ _ c.self.view_is (λ d. OnlyRaises (store d.pages) s) only) (db_over _ _ c.self.view_is (λ d. d.greatest_id ≤ here) le) (db_over _ _ c.self.view_is (λ d. d.greatest_id ≤ (store d.pages).mark → here ≤ s.mark) aside) given begins

pub returns-clause-ok : goal.returns-clause-ok
returns-clause-ok g c = db_over _ _ c.self.view_is (λ d. IfOk (g.R.TransactionAnswer.answer_of c.transaction_all.result) (λ a. ListMade g.P.Pages.store g.P.Pages.flush_number g.M.MergeOperator.meant g.F.Fn g.R.TransactionAnswer.result_of c.args.f d (trees_of_list c.args.trees.now) a c.transaction_all.new.self)) c.transaction_all.ensures.ok

pub returns-clause-err : goal.returns-clause-err
returns-clause-err g c = db_over _ _ c.self.view_is (λ d. IfErr (g.R.TransactionAnswer.answer_of c.transaction_all.result) (λ e. ListNotMade g.P.Pages.store g.P.Pages.flush_number g.M.MergeOperator.meant g.F.Fn g.R.TransactionAnswer.result_of c.args.f d (trees_of_list c.args.trees.now) e c.transaction_all.new.self)) c.transaction_all.ensures.err

pub returns-clause-writes : goal.returns-clause-writes
returns-clause-writes g c = db_over _ _ c.self.view_is (λ d. IfOk (g.R.TransactionAnswer.answer_of c.transaction_all.result) (λ a. WritesOnList g.P.Pages.store g.M.MergeOperator.meant g.F.Fn g.R.TransactionAnswer.result_of c.args.f d (trees_of_list c.args.trees.now) a c.transaction_all.new.self)) c.transaction_all.ensures.writes

pub returns-clause-refuses : goal.returns-clause-refuses
returns-clause-refuses g c = db_over _ _ c.self.view_is (λ d. IfErr (g.R.TransactionAnswer.answer_of c.transaction_all.result) (λ e. RefusesOnList g.P.Pages.store g.M.MergeOperator.meant g.F.Fn g.R.TransactionAnswer.result_of c.args.f d (trees_of_list c.args.trees.now) e c.transaction_all.new.self)) c.transaction_all.ensures.refuses

pub returns-clause-leaves : goal.returns-clause-leaves
returns-clause-leaves g c = db_over _ _ c.self.view_is (λ d. LeavesOrFlushes g.P.Pages.store g.M.MergeOperator.meant d c.transaction_all.new.self) c.transaction_all.ensures.leaves

pub invariant_of-self : goal.invariant_of-self
invariant_of-self g c =
    let store = g.P.Pages.store in
    let number = g.P.Pages.flush_number in
    let meant = g.M.MergeOperator.meant in
    let new = c.transaction_all.new.self in
    let old = c.self.inside.db in
    let runs = RunsOnList store meant g.F.Fn g.R.TransactionAnswer.result_of c.args.f old (trees_of_list c.args.trees.now) in
    after_transaction store (record { db = c.self.inside.db; flights = c.self.inside.flights.entries; slots_given = c.self.inside.slots_given }) new (λ d a. ListMade store number meant g.F.Fn g.R.TransactionAnswer.result_of c.args.f d (trees_of_list c.args.trees.now) a new) (λ d e. ListNotMade store number meant g.F.Fn g.R.TransactionAnswer.result_of c.args.f d (trees_of_list c.args.trees.now) e new)
    c.self.invariant (λ a m. commits_know store number meant _ runs _ (has_trees (trees_of_list c.args.trees.now)) old a new m) (λ e m. fails_know store number meant _ runs _ (has_trees (trees_of_list c.args.trees.now)) old e new m) (g.R.TransactionAnswer.answer_of c.transaction_all.result) c.transaction_all.ensures.ok c.transaction_all.ensures.err
