use Rattle.std.proofs.Common.{◌≡◌, ◌≤◌, true, [], ◌∷◌, Some, None, IfOk, IfErr}
use Rattle.sled_store.specs.Store.{now}
use Rattle.sled_model.specs.Refusal.{must_refuse_of}
use Rattle.tree_transactions.specs.Ids.{OnlyRaises}
use Rattle.sled.specs.Values.{db_state}
use Rattle.sled.specs.Transactions.{RunsOnTree, TransactionMade, TransactionNotMade}
use Rattle.sled.specs.Written.{WritesOnTree, RefusesOnTree, LeavesOrFlushes}
use Rattle.sled.proofs.Transacting.{commits_know, fails_know}
use Rattle.machine_alone.proofs.Transacted.{db_over, after_transaction}
use Rattle.machine_alone.proofs.machine.Machine.transaction.Goals as goal

pub transaction-requires-after_bounds : goal.transaction-requires-after_bounds
transaction-requires-after_bounds g c κs within =
    let store = g.P.Pages.store in
    let meant = g.M.MergeOperator.meant in
    λ tested root there s here only le aside given begins. c.requires
    (db_over _ _ c.self.view_is (λ d. must_refuse_of (db_state store meant d) (c.args.tree.now ∷ []) ≡ None) tested) root
    (db_over _ _ c.self.view_is (λ d. (now (store d.pages)).roots c.args.tree.now.name ≡ Some root) there) s here
    (db_over _ _ c.self.view_is (λ d. OnlyRaises (store d.pages) s) only) (db_over _ _ c.self.view_is (λ d. d.greatest_id ≤ here) le) (db_over _ _ c.self.view_is (λ d. d.greatest_id ≤ (store d.pages).mark → here ≤ s.mark) aside) given begins

pub returns-clause-ok : goal.returns-clause-ok
returns-clause-ok g c = db_over _ _ c.self.view_is (λ d. IfOk (g.R.TransactionAnswer.answer_of c.transaction.result) (λ a. TransactionMade g.P.Pages.store g.P.Pages.flush_number g.M.MergeOperator.meant g.F.Fn g.R.TransactionAnswer.result_of c.args.f d c.args.tree.now a c.transaction.new.self)) c.transaction.ensures.ok

pub returns-clause-err : goal.returns-clause-err
returns-clause-err g c = db_over _ _ c.self.view_is (λ d. IfErr (g.R.TransactionAnswer.answer_of c.transaction.result) (λ e. TransactionNotMade g.P.Pages.store g.P.Pages.flush_number g.M.MergeOperator.meant g.F.Fn g.R.TransactionAnswer.result_of c.args.f d c.args.tree.now e c.transaction.new.self)) c.transaction.ensures.err

pub returns-clause-writes : goal.returns-clause-writes
returns-clause-writes g c = db_over _ _ c.self.view_is (λ d. IfOk (g.R.TransactionAnswer.answer_of c.transaction.result) (λ a. WritesOnTree g.P.Pages.store g.M.MergeOperator.meant g.F.Fn g.R.TransactionAnswer.result_of c.args.f d c.args.tree.now a c.transaction.new.self)) c.transaction.ensures.writes

pub returns-clause-refuses : goal.returns-clause-refuses
returns-clause-refuses g c = db_over _ _ c.self.view_is (λ d. IfErr (g.R.TransactionAnswer.answer_of c.transaction.result) (λ e. RefusesOnTree g.P.Pages.store g.M.MergeOperator.meant g.F.Fn g.R.TransactionAnswer.result_of c.args.f d c.args.tree.now e c.transaction.new.self)) c.transaction.ensures.refuses

pub returns-clause-leaves : goal.returns-clause-leaves
returns-clause-leaves g c = db_over _ _ c.self.view_is (λ d. LeavesOrFlushes g.P.Pages.store g.M.MergeOperator.meant d c.transaction.new.self) c.transaction.ensures.leaves

pub invariant_of-self : goal.invariant_of-self
invariant_of-self g c =
    let store = g.P.Pages.store in
    let number = g.P.Pages.flush_number in
    let meant = g.M.MergeOperator.meant in
    let new = c.transaction.new.self in
    let old = c.self.inside.db in
    let runs = RunsOnTree store meant g.F.Fn g.R.TransactionAnswer.result_of c.args.f old c.args.tree.now in
    after_transaction store (record { db = c.self.inside.db; flights = c.self.inside.flights.entries; slots_given = c.self.inside.slots_given }) new (λ d a. TransactionMade store number meant g.F.Fn g.R.TransactionAnswer.result_of c.args.f d c.args.tree.now a new) (λ d e. TransactionNotMade store number meant g.F.Fn g.R.TransactionAnswer.result_of c.args.f d c.args.tree.now e new)
    c.self.invariant (λ a m. commits_know store number meant _ runs _ true old a new m) (λ e m. fails_know store number meant _ runs _ true old e new m) (g.R.TransactionAnswer.answer_of c.transaction.result) c.transaction.ensures.ok c.transaction.ensures.err
