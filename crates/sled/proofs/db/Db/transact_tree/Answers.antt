use Rattle.std.proofs.Common.{true, refl}
use Rattle.sled.specs.Transactions.{RunsOnTree}
use Rattle.sled.proofs.Ending.{tree_makes, tree_refuses, commits_leave, fails_leave}
use Rattle.sled.proofs.Transacting.{made_of, not_made_of, ended_of}
use Rattle.sled.proofs.db.Db.transact_tree.Goals as goal

pub returns-in-Ok-commit-clause-ok : goal.returns-in-Ok-commit-clause-ok
returns-in-Ok-commit-clause-ok g c =
    let store = g.P.Pages.store in
    made_of store g.P.Pages.flush_number g.M.MergeOperator.meant _ (RunsOnTree store g.M.MergeOperator.meant g.F.Fn g.R.TransactionAnswer.result_of c.args.f c.args.self.now c.args.tree.now) _ true c.args.self.now c.in-Ok.field-0 c.run_transaction.new.self c.commit.new.self _ refl
    c.in-Ok.ensures c.in-Ok-commit.ensures.ok

pub returns-in-Err-commit-clause-err : goal.returns-in-Err-commit-clause-err
returns-in-Err-commit-clause-err g c =
    let store = g.P.Pages.store in
    not_made_of store g.P.Pages.flush_number g.M.MergeOperator.meant _ (RunsOnTree store g.M.MergeOperator.meant g.F.Fn g.R.TransactionAnswer.result_of c.args.f c.args.self.now c.args.tree.now) _ true c.args.self.now c.in-Ok.field-0 c.run_transaction.new.self c.commit.new.self c.in-Err-commit.e _ refl
    c.in-Ok.ensures c.in-Err-commit.ensures.err

pub returns-in-Err-clause-err : goal.returns-in-Err-clause-err
returns-in-Err-clause-err g c =
    let store = g.P.Pages.store in
    ended_of store g.P.Pages.flush_number g.M.MergeOperator.meant _ (RunsOnTree store g.M.MergeOperator.meant g.F.Fn g.R.TransactionAnswer.result_of c.args.f c.args.self.now c.args.tree.now) _ true c.args.self.now c.in-Err.e c.run_transaction.new.self
    c.in-Err.ensures

pub returns-in-Ok-commit-clause-writes : goal.returns-in-Ok-commit-clause-writes
returns-in-Ok-commit-clause-writes g c = tree_makes g.P.Pages.store g.P.Pages.flush_number g.M.MergeOperator.meant g.F.Fn g.R.TransactionAnswer.result_of c.args.f c.args.self.now c.args.tree.now c.audit.ensures.sound _ _ (returns-in-Ok-commit-clause-ok g c)

pub returns-in-Ok-commit-clause-leaves : goal.returns-in-Ok-commit-clause-leaves
returns-in-Ok-commit-clause-leaves g c = commits_leave g.P.Pages.store g.M.MergeOperator.meant g.P.Pages.flush_number _ _ _ _ c.args.self.now c.audit.ensures.sound _ _ (returns-in-Ok-commit-clause-ok g c)

pub returns-in-Err-clause-refuses : goal.returns-in-Err-clause-refuses
returns-in-Err-clause-refuses g c = tree_refuses g.P.Pages.store g.P.Pages.flush_number g.M.MergeOperator.meant g.F.Fn g.R.TransactionAnswer.result_of c.args.f c.args.self.now c.args.tree.now c.audit.ensures.sound _ _ (returns-in-Err-clause-err g c)

pub returns-in-Err-clause-leaves : goal.returns-in-Err-clause-leaves
returns-in-Err-clause-leaves g c = fails_leave g.P.Pages.store g.M.MergeOperator.meant g.P.Pages.flush_number _ _ _ _ c.args.self.now c.audit.ensures.sound _ _ (returns-in-Err-clause-err g c)

pub returns-in-Err-commit-clause-refuses : goal.returns-in-Err-commit-clause-refuses
returns-in-Err-commit-clause-refuses g c = tree_refuses g.P.Pages.store g.P.Pages.flush_number g.M.MergeOperator.meant g.F.Fn g.R.TransactionAnswer.result_of c.args.f c.args.self.now c.args.tree.now c.audit.ensures.sound _ _ (returns-in-Err-commit-clause-err g c)

pub returns-in-Err-commit-clause-leaves : goal.returns-in-Err-commit-clause-leaves
returns-in-Err-commit-clause-leaves g c = fails_leave g.P.Pages.store g.M.MergeOperator.meant g.P.Pages.flush_number _ _ _ _ c.args.self.now c.audit.ensures.sound _ _ (returns-in-Err-commit-clause-err g c)
