use Rattle.std.specs.List.{zip}
use Rattle.std.proofs.Common.{subst}
use Rattle.sled.specs.Transactions.{RunsOnList, trees_of_list, has_trees}
use Rattle.sled.specs.theory.Transactions.{CommitsGroup, StopsCommit}
use Rattle.sled.proofs.Ending.{list_makes, list_refuses, commits_leave, fails_leave}
use Rattle.sled.proofs.Transacting.{made_of, not_made_of, ended_of, still_tested}
use Rattle.sled.proofs.db.Db.transact_list.Goals as goal

pub returns-in-Ok-commit_list-clause-ok : goal.returns-in-Ok-commit_list-clause-ok
returns-in-Ok-commit_list-clause-ok g c =
    let store = g.P.Pages.store in
    let trees = trees_of_list c.args.trees.now in
    made_of store g.P.Pages.flush_number g.M.MergeOperator.meant _ (RunsOnList store g.M.MergeOperator.meant g.F.Fn g.R.TransactionAnswer.result_of c.args.f c.args.self.now trees) (zip trees) (has_trees trees) c.args.self.now c.in-Ok.field-0 c.run_transaction_all.new.self c.commit_list.new.self _ c.flush_follows-flushes.ensures
    c.in-Ok.ensures
    (subst (λ w. CommitsGroup store g.P.Pages.flush_number g.M.MergeOperator.meant c.run_transaction_all.new.self (zip trees w) c.flush_follows-flushes.result c.commit_list.new.self) c.into_batches.ensures c.in-Ok-commit_list.ensures.ok)

pub returns-in-Err-commit_list-clause-err : goal.returns-in-Err-commit_list-clause-err
returns-in-Err-commit_list-clause-err g c =
    let store = g.P.Pages.store in
    let trees = trees_of_list c.args.trees.now in
    not_made_of store g.P.Pages.flush_number g.M.MergeOperator.meant _ (RunsOnList store g.M.MergeOperator.meant g.F.Fn g.R.TransactionAnswer.result_of c.args.f c.args.self.now trees) (zip trees) (has_trees trees) c.args.self.now c.in-Ok.field-0 c.run_transaction_all.new.self c.commit_list.new.self c.in-Err-commit_list.e _ c.flush_follows-flushes.ensures
    c.in-Ok.ensures
    (subst (λ w. StopsCommit store g.P.Pages.flush_number g.M.MergeOperator.meant c.run_transaction_all.new.self (zip trees w) c.flush_follows-flushes.result c.in-Err-commit_list.e c.commit_list.new.self) c.into_batches.ensures c.in-Err-commit_list.ensures.err)

pub commit_list-requires-after_bounds : goal.commit_list-requires-after_bounds
commit_list-requires-after_bounds g c κs within = still_tested g.P.Pages.store g.M.MergeOperator.meant c.args.self.now c.run_transaction_all.new.self (trees_of_list c.args.trees.now) c.in-Ok.ensures.takes c.in-Ok.ensures.runs.tested

pub returns-in-Err-clause-err : goal.returns-in-Err-clause-err
returns-in-Err-clause-err g c =
    let store = g.P.Pages.store in
    let trees = trees_of_list c.args.trees.now in
    ended_of store g.P.Pages.flush_number g.M.MergeOperator.meant _ (RunsOnList store g.M.MergeOperator.meant g.F.Fn g.R.TransactionAnswer.result_of c.args.f c.args.self.now trees) (zip trees) (has_trees trees) c.args.self.now c.in-Err.e c.run_transaction_all.new.self
    c.in-Err.ensures

pub returns-in-Ok-commit_list-clause-writes : goal.returns-in-Ok-commit_list-clause-writes
returns-in-Ok-commit_list-clause-writes g c = list_makes g.P.Pages.store g.P.Pages.flush_number g.M.MergeOperator.meant g.F.Fn g.R.TransactionAnswer.result_of c.args.f c.args.self.now (trees_of_list c.args.trees.now) c.audit.ensures.sound _ _ (returns-in-Ok-commit_list-clause-ok g c)

pub returns-in-Ok-commit_list-clause-leaves : goal.returns-in-Ok-commit_list-clause-leaves
returns-in-Ok-commit_list-clause-leaves g c = commits_leave g.P.Pages.store g.M.MergeOperator.meant g.P.Pages.flush_number _ _ _ _ c.args.self.now c.audit.ensures.sound _ _ (returns-in-Ok-commit_list-clause-ok g c)

pub returns-in-Err-clause-refuses : goal.returns-in-Err-clause-refuses
returns-in-Err-clause-refuses g c = list_refuses g.P.Pages.store g.P.Pages.flush_number g.M.MergeOperator.meant g.F.Fn g.R.TransactionAnswer.result_of c.args.f c.args.self.now (trees_of_list c.args.trees.now) c.audit.ensures.sound _ _ (returns-in-Err-clause-err g c)

pub returns-in-Err-clause-leaves : goal.returns-in-Err-clause-leaves
returns-in-Err-clause-leaves g c = fails_leave g.P.Pages.store g.M.MergeOperator.meant g.P.Pages.flush_number _ _ _ _ c.args.self.now c.audit.ensures.sound _ _ (returns-in-Err-clause-err g c)

pub returns-in-Err-commit_list-clause-refuses : goal.returns-in-Err-commit_list-clause-refuses
returns-in-Err-commit_list-clause-refuses g c = list_refuses g.P.Pages.store g.P.Pages.flush_number g.M.MergeOperator.meant g.F.Fn g.R.TransactionAnswer.result_of c.args.f c.args.self.now (trees_of_list c.args.trees.now) c.audit.ensures.sound _ _ (returns-in-Err-commit_list-clause-err g c)

pub returns-in-Err-commit_list-clause-leaves : goal.returns-in-Err-commit_list-clause-leaves
returns-in-Err-commit_list-clause-leaves g c = fails_leave g.P.Pages.store g.M.MergeOperator.meant g.P.Pages.flush_number _ _ _ _ c.args.self.now c.audit.ensures.sound _ _ (returns-in-Err-commit_list-clause-err g c)
