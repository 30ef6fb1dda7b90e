use Rattle.std.proofs.Common.{Result, sym, subst}
use Rattle.std.specs.List.{zip}
use Rattle.tree_transactions.specs.declared.errors.TransactionError.{TransactionError}
use Rattle.sled.specs.Transactions.{has_trees, trees_of_list}
use Rattle.machine_shared.specs.Inside.{RunsOverAll}
use Rattle.machine_shared.specs.Transacted.{TransactsUnderLock}
use Rattle.machine_shared.specs.Transactions.{fails_tests_of_list}
use Rattle.machine_shared.specs.Values.{CallerValue}
use Rattle.machine_shared.proofs.handle.Handle.transaction_all.Goals as goal

pub returns-clause-under_lock : goal.returns-clause-under_lock
returns-clause-under_lock g c =
    let trees = trees_of_list c.args.trees.now in
    let tests = fails_tests_of_list g.P.Pages.store g.M.MergeOperator.meant trees in
    let runs = RunsOverAll g.P.Pages.store g.M.MergeOperator.meant g.F.Fn g.R.TransactionAnswer.result_of c.args.f trees in
    subst (λ (r : Result _ (TransactionError _)). TransactsUnderLock g.P.Pages.store g.P.Pages.flush_number g.M.MergeOperator.meant tests runs (zip trees) (has_trees trees) r c.args.self.now c.transact_all_in-ended.new.me) (sym c.ended.ensures)
    (subst (λ (m : CallerValue). TransactsUnderLock g.P.Pages.store g.P.Pages.flush_number g.M.MergeOperator.meant tests runs (zip trees) (has_trees trees) c.transact_all_in-ended.result m c.transact_all_in-ended.new.me) c.self.view_is c.transact_all_in-ended.ensures.under_lock)
