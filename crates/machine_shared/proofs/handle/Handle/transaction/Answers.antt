use Rattle.std.proofs.Common.{Result, true, sym, subst}
use Rattle.tree_transactions.specs.declared.errors.TransactionError.{TransactionError}
use Rattle.machine_shared.specs.Inside.{RunsOver}
use Rattle.machine_shared.specs.Transacted.{TransactsUnderLock}
use Rattle.machine_shared.specs.Transactions.{batches_of_tree, fails_tests}
use Rattle.machine_shared.specs.Values.{CallerValue}
use Rattle.machine_shared.proofs.handle.Handle.transaction.Goals as goal

pub returns-clause-under_lock : goal.returns-clause-under_lock
returns-clause-under_lock g c =
    let tests = fails_tests g.P.Pages.store g.M.MergeOperator.meant c.args.tree.now in
    let runs = RunsOver g.P.Pages.store g.M.MergeOperator.meant g.F.Fn g.R.TransactionAnswer.result_of c.args.f c.args.tree.now in
    subst (λ (r : Result _ (TransactionError _)). TransactsUnderLock g.P.Pages.store g.P.Pages.flush_number g.M.MergeOperator.meant tests runs (batches_of_tree c.args.tree.now) true r c.args.self.now c.transact_in-ended.new.me) (sym c.ended.ensures)
    (subst (λ (m : CallerValue). TransactsUnderLock g.P.Pages.store g.P.Pages.flush_number g.M.MergeOperator.meant tests runs (batches_of_tree c.args.tree.now) true c.transact_in-ended.result m c.transact_in-ended.new.me) c.self.view_is c.transact_in-ended.ensures.under_lock)
