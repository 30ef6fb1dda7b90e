use Rattle.tree_transactions.specs.Ids.{sets_aside_for}
use Rattle.tree_transactions.specs.Transactions.{BeginsAll, left_of_trees}
use Rattle.tree_transactions.proofs.Attempting.{sets_only_for, OnWay}
use Rattle.tree_transactions.proofs.list_attempts.transact_all.Given as goal

abbrev pub invariant-loop : goal.invariant-loop
invariant-loop g l =
    let store = g.P.Pages.store in
    OnWay g.F.Fn g.R.TransactionAnswer.result_of l.fn.f (sets_aside_for l.roots) (sets_only_for l.roots) (BeginsAll store l.roots) left_of_trees (store l.fn.pages) l.fn.greatest_id l.counter (store l.pages) l.greatest_id
