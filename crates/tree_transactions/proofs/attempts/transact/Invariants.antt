use Rattle.tree_transactions.specs.Ids.{SetsAside}
use Rattle.tree_transactions.specs.Transactions.{Begins, left_of_tree}
use Rattle.tree_transactions.proofs.Attempting.{sets_only, OnWay}
use Rattle.tree_transactions.proofs.attempts.transact.Given as goal

abbrev pub invariant-loop : goal.invariant-loop
invariant-loop g l =
    let store = g.P.Pages.store in
    OnWay g.F.Fn g.R.TransactionAnswer.result_of l.fn.f SetsAside sets_only (Begins store l.root) left_of_tree (store l.fn.pages) l.fn.greatest_id l.counter (store l.pages) l.greatest_id
