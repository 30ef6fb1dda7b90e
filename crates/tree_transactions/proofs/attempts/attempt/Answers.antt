use Rattle.std.proofs.Common.{refl}
use Rattle.tree_transactions.specs.Ids.{SetsAside}
use Rattle.tree_transactions.specs.Transactions.{Begins, left_of_tree}
use Rattle.tree_transactions.proofs.Attempting.{attempted, sets_only}
use Rattle.tree_transactions.proofs.attempts.attempt.Goals as goal

pub returns : goal.returns
returns g c =
    let store = g.P.Pages.store in
    attempted g.F.Fn g.R.TransactionAnswer.result_of c.args.f.now SetsAside sets_only (Begins store c.args.root) left_of_tree
    (store c.args.pages.now) (store c.set_ids_aside.new.pages) c.args.greatest_id.now c.mark-2.result c.ids_after.result _ c.call_once-answer.result.1 c.call_once-answer.result.0 c.made.result c.set_ids_aside.ensures
    (record { over = refl; root_is = refl; empty = c.default.ensures; greatest_is = refl; mark_is = c.mark.ensures; quiet = refl }) c.call_once-answer.ensures c.mark-2.ensures c.ids_after.ensures c.made.ensures
