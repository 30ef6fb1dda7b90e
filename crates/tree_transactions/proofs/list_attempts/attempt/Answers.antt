use Rattle.std.proofs.Common.{refl}
use Rattle.tree_transactions.specs.Ids.{sets_aside_for}
use Rattle.tree_transactions.specs.Transactions.{BeginsAll, left_of_trees}
use Rattle.tree_transactions.proofs.Attempting.{attempted, sets_only_for}
use Rattle.tree_transactions.proofs.list_attempts.attempt.Goals as goal

pub returns : goal.returns
returns g c =
    let store = g.P.Pages.store in
    attempted g.F.Fn g.R.TransactionAnswer.result_of c.args.f.now (sets_aside_for c.args.roots.now) (sets_only_for c.args.roots.now) (BeginsAll store c.args.roots.now) left_of_trees
    (store c.args.pages.now) (store c.set_ids_aside_for.new.pages) c.args.greatest_id.now c.mark-2.result c.ids_after.result _ c.call_once-answer.result.1 c.call_once-answer.result.0 c.made.result c.set_ids_aside_for.ensures
    (record { over = refl; roots_are = refl; empty = c.requires.fresh; greatest_is = refl; mark_is = c.mark.ensures; quiet = refl }) c.call_once-answer.ensures c.mark-2.ensures c.ids_after.ensures c.made.ensures
