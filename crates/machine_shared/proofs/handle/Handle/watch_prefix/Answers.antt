use Rattle.std.proofs.Common.{inr}
use Rattle.std.proofs.lemmas.Result.{err_from_is_err_and}
use Rattle.sled_model.specs.declared.call.Whole.TheVariants as wholes
use Rattle.sled_model.specs.declared.reply.Reply.TheVariants as told
use Rattle.machine_shared.proofs.UnderLocks.{lacks_call, whole_refused, whole_told}
use Rattle.machine_shared.proofs.handle.Handle.watch_prefix.Goals as goal

pub returns-in_err-whole-clause-under_lock : goal.returns-in_err-whole-clause-under_lock
returns-in_err-whole-clause-under_lock g c =
    let is = err_from_is_err_and c.from_residual.result c.from_residual.ensures.1 in
    lacks_call (λ it. told.Subscriber it) c.from_residual.result is.0 c.in_err-whole.field-0.0 c.args.self.now is.1 is.2 c.in_err-whole.ensures.err

pub returns-in-Ok-clause-under_lock : goal.returns-in-Ok-clause-under_lock
returns-in-Ok-clause-under_lock g c = inr (whole_told g.P.Pages.store g.P.Pages.flush_number g.M.MergeOperator.meant (wholes.Watch c.args.tree.now c.args.prefix.now) c.args.self.now c.reply_to.new.self _ (λ it. told.Subscriber it) c.in-Ok.reply c.subscriber_of.result c.in_ok-whole.ensures.ok c.subscriber_of.ensures c.in-Ok.ensures.under_lock)

pub returns-in-Err-clause-under_lock : goal.returns-in-Err-clause-under_lock
returns-in-Err-clause-under_lock g c = inr (whole_refused g.P.Pages.store g.P.Pages.flush_number g.M.MergeOperator.meant (wholes.Watch c.args.tree.now c.args.prefix.now) c.args.self.now c.reply_to.new.self _ (λ it. told.Subscriber it) c.in-Err.e c.in_ok-whole.ensures.ok c.in-Err.ensures.under_lock)
