use Rattle.std.proofs.Common.{ap, inr}
use Rattle.std.proofs.lemmas.Result.{err_from_is_err_and}
use Rattle.sled_model.specs.declared.call.Whole.TheVariants as wholes
use Rattle.sled_model.specs.declared.reply.Reply.TheVariants as told
use Rattle.machine_shared.proofs.UnderLocks.{lacks_call, whole_refused, whole_told}
use Rattle.machine_shared.proofs.handle.Handle.drop_tree.Goals as goal

pub returns-in_err-from_slice-clause-under_lock : goal.returns-in_err-from_slice-clause-under_lock
returns-in_err-from_slice-clause-under_lock g c =
    let is = err_from_is_err_and c.from_residual.result c.from_residual.ensures.1 in
    lacks_call (λ it. told.Flag it) c.from_residual.result is.0 c.in_err-from_slice.field-0.0 c.args.self.now is.1 is.2 c.in_err-from_slice.ensures.err

pub returns-in-Ok-clause-under_lock : goal.returns-in-Ok-clause-under_lock
returns-in-Ok-clause-under_lock g c = inr (whole_told g.P.Pages.store g.P.Pages.flush_number g.M.MergeOperator.meant (wholes.DropTree c.args.name.now) c.args.self.now c.reply_to.new.self _ (λ it. told.Flag it) c.in-Ok.reply c.flag_of.result (ap (λ k. wholes.DropTree k) c.in_ok-from_slice.ensures.ok) c.flag_of.ensures c.in-Ok.ensures.under_lock)

pub returns-in-Err-clause-under_lock : goal.returns-in-Err-clause-under_lock
returns-in-Err-clause-under_lock g c = inr (whole_refused g.P.Pages.store g.P.Pages.flush_number g.M.MergeOperator.meant (wholes.DropTree c.args.name.now) c.args.self.now c.reply_to.new.self _ (λ it. told.Flag it) c.in-Err.e (ap (λ k. wholes.DropTree k) c.in_ok-from_slice.ensures.ok) c.in-Err.ensures.under_lock)
