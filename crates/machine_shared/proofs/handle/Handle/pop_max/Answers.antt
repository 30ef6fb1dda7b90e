use Rattle.std.proofs.Common.{ap, inr}
use Rattle.std.proofs.lemmas.Result.{err_from_is_err_and}
use Rattle.sled_model.specs.declared.call.Whole.TheVariants as wholes
use Rattle.sled_model.specs.declared.reply.Reply.TheVariants as told
use Rattle.machine_shared.proofs.UnderLocks.{lacks_call, whole_same}
use Rattle.machine_shared.proofs.handle.Handle.pop_max.Goals as goal

pub returns-in_err-clone-clause-under_lock : goal.returns-in_err-clone-clause-under_lock
returns-in_err-clone-clause-under_lock g c =
    let is = err_from_is_err_and c.from_residual.result c.from_residual.ensures.1 in
    lacks_call (λ it. told.Pair it) c.from_residual.result is.0 c.in_err-clone.field-0.0 c.args.self.now is.1 is.2 c.in_err-clone.ensures.err

pub returns-clause-under_lock : goal.returns-clause-under_lock
returns-clause-under_lock g c = inr (whole_same g.P.Pages.store g.P.Pages.flush_number g.M.MergeOperator.meant (wholes.PopMax c.args.tree.now) c.args.self.now c.whole_pair.new.self _ (λ it. told.Pair it) c.whole_pair.result (ap (λ k. wholes.PopMax k) c.in_ok-clone.ensures.ok) c.whole_pair.ensures.under_lock)
