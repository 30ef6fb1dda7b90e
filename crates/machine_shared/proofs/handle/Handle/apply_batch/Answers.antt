use Rattle.std.proofs.Common.{[], ◌∷◌}
use Rattle.std.proofs.lemmas.Result.{err_from_is_err_and}
use Rattle.machine_shared.specs.Replies.{tell_done}
use Rattle.machine_shared.proofs.UnderLocks.{group_same, lacks_call}
use Rattle.machine_shared.proofs.handle.Handle.apply_batch.Goals as goal

pub returns-in_err-whole-clause-under_lock : goal.returns-in_err-whole-clause-under_lock
returns-in_err-whole-clause-under_lock g c =
    let is = err_from_is_err_and c.from_residual.result c.from_residual.ensures.1 in
    lacks_call tell_done c.from_residual.result is.0 c.in_err-whole.field-0.0 c.args.self.now is.1 is.2 c.in_err-whole.ensures.err

pub returns-clause-under_lock : goal.returns-clause-under_lock
returns-clause-under_lock g c = group_same g.P.Pages.store g.P.Pages.flush_number g.M.MergeOperator.meant ((c.args.tree.now, c.args.batch) ∷ []) c.in_ok-whole.whole c.args.self.now c.do_whole.new.self c.in_ok-whole.ensures.group tell_done c.do_whole.result c.do_whole.ensures.under_lock
