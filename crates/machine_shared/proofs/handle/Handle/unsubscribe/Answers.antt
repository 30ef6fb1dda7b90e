use Rattle.std.proofs.Common.{ap}
use Rattle.sled_model.specs.declared.call.Whole.TheVariants as wholes
use Rattle.machine_shared.specs.Replies.{tell_done}
use Rattle.machine_shared.proofs.UnderLocks.{whole_same}
use Rattle.machine_shared.proofs.handle.Handle.unsubscribe.Goals as goal

pub returns-clause-under_lock : goal.returns-clause-under_lock
returns-clause-under_lock g c = whole_same g.P.Pages.store g.P.Pages.flush_number g.M.MergeOperator.meant (wholes.Unsubscribe c.args.subscriber.now) c.args.self.now c.do_whole.new.self (wholes.Unsubscribe c.subscriber.inside.0) tell_done c.do_whole.result (ap (λ k. wholes.Unsubscribe k) c.subscriber.view_is) c.do_whole.ensures.under_lock
