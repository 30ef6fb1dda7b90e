use Rattle.std.proofs.Common.{ap}
use Rattle.sled_model.specs.declared.call.Whole.TheVariants as wholes
use Rattle.sled_model.specs.declared.reply.Reply.TheVariants as told
use Rattle.machine_shared.proofs.UnderLocks.{whole_refused, whole_told}
use Rattle.machine_shared.proofs.handle.Handle.next.Goals as goal

pub returns-in-Ok-clause-under_lock : goal.returns-in-Ok-clause-under_lock
returns-in-Ok-clause-under_lock g c = whole_told g.P.Pages.store g.P.Pages.flush_number g.M.MergeOperator.meant (wholes.Next c.args.subscriber.now) c.args.self.now c.reply_to.new.self (wholes.Next c.subscriber.inside.0) (λ it. told.Next it) c.in-Ok.reply c.next_of.result (ap (λ k. wholes.Next k) c.subscriber.view_is) c.next_of.ensures c.in-Ok.ensures.under_lock

pub returns-in-Err-clause-under_lock : goal.returns-in-Err-clause-under_lock
returns-in-Err-clause-under_lock g c = whole_refused g.P.Pages.store g.P.Pages.flush_number g.M.MergeOperator.meant (wholes.Next c.args.subscriber.now) c.args.self.now c.reply_to.new.self (wholes.Next c.subscriber.inside.0) (λ it. told.Next it) c.in-Err.e (ap (λ k. wholes.Next k) c.subscriber.view_is) c.in-Err.ensures.under_lock
