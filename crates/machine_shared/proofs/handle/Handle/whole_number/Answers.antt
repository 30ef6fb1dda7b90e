use Rattle.std.proofs.Common.{refl}
use Rattle.sled_model.specs.declared.reply.Reply.TheVariants as told
use Rattle.machine_shared.proofs.UnderLocks.{whole_refused, whole_told}
use Rattle.machine_shared.proofs.handle.Handle.whole_number.Goals as goal

pub returns-in-Ok-clause-under_lock : goal.returns-in-Ok-clause-under_lock
returns-in-Ok-clause-under_lock g c = whole_told g.P.Pages.store g.P.Pages.flush_number g.M.MergeOperator.meant c.args.whole c.args.self.now c.reply_to.new.self _ (λ it. told.Number it) c.in-Ok.reply c.number_of.result refl c.number_of.ensures c.in-Ok.ensures.under_lock

pub returns-in-Err-clause-under_lock : goal.returns-in-Err-clause-under_lock
returns-in-Err-clause-under_lock g c = whole_refused g.P.Pages.store g.P.Pages.flush_number g.M.MergeOperator.meant c.args.whole c.args.self.now c.reply_to.new.self _ (λ it. told.Number it) c.in-Err.e refl c.in-Err.ensures.under_lock
