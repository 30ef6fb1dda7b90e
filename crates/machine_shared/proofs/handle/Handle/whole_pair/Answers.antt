use Rattle.std.proofs.Common.{refl}
use Rattle.sled_model.specs.declared.reply.Reply.TheVariants as told
use Rattle.machine_shared.proofs.UnderLocks.{whole_refused, whole_told}
use Rattle.machine_shared.proofs.handle.Handle.whole_pair.Goals as goal

pub returns-in-Ok-clause-under_lock : goal.returns-in-Ok-clause-under_lock
returns-in-Ok-clause-under_lock g c = whole_told g.P.Pages.store g.P.Pages.flush_number g.M.MergeOperator.meant c.args.whole c.args.self.now c.reply_to.new.self _ (λ it. told.Pair it) c.in-Ok.reply c.pair_of.result refl c.pair_of.ensures c.in-Ok.ensures.under_lock

pub returns-in-Err-clause-under_lock : goal.returns-in-Err-clause-under_lock
returns-in-Err-clause-under_lock g c = whole_refused g.P.Pages.store g.P.Pages.flush_number g.M.MergeOperator.meant c.args.whole c.args.self.now c.reply_to.new.self _ (λ it. told.Pair it) c.in-Err.e refl c.in-Err.ensures.under_lock
