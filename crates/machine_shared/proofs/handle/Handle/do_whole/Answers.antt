use Rattle.std.proofs.Common.{refl}
use Rattle.machine_shared.specs.Replies.{tell_done}
use Rattle.machine_shared.proofs.UnderLocks.{whole_refused, whole_told}
use Rattle.machine_shared.proofs.handle.Handle.do_whole.Goals as goal

pub returns-in-Ok-clause-under_lock : goal.returns-in-Ok-clause-under_lock
returns-in-Ok-clause-under_lock g c = whole_told g.P.Pages.store g.P.Pages.flush_number g.M.MergeOperator.meant c.args.whole c.args.self.now c.reply_to.new.self _ tell_done c.in-Ok.reply tt refl (c.requires c.in-Ok.reply c.in-Ok.ensures.kind) c.in-Ok.ensures.under_lock

pub returns-in-Err-clause-under_lock : goal.returns-in-Err-clause-under_lock
returns-in-Err-clause-under_lock g c = whole_refused g.P.Pages.store g.P.Pages.flush_number g.M.MergeOperator.meant c.args.whole c.args.self.now c.reply_to.new.self _ tell_done c.in-Err.e refl c.in-Err.ensures.under_lock
