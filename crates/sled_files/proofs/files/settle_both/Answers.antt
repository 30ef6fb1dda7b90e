use Rattle.sled_files.proofs.Meanwhile.{unasked, counted_first, counted_second}
use Rattle.sled_files.proofs.files.settle_both.Goals as goal

pub returns-in-Err-clause-second_run : goal.returns-in-Err-clause-second_run
returns-in-Err-clause-second_run g c = unasked g.D.Disk.may_leave c.args.second.now c.law_only_now.ensures

pub returns-in-Err-clause-cause : goal.returns-in-Err-clause-cause
returns-in-Err-clause-cause g c = counted_first c.in-Err.e _ _ _ c.in-Err.ensures.cause

pub returns-in-Err-settle-clause-cause : goal.returns-in-Err-settle-clause-cause
returns-in-Err-settle-clause-cause g c = counted_second c.in-Err-settle.e _ _ _ _ c.in-Ok.ensures.calm c.in-Err-settle.ensures.cause
