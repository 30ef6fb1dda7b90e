use Rattle.sled_once.proofs.Going.{stopped_syncing}
use Rattle.sled_once.proofs.steps.sync_on.Goals as goal

pub returns-in-Err-clause-goes_on : goal.returns-in-Err-clause-goes_on
returns-in-Err-clause-goes_on g c calls s = stopped_syncing g.D.Disk.seen g.D.Disk.may_leave c.args.disk.now c.args.end c.args.is_synced calls s c.sync.new.self c.sync.ensures.crash
