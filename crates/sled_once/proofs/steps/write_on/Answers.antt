use Rattle.sled_once.proofs.Going.{stopped_writing}
use Rattle.sled_once.proofs.steps.write_on.Goals as goal

pub returns-in-Err-clause-goes_on : goal.returns-in-Err-clause-goes_on
returns-in-Err-clause-goes_on g c calls s =
    stopped_writing g.D.Disk.seen g.D.Disk.may_leave c.args.disk.now c.args.end c.args.is_synced calls s c.write_at.new.self c.args.at c.args.bytes.now c.write_at.ensures.crash
