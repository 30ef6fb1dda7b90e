use Rattle.sled_once.proofs.Going.{over_unwritten}
use Rattle.sled_once.proofs.steps.write_settled.Goals as goal

pub returns-in-Err-clause-goes_on : goal.returns-in-Err-clause-goes_on
returns-in-Err-clause-goes_on g c calls s =
    over_unwritten g.D.Disk.seen g.D.Disk.may_leave c.in-Err.over c.settle.new.disk calls c.args.at c.args.bytes.now c.in-Err.ensures.over (c.in-Err.ensures.err calls s)
