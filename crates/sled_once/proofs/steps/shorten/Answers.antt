use Rattle.sled_once.proofs.Going.{stopped_cutting, over_uncut}
use Rattle.sled_once.proofs.steps.shorten.Goals as goal

pub returns-in-Err-cut-clause-goes_on : goal.returns-in-Err-cut-clause-goes_on
returns-in-Err-cut-clause-goes_on g c calls s =
    stopped_cutting g.D.Disk.seen g.D.Disk.may_leave c.settle.new.disk c.in-Ok.end c.in-Ok.field-0-1 calls (c.in-Ok.ensures.ok calls s) c.cut.new.self c.args.len c.cut.ensures.crash

pub returns-in-Err-clause-goes_on : goal.returns-in-Err-clause-goes_on
returns-in-Err-clause-goes_on g c calls s = over_uncut g.D.Disk.seen g.D.Disk.may_leave c.in-Err.over c.settle.new.disk calls c.args.len c.in-Err.ensures.over (c.in-Err.ensures.err calls s)
