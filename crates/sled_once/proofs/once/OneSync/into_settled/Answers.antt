use Rattle.sled_once.proofs.Reading.{read_over}
use Rattle.sled_once.proofs.once.OneSync.into_settled.Goals as goal

pub returns-in-Err-clause-told : goal.returns-in-Err-clause-told
returns-in-Err-clause-told g c =
    rw (← c.self.view_is) (read_over g.D.Disk.seen g.D.Disk.may_leave c.settle.new.disk c.self.inside.noted.events c.in-Err.over c.in-Err.ensures.over (c.in-Err.ensures.err c.self.inside.noted.events c.self.invariant).agrees)
