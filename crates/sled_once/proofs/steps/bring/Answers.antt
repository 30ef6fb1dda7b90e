use Rattle.sled_once.proofs.Going.{over_unsynced, is_over}
use Rattle.sled_once.proofs.steps.bring.Goals as goal

pub returns-in-Err-clause-goes_on : goal.returns-in-Err-clause-goes_on
returns-in-Err-clause-goes_on g c =
    rw c.in-Opened.is (λ calls s. over_unsynced g.D.Disk.seen g.D.Disk.may_leave c.in-Err.over c.sync_opened.new.disk calls c.in-Err.ensures.over (c.in-Err.ensures.err calls s))

pub returns-in_default-clause-goes_on : goal.returns-in_default-clause-goes_on
returns-in_default-clause-goes_on g c calls s =
    over_unsynced g.D.Disk.seen g.D.Disk.may_leave c.args.stage c.args.disk.now calls (is_over c.args.stage c.in_default.not-Through c.in_default.not-Held c.in_default.not-Opened) s
