use Rattle.std.proofs.Common.{sym, subst}
use Rattle.sled_once.specs.Once.{bytes_of, outcomes_of}
use Rattle.files_once.proofs.Left.{no_more, only_seen, read_on}
use Rattle.files_once.proofs.opening.both_once.Goals as goal

pub returns-in-Err-clause-first_left : goal.returns-in-Err-clause-first_left
returns-in-Err-clause-first_left g c = no_more (g.D.Disk.may_leave c.args.first) (g.D.Disk.may_leave c.in-Err.first) c.in-Err.ensures.left

pub returns-in-Err-clause-second_left : goal.returns-in-Err-clause-second_left
returns-in-Err-clause-second_left g c = no_more (g.D.Disk.may_leave c.args.second) (g.D.Disk.may_leave c.args.second) (λ l left. left)

-- the first disk is as it was, so all that may be left of what stood before it is what it has
pub returns-in-Err-new-clause-first_left : goal.returns-in-Err-new-clause-first_left
returns-in-Err-new-clause-first_left g c = read_on (outcomes_of c.in-Ok.first) (g.D.Disk.may_leave c.args.first) (g.D.Disk.may_leave c.handed_back-first.result.0) c.handed_back-first.ensures.read
    (only_seen (bytes_of c.in-Ok.first) (g.D.Disk.may_leave c.args.first) (outcomes_of c.in-Ok.first) c.in-Ok.ensures.durable (subst (g.D.Disk.may_leave c.args.first) (sym c.in-Ok.ensures.bytes) c.law_may_stay.ensures))

pub returns-in-Err-new-clause-second_left : goal.returns-in-Err-new-clause-second_left
returns-in-Err-new-clause-second_left g c = no_more (g.D.Disk.may_leave c.args.second) (g.D.Disk.may_leave c.in-Err-new.second) c.in-Err-new.ensures.left
