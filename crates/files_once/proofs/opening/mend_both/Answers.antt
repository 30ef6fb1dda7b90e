use Rattle.files_once.proofs.Meanwhile.{not_asked}
use Rattle.files_once.proofs.opening.mend_both.Goals as goal

pub returns-in_err-is_first-clause-second_any_moment : goal.returns-in_err-is_first-clause-second_any_moment
returns-in_err-is_first-clause-second_any_moment g c =
    let d = g.D.Disk in
    not_asked d.moment d.left_since d.may_leave (d.seen c.args.second.now) c.args.second.now c.law_only_now.ensures
