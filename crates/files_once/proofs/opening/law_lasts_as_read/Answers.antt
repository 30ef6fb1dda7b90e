use Rattle.std.proofs.Common.{subst}
use Rattle.sled_once.specs.Once.{Once, LeavesAsRead}
use Rattle.files_once.proofs.opening.law_lasts_as_read.Goals as goal

pub returns : goal.returns
returns g c first second left also_left told also_told =
    let one : LeavesAsRead {D = g.row.D.Denot} g.D.Disk.may_leave c.args.store.now.files.first = subst (λ (f : Once g.row.D.Denot). LeavesAsRead g.D.Disk.may_leave f) c.disks.ensures.first c.law_read_as_left.ensures in
    let two : LeavesAsRead {D = g.row.D.Denot} g.D.Disk.may_leave c.args.store.now.files.second = subst (λ (f : Once g.row.D.Denot). LeavesAsRead g.D.Disk.may_leave f) c.disks.ensures.second c.law_read_as_left-2.ensures in
    let a = one.each first left told in
    let b = two.each second also_left also_told in
    record { one = a.file; two = b.file; first_read = a.is_read; second_read = b.is_read; lasting = c.law_lasts.ensures.lasts.each a.file b.file a.left b.left }
