use Rattle.sled_files.proofs.Emptying.{emptied_asked, emptied_closed, emptied_cut}
use Rattle.sled_files.proofs.begin.empty.Goals as goal

pub returns-in_err-len-clause-any_moment : goal.returns-in_err-len-clause-any_moment
returns-in_err-len-clause-any_moment g c =
    let disk = g.D.Disk in
    emptied_asked disk.seen disk.moment disk.left_since disk.may_leave c.args.disk.now c.requires.on_disk c.law_only_now.ensures c.len.new.self c.len.ensures.time c.len.ensures.crash

pub returns-then-len-le1-clause-any_moment : goal.returns-then-len-le1-clause-any_moment
returns-then-len-le1-clause-any_moment g c =
    let disk = g.D.Disk in
    emptied_asked disk.seen disk.moment disk.left_since disk.may_leave c.args.disk.now c.requires.on_disk c.law_only_now.ensures c.len.new.self c.len.ensures.time c.len.ensures.crash

pub returns-in_err-write_through-clause-any_moment : goal.returns-in_err-write_through-clause-any_moment
returns-in_err-write_through-clause-any_moment g c =
    let disk = g.D.Disk in
    let asked = emptied_asked disk.seen disk.moment disk.left_since disk.may_leave c.args.disk.now c.requires.on_disk c.law_only_now.ensures c.len.new.self c.len.ensures.time c.len.ensures.crash in
    emptied_closed disk.seen disk.moment disk.left_since c.args.disk.now c.len.new.self asked c.len.ensures.seen c.write_through.new.disk c.write_through.ensures.any_moment

pub returns-clause-any_moment : goal.returns-clause-any_moment
returns-clause-any_moment g c =
    let disk = g.D.Disk in
    let asked = emptied_asked disk.seen disk.moment disk.left_since disk.may_leave c.args.disk.now c.requires.on_disk c.law_only_now.ensures c.len.new.self c.len.ensures.time c.len.ensures.crash in
    emptied_cut disk.seen disk.moment disk.left_since c.args.disk.now c.len.new.self asked c.len.ensures.seen c.write_through.new.disk c.cut_through.new.disk c.write_through.ensures.any_moment c.in_ok-write_through.ensures.written c.cut_through.ensures.any_moment
