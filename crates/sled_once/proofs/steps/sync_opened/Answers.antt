use Rattle.std.proofs.Common.{arith}
use Rattle.sled_once.proofs.Handing.{brought, off_sync}
use Rattle.sled_once.proofs.steps.sync_opened.Goals as goal

pub returns-in-Ok-clause-ok : goal.returns-in-Ok-clause-ok
returns-in-Ok-clause-ok g c calls s =
    let disk = g.D.Disk in
    brought disk.seen disk.may_leave c.args.disk.now c.sync.new.self c.args.gate c.args.block calls s c.end_behind.result c.len-count.result (omega (arith, c.len-count.ensures)) c.end_behind.ensures c.sync.ensures.seen c.in-Ok.ensures.durable

pub returns-in-Err-clause-err : goal.returns-in-Err-clause-err
returns-in-Err-clause-err g c calls s =
    let disk = g.D.Disk in
    off_sync disk.seen disk.may_leave c.args.disk.now c.sync.new.self c.args.gate c.args.block calls s c.sync.ensures.crash
