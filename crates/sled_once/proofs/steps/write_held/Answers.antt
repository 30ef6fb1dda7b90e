use Rattle.std.proofs.Common.{subst, ◌+◌, List, ℕ}
use Rattle.sled_disk.specs.Disk.{Torn, Follows}
use Rattle.sled_once.proofs.Handing.{off_staged, off_synced}
use Rattle.sled_once.proofs.steps.write_held.Goals as goal

pub returns-in-Err-clause-err : goal.returns-in-Err-clause-err
returns-in-Err-clause-err g c calls s =
    let disk = g.D.Disk in
    off_staged disk.seen disk.may_leave c.args.disk.now c.args.gate c.args.block calls s c.write_at.new.self
    (subst (λ (l : List ℕ). Follows (Torn (c.args.gate + 1) l) (disk.may_leave c.args.disk.now) (disk.may_leave c.write_at.new.self)) c.deref.ensures.value c.write_at.ensures.crash)

pub returns-in-Err-sync-clause-err : goal.returns-in-Err-sync-clause-err
returns-in-Err-sync-clause-err g c calls s =
    let disk = g.D.Disk in
    off_synced disk.seen disk.may_leave c.args.disk.now c.args.gate c.args.block calls s c.write_at.new.self c.sync.new.self
    (subst (λ (l : List ℕ). Follows (Torn (c.args.gate + 1) l) (disk.may_leave c.args.disk.now) (disk.may_leave c.write_at.new.self)) c.deref.ensures.value c.write_at.ensures.crash)
    c.sync.ensures.crash
