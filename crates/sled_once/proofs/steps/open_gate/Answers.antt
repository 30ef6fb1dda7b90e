use Rattle.std.proofs.Common.{◌∙◌, ap, subst, ◌+◌, List, ℕ}
use Rattle.sled_disk.specs.Disk.{written, Torn, Follows}
use Rattle.sled_once.proofs.Handing.{off_block, off_gate, opens}
use Rattle.sled_once.proofs.steps.open_gate.Goals as goal

pub returns-in-Err-clause-goes_on : goal.returns-in-Err-clause-goes_on
returns-in-Err-clause-goes_on g c calls s =
    let disk = g.D.Disk in
    off_block disk.seen disk.may_leave c.args.disk.now c.args.gate c.args.block calls s c.write_at.new.self
    (subst (λ (l : List ℕ). Follows (Torn (c.args.gate + 1) l) (disk.may_leave c.args.disk.now) (disk.may_leave c.write_at.new.self)) c.deref.ensures.value c.write_at.ensures.crash)

pub returns-in-Err-write_at-clause-goes_on : goal.returns-in-Err-write_at-clause-goes_on
returns-in-Err-write_at-clause-goes_on g c calls s =
    let disk = g.D.Disk in
    off_gate disk.seen disk.may_leave c.args.disk.now c.args.gate c.args.block calls s c.write_at.new.self c.write_at-2.new.self
    (subst (λ (l : List ℕ). Follows (Torn (c.args.gate + 1) l) (disk.may_leave c.args.disk.now) (disk.may_leave c.write_at.new.self)) c.deref.ensures.value c.write_at.ensures.crash)
    c.write_at-2.ensures.crash

pub returns-in-Ok-clause-goes_on : goal.returns-in-Ok-clause-goes_on
returns-in-Ok-clause-goes_on g c calls s =
    let disk = g.D.Disk in
    opens disk.seen disk.may_leave c.args.disk.now c.args.gate c.args.block calls s c.write_at.new.self c.write_at-2.new.self
    (c.in_default.ensures.written ∙ ap (λ (l : List ℕ). written (c.args.gate + 1) l (disk.seen c.args.disk.now)) c.deref.ensures.value)
    c.in-Ok.ensures.written
    (subst (λ (l : List ℕ). Follows (Torn (c.args.gate + 1) l) (disk.may_leave c.args.disk.now) (disk.may_leave c.write_at.new.self)) c.deref.ensures.value c.write_at.ensures.crash)
    c.write_at-2.ensures.crash
