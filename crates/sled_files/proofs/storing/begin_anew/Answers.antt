use Rattle.std.proofs.Common.{subst, arith, rules}
use Rattle.sled_files.proofs.Anew.{made_whole}
use Rattle.sled_files.specs.Change.{Durable}
use Rattle.sled_files.specs.Files.{IsReady, LeavesPairs, AreForEither}
use Rattle.sled_files.proofs.Coding.{unstored_over}
use Rattle.sled_files.proofs.storing.begin_anew.Goals as goal

pub returns-in-Ok-clause-ready : goal.returns-in-Ok-clause-ready
returns-in-Ok-clause-ready g c = λ d made ready m.
    subst (λ (e : Durable). IsReady {D = g.row.D.Denot} g.D.Disk.seen g.D.Disk.may_leave c.rewrite.new.self e) m.makes (c.in-Ok.ensures.ready d m.changes ready m.spells (made_whole m))

pub returns-in-Ok-clause-any_moment : goal.returns-in-Ok-clause-any_moment
returns-in-Ok-clause-any_moment g c = λ d made ready m.
    subst (λ (e : Durable). LeavesPairs {D = g.row.D.Denot} g.D.Disk.moment g.D.Disk.left_since g.D.Disk.may_leave c.args.files.now c.rewrite.new.self (AreForEither d e)) m.makes (c.rewrite.ensures.any_moment d m.changes ready m.spells (made_whole m))

pub returns-in-Err-clause-any_moment : goal.returns-in-Err-clause-any_moment
returns-in-Err-clause-any_moment g c = λ d made ready m.
    subst (λ (e : Durable). LeavesPairs {D = g.row.D.Denot} g.D.Disk.moment g.D.Disk.left_since g.D.Disk.may_leave c.args.files.now c.rewrite.new.self (AreForEither d e)) m.makes (c.rewrite.ensures.any_moment d m.changes ready m.spells (made_whole m))

pub returns-in-Ok-clause-renewed : goal.returns-in-Ok-clause-renewed
returns-in-Ok-clause-renewed g c = record { other = c.in-Ok.ensures.one; generation = c.in-Ok.ensures.generation; bytes = omega (arith, c.in-Ok.ensures.bytes, c.in-Ok.ensures.snapshot); grown = c.in-Ok.ensures.grown }

pub returns-then-failed-clause-cause : goal.returns-then-failed-clause-cause
returns-then-failed-clause-cause g c = unstored_over c.args.files.now c.args.faults.now c.fault.result (search rules) c.fault.ensures.is

pub returns-in-Err-clause-cause : goal.returns-in-Err-clause-cause
returns-in-Err-clause-cause g c = record { cause = c.in-Err.e; why = c.in-Err.ensures.err; is = c.refusal.ensures.is }
