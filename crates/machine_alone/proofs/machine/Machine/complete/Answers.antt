use Rattle.std.proofs.Common.{inl, refl}
use Rattle.machine_alone.proofs.machine.Machine.complete.Goals as goal

pub returns-in-Err : goal.returns-in-Err
returns-in-Err g c = inl (record { error = c.in-Err.e; is = refl; reaches = c.in-Err.ensures.err })
