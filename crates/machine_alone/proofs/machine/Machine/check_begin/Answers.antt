use Rattle.std.proofs.Common.{refl}
use Rattle.machine_alone.proofs.Machines.{untested_as, caused_as}
use Rattle.machine_alone.proofs.machine.Machine.check_begin.Goals as goal

pub returns-in-Err-clause-err : goal.returns-in-Err-clause-err
returns-in-Err-clause-err g c = untested_as g.P.Pages.store g.P.Pages.flush_number g.M.MergeOperator.meant _ _ c.self.view_is c.self.invariant _ _ _ c.in-Err.ensures.err

pub returns-then-self-clause-err : goal.returns-then-self-clause-err
returns-then-self-clause-err g c = caused_as g.P.Pages.store g.P.Pages.flush_number g.M.MergeOperator.meant _ _ c.self.view_is c.self.invariant _ _ _ c.in_default.ensures.ok (refl, c.if-self.true)
