use Rattle.machine_alone.proofs.Machines.{untested_as, memory_as}
use Rattle.machine_alone.proofs.machine.Machine.begin_copy.Goals as goal

pub returns-in-Err : goal.returns-in-Err
returns-in-Err g c = untested_as g.P.Pages.store g.P.Pages.flush_number g.M.MergeOperator.meant _ _ c.self.view_is c.self.invariant _ _ _ c.in-Err.ensures.err

pub returns-in-Err-clone : goal.returns-in-Err-clone
returns-in-Err-clone g c = memory_as g.P.Pages.store g.P.Pages.flush_number g.M.MergeOperator.meant _ _ c.self.view_is c.self.invariant _ _ _ c.in_default.ensures.ok c.in-Err-clone.ensures.err
