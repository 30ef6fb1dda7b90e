use Rattle.sled_nodes.proofs.Basics.{err_weaker}
use Rattle.machine_alone.proofs.Machines.{short_as}
use Rattle.machine_alone.proofs.machine.Machine.admit.Goals as goal

pub returns-clause-err : goal.returns-clause-err
returns-clause-err g c = err_weaker _ _ (λ e m. short_as g.P.Pages.store g.P.Pages.flush_number g.M.MergeOperator.meant _ _ c.self.view_is c.self.invariant _ _ e c.in_default.ensures.tested m) c.clone.result c.clone.ensures.err
