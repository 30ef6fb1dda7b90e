use Rattle.std.proofs.Common.{refl}
use Rattle.sled_model.specs.declared.call.Whole.TheVariants.{Flush}
use Rattle.machine_alone.proofs.Keeping.{keeps_step}
use Rattle.machine_alone.proofs.Machines.{flushed_as, flush_refused_as}
use Rattle.machine_alone.proofs.machine.Machine.flush.Goals as goal

pub returns-in-Err : goal.returns-in-Err
returns-in-Err g c = keeps_step g.P.Pages.store g.P.Pages.flush_number g.M.MergeOperator.meant g.K.Keep.kept _ _ Flush _ _ c.refused.ensures (flush_refused_as g.P.Pages.store g.P.Pages.flush_number g.M.MergeOperator.meant _ _ c.self.view_is c.self.invariant _ _ c.in-Err.ensures.err) refl refl

pub returns : goal.returns
returns g c = keeps_step g.P.Pages.store g.P.Pages.flush_number g.M.MergeOperator.meant g.K.Keep.kept _ _ Flush _ _ c.decided.ensures (flushed_as g.P.Pages.store g.P.Pages.flush_number g.M.MergeOperator.meant _ _ c.self.view_is c.self.invariant _ _ c.in-Ok.ensures.ok) refl refl
