use Rattle.std.proofs.Common.{refl, le_of_eq}
use Rattle.machine_shared.specs.Made.{entry_values}
use Rattle.machine_shared.proofs.Leading.{abandon_state}
use Rattle.machine_shared.proofs.ScanStates.{after_abandon}
use Rattle.machine_shared.proofs.state.State.abandon.Goals as goal

pub invariant_of-self : goal.invariant_of-self
invariant_of-self g c =
    let after = abandon_state g.P.Pages.store g.P.Pages.flush_number g.M.MergeOperator.meant c.self.inside.machine c.abandon.new.self c.self.inside.opening _ _ _ _ c.abandon.ensures c.self.invariant.0 in (
      after.0,
      c.self.invariant.1,
      after_abandon g.P.Pages.store g.P.Pages.flush_number g.M.MergeOperator.meant c.self.inside.machine c.abandon.new.self c.self.inside.opening.contents (entry_values c.self.inside.history.items) (entry_values c.self.inside.history.items) c.self.invariant.0.crashes after.0.crashes after.1 (le_of_eq refl) c.self.inside.scans c.self.invariant.2 c.audit.ensures.ascend.is _ _ c.abandon.ensures,
    )
