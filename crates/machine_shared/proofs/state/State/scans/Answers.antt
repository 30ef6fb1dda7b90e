use Rattle.std.proofs.Common.{subst}
use Rattle.machine_shared.specs.Made.{entry_values}
use Rattle.machine_shared.specs.Sound.{HasScans}
use Rattle.machine_shared.specs.Values.{StateValue}
use Rattle.machine_shared.proofs.ScanStates.{has_scans}
use Rattle.machine_shared.proofs.state.State.scans.Goals as goal

pub returns-clause-gave : goal.returns-clause-gave
returns-clause-gave g c = subst (λ (s : StateValue _ _). HasScans g.P.Pages.store s) c.self.view_is
    (has_scans g.P.Pages.store (record { machine = c.self.inside.machine; opening = c.self.inside.opening; history = entry_values c.self.inside.history.items; scans = c.self.inside.scans }) c.self.invariant.0.crashes _ c.self.invariant.2)
