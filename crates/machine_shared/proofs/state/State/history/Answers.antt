use Rattle.std.proofs.Common.{subst}
use Rattle.machine_shared.specs.Sound.{HasCrashMaps}
use Rattle.machine_shared.specs.Values.{StateValue}
use Rattle.machine_shared.proofs.state.State.history.Goals as goal

pub returns-clause-crashes : goal.returns-clause-crashes
returns-clause-crashes g c = subst (λ (s : StateValue _ _). HasCrashMaps g.P.Pages.store s) c.self.view_is (record { follow = c.self.invariant.0.crashes; covers = c.self.invariant.0.covers })
