use Rattle.std.proofs.Common.{sym, subst}
use Rattle.std.proofs.lemmas.List.{length-map}
use Rattle.machine_shared.specs.Made.{entry_value, entry_values}
use Rattle.machine_shared.specs.Scans.{AreInOrder}
use Rattle.machine_shared.specs.Sound.{HasCrashMaps, HasScans}
use Rattle.machine_shared.specs.UnderLock.{IsHeld}
use Rattle.machine_shared.specs.Values.{StateValue}
use Rattle.machine_shared.proofs.ScanStates.{has_scans}
use Rattle.machine_shared.proofs.UnderLocks.{held_of}
use Rattle.machine_shared.proofs.state.State.audit.Goals as goal

pub returns-clause-crashes : goal.returns-clause-crashes
returns-clause-crashes g c = subst (λ (s : StateValue _ _). HasCrashMaps g.P.Pages.store s) c.self.view_is (record { follow = c.self.invariant.0.crashes; covers = c.self.invariant.0.covers })

pub returns-clause-scans : goal.returns-clause-scans
returns-clause-scans g c = subst (λ (s : StateValue _ _). HasScans g.P.Pages.store s) c.self.view_is
    (has_scans g.P.Pages.store (record { machine = c.self.inside.machine; opening = c.self.inside.opening; history = entry_values c.self.inside.history.items; scans = c.self.inside.scans }) c.self.invariant.0.crashes _ c.self.invariant.2)

pub returns-clause-held : goal.returns-clause-held
returns-clause-held g c = subst (λ (s : StateValue _ _). IsHeld g.P.Pages.store s) c.self.view_is
    (held_of g.P.Pages.store (record { machine = c.self.inside.machine; opening = c.self.inside.opening; history = entry_values c.self.inside.history.items; scans = c.self.inside.scans }) c.self.inside.calls.total c.self.invariant.0
    (subst (λ n. AreInOrder 0 c.self.inside.scans.notes n) (sym (length-map c.self.inside.history.items entry_value)) c.self.invariant.1) c.self.invariant.2 c.audit.ensures.sound c.audit.ensures.known)
