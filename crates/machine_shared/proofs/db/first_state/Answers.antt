use Rattle.std.proofs.Common.{ap, subst, sym, length, arith}
use Rattle.machine_shared.specs.Made.{entry_values}
use Rattle.machine_shared.specs.Scans.{AreInOrder, NoneMore}
use Rattle.machine_shared.proofs.Leading.{first_is}
use Rattle.machine_shared.proofs.ScanStates.{first_scans}
use Rattle.machine_shared.proofs.db.first_state.Goals as goal

pub invariant_of-result : goal.invariant_of-result
invariant_of-result g c = (
  first_is g.P.Pages.store c.args.db c.new-machine.result c.args.opening (entry_values c.new.result.items) c.args.calls.total c.requires.sound c.requires.open c.requires.opening c.requires.flushed c.new-machine.ensures.db (ap entry_values c.new.ensures.items) c.requires.none,
  subst (λ l. AreInOrder 0 l (length c.new.result.items)) (sym c.requires.no_scans) (NoneMore (omega arith)),
  first_scans g.P.Pages.store c.new-machine.result _ _ c.args.scans c.requires.no_scans c.new-machine.ensures.flights,
)
