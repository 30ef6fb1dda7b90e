use Rattle.machine_laws.proofs.Halving.{machine_halves_law}
use Rattle.machine_laws.proofs.law_machine_halves.Goals as goal

pub returns : goal.returns
returns g c = machine_halves_law g.P.Pages.store g.P.Pages.flush_number g.M.MergeOperator.meant
