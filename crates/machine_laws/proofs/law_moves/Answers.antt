use Rattle.machine_laws.proofs.Moving.{moves_law}
use Rattle.machine_laws.proofs.law_moves.Goals as goal

pub returns : goal.returns
returns g c = moves_law g.P.Pages.store g.P.Pages.flush_number g.M.MergeOperator.meant
