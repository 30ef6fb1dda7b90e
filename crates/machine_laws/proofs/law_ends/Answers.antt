use Rattle.machine_laws.proofs.Ending.{ends_law}
use Rattle.machine_laws.proofs.law_ends.Goals as goal

pub returns : goal.returns
returns g c = ends_law g.P.Pages.store g.P.Pages.flush_number g.M.MergeOperator.meant
