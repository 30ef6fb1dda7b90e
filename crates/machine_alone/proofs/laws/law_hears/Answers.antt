use Rattle.machine_alone.proofs.Hearing.{hears_runs}
use Rattle.machine_alone.proofs.laws.law_hears.Goals as goal

pub returns : goal.returns
returns g c = hears_runs g.P.Pages.store g.P.Pages.flush_number g.M.MergeOperator.meant
