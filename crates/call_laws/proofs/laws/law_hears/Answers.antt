use Rattle.call_laws.proofs.Hearing.{hears_calls}
use Rattle.call_laws.proofs.laws.law_hears.Goals as goal

pub returns : goal.returns
returns g c = hears_calls g.P.Pages.store g.P.Pages.flush_number g.M.MergeOperator.meant
