use Rattle.call_laws.proofs.Recording.{joins}
use Rattle.call_laws.proofs.laws.law_joined.Goals as goal

pub returns : goal.returns
returns g c = joins g.P.Pages.store g.P.Pages.flush_number g.M.MergeOperator.meant
