use Rattle.direct_laws.proofs.Counting.{finish_law}
use Rattle.direct_laws.proofs.law_finish.Goals as goal

pub returns : goal.returns
returns g c = finish_law g.P.Pages.store g.M.MergeOperator.meant
