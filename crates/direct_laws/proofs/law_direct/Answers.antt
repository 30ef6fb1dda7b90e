use Rattle.direct_laws.proofs.Counting.{direct_law}
use Rattle.direct_laws.proofs.law_direct.Goals as goal

pub returns : goal.returns
returns g c = direct_law g.P.Pages.store g.M.MergeOperator.meant
