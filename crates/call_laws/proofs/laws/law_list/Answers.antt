use Rattle.call_laws.proofs.Transacted.{transacts_all}
use Rattle.call_laws.proofs.laws.law_list.Goals as goal

pub returns : goal.returns
returns g c = transacts_all g.P.Pages.store g.P.Pages.flush_number g.M.MergeOperator.meant _ _
