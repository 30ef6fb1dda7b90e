use Rattle.call_laws.proofs.Transacted.{transacts}
use Rattle.call_laws.proofs.laws.law_transaction.Goals as goal

pub returns : goal.returns
returns g c = transacts g.P.Pages.store g.P.Pages.flush_number g.M.MergeOperator.meant _ _
