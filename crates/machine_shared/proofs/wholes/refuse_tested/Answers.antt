use Rattle.machine_shared.proofs.WholeTests.{tested}
use Rattle.machine_shared.proofs.wholes.refuse_tested.Goals as goal

pub returns : goal.returns
returns g c = tested g.P.Pages.store g.P.Pages.flush_number g.M.MergeOperator.meant _ _ _ c.whole.result c.whole.ensures c.requires
