use Rattle.machine_alone.proofs.Wholes.{group_steps}
use Rattle.machine_alone.proofs.laws.law_group.Goals as goal

pub returns : goal.returns
returns g c = group_steps g.P.Pages.store g.P.Pages.flush_number g.M.MergeOperator.meant
