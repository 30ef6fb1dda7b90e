use Rattle.example_machines.proofs.Rising.{ids_rise}
use Rattle.example_machines.proofs.ids.law_ids.Goals as goal

pub returns : goal.returns
returns g c = ids_rise g.P.Pages.store g.P.Pages.flush_number g.M.MergeOperator.meant
