use Rattle.machine_alone.proofs.Runs.{steps_made}
use Rattle.machine_alone.proofs.laws.law_steps.Goals as goal

pub returns : goal.returns
returns g c = steps_made g.P.Pages.store g.P.Pages.flush_number g.M.MergeOperator.meant
