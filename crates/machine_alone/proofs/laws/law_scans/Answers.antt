use Rattle.machine_alone.proofs.Scanning.{scans_made}
use Rattle.machine_alone.proofs.laws.law_scans.Goals as goal

pub returns : goal.returns
returns g c = scans_made g.P.Pages.store g.P.Pages.flush_number g.M.MergeOperator.meant
