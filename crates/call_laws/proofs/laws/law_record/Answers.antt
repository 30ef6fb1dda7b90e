use Rattle.call_laws.proofs.Recording.{records}
use Rattle.call_laws.proofs.laws.law_record.Goals as goal

pub returns : goal.returns
returns g c = records g.P.Pages.store g.P.Pages.flush_number g.M.MergeOperator.meant
