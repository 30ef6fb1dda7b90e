use Rattle.example_progress.proofs.Turning.{started}
use Rattle.example_progress.proofs.start.Goals as goal

pub returns-clause-reached : goal.returns-clause-reached
returns-clause-reached g c = started g.P.Pages.store g.P.Pages.flush_number g.M.MergeOperator.meant c.new-machine.result c.new-machine.ensures.flights (record { db = c.audit.ensures.sound; calls = c.audit.ensures.known })
