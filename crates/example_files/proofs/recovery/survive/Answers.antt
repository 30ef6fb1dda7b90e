use Rattle.example_files.proofs.Found.{survives}
use Rattle.example_files.proofs.recovery.survive.Goals as goal

pub returns-in-Ok-reopen-clause-ok : goal.returns-in-Ok-reopen-clause-ok
returns-in-Ok-reopen-clause-ok g c = survives c.in-Ok.ensures.ok c.in-Ok-reopen.ensures.ok
