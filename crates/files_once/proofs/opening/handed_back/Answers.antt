use Rattle.sled_once.specs.Once.{outcomes_of}
use Rattle.files_once.proofs.Left.{no_more}
use Rattle.files_once.proofs.opening.handed_back.Goals as goal

pub returns-in-Ok-clause-read : goal.returns-in-Ok-clause-read
returns-in-Ok-clause-read g c = no_more (outcomes_of c.args.once) (g.D.Disk.may_leave c.in-Ok.disk) c.in-Ok.ensures.left
