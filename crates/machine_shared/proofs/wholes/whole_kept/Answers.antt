use Rattle.machine_shared.proofs.WholeTests.{kept_twice}
use Rattle.machine_shared.proofs.wholes.whole_kept.Goals as goal

pub returns-clause-again : goal.returns-clause-again
returns-clause-again g c = kept_twice c.args.whole c.whole_kept.result.0 c.whole_kept.result.1 c.whole_kept.ensures.kept
