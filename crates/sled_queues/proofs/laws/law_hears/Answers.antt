use Rattle.sled_queues.proofs.Hearing.{hears_law}
use Rattle.sled_queues.proofs.laws.law_hears.Goals as goal

pub returns : goal.returns
returns c = hears_law
