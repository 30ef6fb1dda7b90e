use Rattle.sled_queues.proofs.Hearing.{hears_all_law}
use Rattle.sled_queues.proofs.laws.law_hears_all.Goals as goal

pub returns : goal.returns
returns c = hears_all_law
