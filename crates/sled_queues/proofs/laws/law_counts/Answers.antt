use Rattle.sled_queues.proofs.Hearing.{counts_law}
use Rattle.sled_queues.proofs.laws.law_counts.Goals as goal

pub returns : goal.returns
returns c = counts_law
