use Rattle.sled_queues.proofs.Grouped.{calm_law}
use Rattle.sled_queues.proofs.laws.law_stays_calm.Goals as goal

pub returns : goal.returns
returns c = calm_law
