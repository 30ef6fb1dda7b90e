use Rattle.sled_queues.proofs.Grouped.{group_law}
use Rattle.sled_queues.proofs.laws.law_delivers_all.Goals as goal

pub returns : goal.returns
returns c = group_law
