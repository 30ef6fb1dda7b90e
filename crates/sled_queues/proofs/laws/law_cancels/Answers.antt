use Rattle.sled_queues.proofs.Lawful.{cancels_law}
use Rattle.sled_queues.proofs.laws.law_cancels.Goals as goal

pub returns : goal.returns
returns c = cancels_law
