use Rattle.example_shared.proofs.Remaining.{queue_law}
use Rattle.example_shared.proofs.queueing.law_queue.Goals as goal

pub returns : goal.returns
returns c = queue_law
