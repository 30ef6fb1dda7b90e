use Rattle.sled_queues.proofs.Copied.{copy_law}
use Rattle.sled_queues.proofs.laws.law_copy.Goals as goal

pub returns : goal.returns
returns c = copy_law
