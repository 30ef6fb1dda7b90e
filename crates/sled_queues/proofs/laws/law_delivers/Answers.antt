use Rattle.sled_queues.proofs.Lawful.{delivers_law}
use Rattle.sled_queues.proofs.laws.law_delivers.Goals as goal

pub returns : goal.returns
returns c = delivers_law
