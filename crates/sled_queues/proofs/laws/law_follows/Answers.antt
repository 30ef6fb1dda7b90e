use Rattle.sled_queues.proofs.Copied.{follows_law}
use Rattle.sled_queues.proofs.laws.law_follows.Goals as goal

pub returns : goal.returns
returns c = follows_law
