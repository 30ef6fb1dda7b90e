use Rattle.sled_queues.proofs.Turning.{heard_law}
use Rattle.sled_queues.proofs.laws.law_heard.Goals as goal

pub returns : goal.returns
returns c = heard_law
