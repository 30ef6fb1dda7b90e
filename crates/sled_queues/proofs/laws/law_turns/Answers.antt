use Rattle.sled_queues.proofs.Turning.{turns_law}
use Rattle.sled_queues.proofs.laws.law_turns.Goals as goal

pub returns : goal.returns
returns c = turns_law
