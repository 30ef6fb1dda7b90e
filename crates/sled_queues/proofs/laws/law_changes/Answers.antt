use Rattle.sled_queues.proofs.Copied.{changes_law}
use Rattle.sled_queues.proofs.laws.law_changes.Goals as goal

pub returns : goal.returns
returns c = changes_law
