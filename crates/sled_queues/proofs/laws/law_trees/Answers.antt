use Rattle.sled_queues.proofs.Numbering.{trees_law}
use Rattle.sled_queues.proofs.laws.law_trees.Goals as goal

pub returns : goal.returns
returns c = trees_law
