use Rattle.tree_reads.proofs.Ranging.{reversed_none}
use Rattle.tree_reads.proofs.iter.pairs_of.Goals as goal

pub returns-clause-none : goal.returns-clause-none
returns-clause-none g c = reversed_none _ _ _
