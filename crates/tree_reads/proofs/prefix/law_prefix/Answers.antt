use Rattle.tree_reads.proofs.Prefixes.{prefix_law}
use Rattle.tree_reads.proofs.prefix.law_prefix.Goals as goal

pub returns : goal.returns
returns c = prefix_law
