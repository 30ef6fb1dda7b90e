use Rattle.tree_progress.proofs.Alone.{alone_law}
use Rattle.tree_progress.proofs.law_alone.Goals as goal

pub returns : goal.returns
returns c = alone_law
