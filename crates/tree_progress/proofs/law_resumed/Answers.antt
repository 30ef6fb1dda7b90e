use Rattle.tree_progress.proofs.Resuming.{resumed_law}
use Rattle.tree_progress.proofs.law_resumed.Goals as goal

pub returns : goal.returns
returns c = resumed_law
