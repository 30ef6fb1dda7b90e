use Rattle.tree_progress.proofs.Capping.{cap_lowers}
use Rattle.tree_progress.proofs.law_cap.Goals as goal

pub returns : goal.returns
returns c = cap_lowers
