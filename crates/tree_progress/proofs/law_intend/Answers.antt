use Rattle.tree_progress.proofs.Intending.{intend_lowers}
use Rattle.tree_progress.proofs.law_intend.Goals as goal

pub returns : goal.returns
returns c = intend_lowers
