use Rattle.tree_progress.proofs.Confirming.{confirm_lowers}
use Rattle.tree_progress.proofs.law_confirm.Goals as goal

pub returns : goal.returns
returns c = confirm_lowers
