use Rattle.tree_progress.proofs.Receiving.{receiving_lowers}
use Rattle.tree_progress.proofs.law_receive.Goals as goal

pub returns : goal.returns
returns c = receiving_lowers
