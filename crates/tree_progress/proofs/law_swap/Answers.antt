use Rattle.tree_progress.proofs.Hoisting.{swap_lowers}
use Rattle.tree_progress.proofs.law_swap.Goals as goal

pub returns : goal.returns
returns c = swap_lowers
