use Rattle.tree_progress.proofs.Halves.{halves_law}
use Rattle.tree_progress.proofs.law_halves.Goals as goal

pub returns : goal.returns
returns c = halves_law
