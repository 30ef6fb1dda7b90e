use Rattle.tree_progress.proofs.Stepping.{step_law}
use Rattle.tree_progress.proofs.law_step.Goals as goal

pub returns : goal.returns
returns c = step_law
