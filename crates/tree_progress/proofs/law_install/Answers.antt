use Rattle.tree_progress.proofs.Splitting.{install_lowers}
use Rattle.tree_progress.proofs.law_install.Goals as goal

pub returns : goal.returns
returns c = install_lowers
