use Rattle.tree_progress.proofs.Linking.{link_raises}
use Rattle.tree_progress.proofs.law_link.Goals as goal

pub returns : goal.returns
returns c = link_raises
