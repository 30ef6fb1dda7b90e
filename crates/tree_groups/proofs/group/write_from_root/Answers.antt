use Rattle.tree_groups.proofs.Ready.{not_begun}
use Rattle.tree_groups.proofs.group.write_from_root.Goals as goal

pub returns-in-Err-clause-err : goal.returns-in-Err-clause-err
returns-in-Err-clause-err g c = not_begun _ _ _ c.in-Err.ensures.err
