use Rattle.std.proofs.Common.{ap, ◌∙◌, Ok}
use Rattle.tree_groups.proofs.Ready.{again_made, again_stopped, root_made, root_stopped, unread_stopped}
use Rattle.tree_groups.proofs.leaf.write_again.Goals as goal

pub returns-in-Err-clause-err : goal.returns-in-Err-clause-err
returns-in-Err-clause-err g c = unread_stopped _ _ _ _ c.in-Err.ensures.err

pub returns-in-Ok-true-clause-ok : goal.returns-in-Ok-true-clause-ok
returns-in-Ok-true-clause-ok g c = again_made _ _ _ _ _ _ c.link_write.ensures (c.in-Ok-true.is ∙ ap Ok c.in-Ok-true.field-0-test) (rw c.in-Ok-Some.field-0-is at c.in-Ok-Some.ensures.ok)

pub returns-in-Err-link_write-clause-err : goal.returns-in-Err-link_write-clause-err
returns-in-Err-link_write-clause-err g c = again_stopped _ _ _ _ _ _ c.link_write.ensures _ c.in-Err-link_write.is (rw c.in-Ok-Some.field-0-is at c.in-Ok-Some.ensures.ok)

pub returns-in-Ok-None-clause-ok : goal.returns-in-Ok-None-clause-ok
returns-in-Ok-None-clause-ok g c = root_made _ _ _ _ _ c.write_from_root.ensures.ok

pub returns-in-Ok-None-clause-err : goal.returns-in-Ok-None-clause-err
returns-in-Ok-None-clause-err g c = root_stopped _ _ _ _ _ c.write_from_root.ensures.err
