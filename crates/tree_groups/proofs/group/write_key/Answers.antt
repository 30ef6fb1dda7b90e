use Rattle.std.proofs.Common.{ap, ◌∙◌, Ok}
use Rattle.tree_groups.proofs.Ready.{link_made, link_stopped, first_made, first_stopped, leaf_read_made, leaf_read_stopped, late_read_made, late_read_stopped}
use Rattle.tree_groups.proofs.group.write_key.Goals as goal

pub returns-in-Ok-true-clause-ok : goal.returns-in-Ok-true-clause-ok
returns-in-Ok-true-clause-ok g c = link_made _ _ _ _ _ _ c.link_write.ensures (c.in-Ok-true.is ∙ ap Ok c.in-Ok-true.field-0-test) c.in-Some.is

pub returns-in-Err-clause-err : goal.returns-in-Err-clause-err
returns-in-Err-clause-err g c = link_stopped _ _ _ _ _ _ c.link_write.ensures _ c.in-Err.is c.in-Some.is

pub returns-in_default-clause-ok : goal.returns-in_default-clause-ok
returns-in_default-clause-ok g c = first_made _ _ _ _ c.write_from_root.ensures.ok

pub returns-then-eq-clause-ok : goal.returns-then-eq-clause-ok
returns-then-eq-clause-ok g c = leaf_read_made _ _ _ c.in-Some.is _ _ _ c.write_again.ensures.ok

pub returns-in-Ok-false-clause-ok : goal.returns-in-Ok-false-clause-ok
returns-in-Ok-false-clause-ok g c = late_read_made _ _ _ c.in-Some.is _ _ _ _ c.link_write.ensures (c.in-Ok-false.is ∙ ap Ok c.in-Ok-false.field-0-test) _ c.write_again-in-Ok-false.ensures.ok

pub returns-in_default-clause-err : goal.returns-in_default-clause-err
returns-in_default-clause-err g c = first_stopped _ _ _ _ c.write_from_root.ensures.err

pub returns-then-eq-clause-err : goal.returns-then-eq-clause-err
returns-then-eq-clause-err g c = leaf_read_stopped _ _ _ c.in-Some.is _ _ _ c.write_again.ensures.err

pub returns-in-Ok-false-clause-err : goal.returns-in-Ok-false-clause-err
returns-in-Ok-false-clause-err g c = late_read_stopped _ _ _ c.in-Some.is _ _ _ _ c.link_write.ensures (c.in-Ok-false.is ∙ ap Ok c.in-Ok-false.field-0-test) _ c.write_again-in-Ok-false.ensures.err
