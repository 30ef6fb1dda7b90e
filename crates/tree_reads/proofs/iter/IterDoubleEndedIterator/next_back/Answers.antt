use Rattle.std.proofs.Common.{◌∙◌}
use Rattle.tree_reads.specs.Cursor.{lower}
use Rattle.tree_reads.proofs.Iterating.{back_found}
use Rattle.tree_reads.proofs.Stepping.{lower_caught, bound_caught}
use Rattle.tree_reads.proofs.iter.IterDoubleEndedIterator.next_back.Goals as goal

pub returns-in-Ok-Some-clause-steps : goal.returns-in-Ok-Some-clause-steps
returns-in-Ok-Some-clause-steps g c = back_found g.R.Reads.store _ _ _ _ _ _ _ c.self.view_is c.if-self.false _ _ c.in-Ok-Some.field-0-is _ _ (lower c.catch_up.new.self)
    (lower_caught c.self.inside.front c.catch_up.new.self c.in_default.ensures.ok)
    (c.lend_bound.ensures ∙ bound_caught c.self.inside.front c.catch_up.new.self c.in_default.ensures.ok)
    c.in-Ok-Some.ensures.ok
