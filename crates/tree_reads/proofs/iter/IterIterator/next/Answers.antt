use Rattle.tree_reads.proofs.Iterating.{next_found}
use Rattle.tree_reads.proofs.iter.IterIterator.next.Goals as goal

pub returns-in-Ok-Some-clause-steps : goal.returns-in-Ok-Some-clause-steps
returns-in-Ok-Some-clause-steps g c = next_found g.R.Reads.store _ _ _ _ _ _ _ c.self.view_is c.if-self.false _ _ c.in-Ok-Some.field-0-is _ _ c.lend_bound.ensures c.in-Ok-Some.ensures.ok
