use Rattle.tree_reads.proofs.Stepping.{goes_on, goes_kept}
use Rattle.tree_reads.proofs.cursor.first_within.Goals as goal

pub returns-in-Ok-Some-clause-ok : goal.returns-in-Ok-Some-clause-ok
returns-in-Ok-Some-clause-ok g c = goes_on _ _ c.law_given.ensures c.requires.root _ _ _ _ c.requires.at c.requires.end _ c.in-Ok-Some.field-0-is c.in-Ok-Some.ensures.some

pub returns-in-Ok-Some-clause-kept : goal.returns-in-Ok-Some-clause-kept
returns-in-Ok-Some-clause-kept g c = goes_kept _ _ c.law_given.ensures c.requires.root _ _ _ _ c.requires.at c.requires.end _ c.in-Ok-Some.field-0-is c.in-Ok-Some.ensures.some
