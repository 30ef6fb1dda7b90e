use Rattle.std.proofs.Common.{inl}
use Rattle.sled_files.proofs.opening.open_found.Goals as goal

pub returns-in-Ok-clause-ok : goal.returns-in-Ok-clause-ok
returns-in-Ok-clause-ok c first second one two = c.in-Ok.ensures.ok first second (rw c.in-Some-two.is at two) (inl (rw c.in-None.is at one))

pub returns-in-Ok-open_one-clause-ok : goal.returns-in-Ok-open_one-clause-ok
returns-in-Ok-open_one-clause-ok c first second one two = c.in-Ok-open_one.ensures.ok first second (rw c.in-Some.is at one) (inl (rw c.in-None-two-2.is at two))
