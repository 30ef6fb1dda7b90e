use Rattle.std.proofs.Common.{◌∙◌}
use Rattle.sled_pages.proofs.memory.back.join_all.Goals as goal

pub returns-in_err-join-clause-places : goal.returns-in_err-join-clause-places
returns-in_err-join-clause-places c = c.join.ensures.places ∙ c.loop-pid.invariant.places
