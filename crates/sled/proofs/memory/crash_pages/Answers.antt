use Rattle.sled.proofs.Reopening.{left_is_well, left_is_calm}
use Rattle.sled.proofs.memory.crash_pages.Goals as goal

pub returns-clause-well : goal.returns-clause-well
returns-clause-well c = left_is_well _ _ _ c.in_ok-left.ensures.ok c.requires

pub returns-clause-no_group : goal.returns-clause-no_group
returns-clause-no_group c = left_is_calm _ _ _ c.in_ok-left.ensures.ok
