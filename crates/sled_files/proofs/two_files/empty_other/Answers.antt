use Rattle.sled_files.proofs.Counted.{caused_first, caused_second}
use Rattle.sled_files.proofs.two_files.empty_other.Goals as goal

pub empty-requires : goal.empty-requires
empty-requires g c = record { on_disk = rw c.if-is_second.true at c.requires.on_disk }

pub empty-requires-else-is_second : goal.empty-requires-else-is_second
empty-requires-else-is_second g c = record { on_disk = rw c.if-is_second.false at c.requires.on_disk }

pub returns-then-is_second-clause-any_moment : goal.returns-then-is_second-clause-any_moment
returns-then-is_second-clause-any_moment g c = rw c.if-is_second.true c.empty.ensures.any_moment

pub returns-else-is_second-clause-any_moment : goal.returns-else-is_second-clause-any_moment
returns-else-is_second-clause-any_moment g c = rw c.if-is_second.false c.empty-else-is_second.ensures.any_moment

pub returns-then-is_second-clause-cause : goal.returns-then-is_second-clause-cause
returns-then-is_second-clause-cause g c = caused_first c.empty.result _ _ _ c.empty.ensures.cause

pub returns-else-is_second-clause-cause : goal.returns-else-is_second-clause-cause
returns-else-is_second-clause-cause g c = caused_second c.empty-else-is_second.result _ _ _ c.empty-else-is_second.ensures.cause
