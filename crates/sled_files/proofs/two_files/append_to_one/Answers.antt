use Rattle.sled_files.proofs.Counted.{caused_first, caused_second}
use Rattle.sled_files.proofs.two_files.append_to_one.Goals as goal

pub returns-then-is_second-clause-next : goal.returns-then-is_second-clause-next
returns-then-is_second-clause-next g c = rw c.if-is_second.true c.append.ensures.next

pub returns-then-is_second-clause-any_moment : goal.returns-then-is_second-clause-any_moment
returns-then-is_second-clause-any_moment g c = rw c.if-is_second.true c.append.ensures.any_moment

pub returns-else-is_second-clause-next : goal.returns-else-is_second-clause-next
returns-else-is_second-clause-next g c = rw c.if-is_second.false c.append-else-is_second.ensures.next

pub returns-else-is_second-clause-any_moment : goal.returns-else-is_second-clause-any_moment
returns-else-is_second-clause-any_moment g c = rw c.if-is_second.false c.append-else-is_second.ensures.any_moment

pub returns-then-is_second-clause-cause : goal.returns-then-is_second-clause-cause
returns-then-is_second-clause-cause g c = caused_second c.append.result _ _ _ c.append.ensures.cause

pub returns-else-is_second-clause-cause : goal.returns-else-is_second-clause-cause
returns-else-is_second-clause-cause g c = caused_first c.append-else-is_second.result _ _ _ c.append-else-is_second.ensures.cause
