use Rattle.sled_files.proofs.two_files.begin_other.Goals as goal

pub begin_with-requires : goal.begin_with-requires
begin_with-requires g c = record { on_disk = rw c.if-is_second.true at c.requires.on_disk }

pub begin_with-requires-else-is_second : goal.begin_with-requires-else-is_second
begin_with-requires-else-is_second g c = record { on_disk = rw c.if-is_second.false at c.requires.on_disk }

pub returns-then-is_second-clause-any_moment : goal.returns-then-is_second-clause-any_moment
returns-then-is_second-clause-any_moment g c = rw c.if-is_second.true c.begin_with.ensures.any_moment

pub returns-else-is_second-clause-any_moment : goal.returns-else-is_second-clause-any_moment
returns-else-is_second-clause-any_moment g c = rw c.if-is_second.false c.begin_with-else-is_second.ensures.any_moment

pub returns-then-is_second-clause-stands : goal.returns-then-is_second-clause-stands
returns-then-is_second-clause-stands g c = rw c.if-is_second.true c.begin_with.ensures.stands

pub returns-else-is_second-clause-stands : goal.returns-else-is_second-clause-stands
returns-else-is_second-clause-stands g c = rw c.if-is_second.false c.begin_with-else-is_second.ensures.stands
