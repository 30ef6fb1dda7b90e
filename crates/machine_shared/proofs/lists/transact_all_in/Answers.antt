use Rattle.machine_shared.specs.UnderLock.{IsDone}
use Rattle.machine_shared.proofs.lists.transact_all_in.Goals as goal

pub returns-in-Some-clause-under_lock : goal.returns-in-Some-clause-under_lock
returns-in-Some-clause-under_lock g c = IsDone (record { old = c.in-Some.state; new = c.transact_all-ended.new.state; before = c.audit.ensures.held; after = c.audit-in-Some.ensures.held; is = c.transact_all-ended.ensures.does })
