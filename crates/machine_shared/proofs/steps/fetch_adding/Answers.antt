use Rattle.machine_shared.specs.UnderLock.{IsDone}
use Rattle.machine_shared.proofs.steps.fetch_adding.Goals as goal

pub returns-in-Some-clause-under_lock : goal.returns-in-Some-clause-under_lock
returns-in-Some-clause-under_lock g c = IsDone (record { old = _; new = c.fetch-fetched.new.self; before = c.audit.ensures.held; after = c.audit-in-Some.ensures.held; is = c.fetch-fetched.ensures.once })
