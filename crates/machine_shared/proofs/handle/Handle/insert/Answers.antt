use Rattle.machine_shared.proofs.handle.Handle.insert.Goals as goal

pub returns-clause-under_lock : goal.returns-clause-under_lock
returns-clause-under_lock g c = c.call_made.ensures.under_lock _ c.insert.ensures.ok
