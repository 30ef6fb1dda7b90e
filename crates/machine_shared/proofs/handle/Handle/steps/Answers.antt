use Rattle.std.proofs.Common.{subst}
use Rattle.sled_tree.specs.declared.flight.Job.{Job}
use Rattle.machine_shared.specs.UnderLock.{EndsUnderLock}
use Rattle.machine_shared.specs.Values.{CallerValue}
use Rattle.machine_shared.proofs.UnderLocks.{caller_is}
use Rattle.machine_shared.proofs.handle.Handle.steps.Goals as goal

pub returns-in-Ended-clause-under_lock : goal.returns-in-Ended-clause-under_lock
returns-in-Ended-clause-under_lock g c =
    subst (λ (m : CallerValue). EndsUnderLock g.P.Pages.store g.P.Pages.flush_number g.M.MergeOperator.meant c.args.jobs.0.tree c.args.jobs.0.call c.in-Ended.outcome m c.step_on.new.self) (caller_is c.loop.self c.args.self.now.number c.args.self.now.made c.loop.invariant.1 c.loop.invariant.0)
    (subst (λ (js : Job × Job). EndsUnderLock g.P.Pages.store g.P.Pages.flush_number g.M.MergeOperator.meant js.0.tree js.0.call c.in-Ended.outcome c.loop.self c.step_on.new.self) c.loop.invariant.2 c.in-Ended.ensures.ends)
