use Rattle.std.proofs.Common.{subst}
use Rattle.sled_tree.specs.declared.flight.Job.{Job}
use Rattle.machine_shared.specs.UnderLock.{EndsUnderLock}
use Rattle.machine_shared.specs.Values.{CallerValue}
use Rattle.machine_shared.proofs.UnderLocks.{caller_is}
use Rattle.machine_shared.proofs.handle.Handle.call.Goals as goal

pub returns-in-On-clause-under_lock : goal.returns-in-On-clause-under_lock
returns-in-On-clause-under_lock g c =
    subst (λ (m : CallerValue). EndsUnderLock g.P.Pages.store g.P.Pages.flush_number g.M.MergeOperator.meant c.args.tree.now c.args.call c.steps.result m c.steps.new.self) (caller_is c.begin_on.new.self c.args.self.now.number c.args.self.now.made c.begin_on.ensures.number c.in-On.ensures.made.1)
    (subst (λ (j : Job). EndsUnderLock g.P.Pages.store g.P.Pages.flush_number g.M.MergeOperator.meant j.tree j.call c.steps.result c.begin_on.new.self c.steps.new.self) c.in-On.ensures.made.0.first c.steps.ensures.under_lock)
