use Rattle.std.proofs.Common.{◌≡◌, Result, IfOk, subst}
use Rattle.sled_nodes.specs.declared.error.Error.{Error}
use Rattle.sled_model.specs.declared.call.Call.{Call}
use Rattle.machine_shared.specs.UnderLock.{EndsUnderLock}
use Rattle.machine_shared.proofs.handle.Handle.call_made.Goals as goal

pub returns-in-Ok-clause-under_lock : goal.returns-in-Ok-clause-under_lock
returns-in-Ok-clause-under_lock g c call is = subst (λ (x : Call). EndsUnderLock g.P.Pages.store g.P.Pages.flush_number g.M.MergeOperator.meant c.args.tree.now x c.call.result c.args.self.now c.call.new.self) (subst (λ (r : Result Call Error). IfOk r (λ it. it ≡ call)) c.in-Ok.is is) c.call.ensures.under_lock
