use Rattle.std.proofs.Common.{Ok, refl, subst, sym}
use Rattle.sled_tree.specs.declared.flight.Job.{Job}
use Rattle.machine_shared.specs.UnderLock.{BeginsCall, BeginsUnderLock, IsNotBegun, UnderLock}
use Rattle.machine_shared.specs.theory.Copied.{EndsStepped}
use Rattle.machine_shared.proofs.UnderLocks.{begins, began_stays, begun_under}
use Rattle.machine_shared.proofs.state.State.begin_on.Goals as goal

pub returns-in-Ok-clause-ends : goal.returns-in-Ok-clause-ends
returns-in-Ok-clause-ends g c = subst (λ (j : Job). EndsStepped g.P.Pages.store g.P.Pages.flush_number g.M.MergeOperator.meant j.tree j.call c.step_on.result c.args.me.now c.step_on.new.me) c.requires.copies.first c.step_on.ensures.ends

pub returns-in-Err-clause-ends : goal.returns-in-Err-clause-ends
returns-in-Err-clause-ends g c = IsNotBegun (subst (λ r. BeginsUnderLock g.P.Pages.store g.P.Pages.flush_number g.M.MergeOperator.meant c.args.tree.now c.args.call r) c.in-Err.is
    (begins g.P.Pages.store g.P.Pages.flush_number g.M.MergeOperator.meant _ c.begin-begun.new.self _ _ c.begin-begun.result c.audit.ensures.held c.audit-2.ensures.held
    c.begin-begun.ensures.ok c.begin-begun.ensures.err c.begin-begun.ensures.history c.begin-begun.ensures.opening c.begin-begun.ensures.scans c.begin-begun.ensures.same_scans)) refl refl

pub returns-in-Ok-clause-began : goal.returns-in-Ok-clause-began
returns-in-Ok-clause-began g c = began_stays g.P.Pages.store g.P.Pages.flush_number g.M.MergeOperator.meant c.args.tree.now c.args.call c.in-Ok.slot c.step_on.result c.step_on.ensures.stays
    (begun_under g.P.Pages.store g.P.Pages.flush_number g.M.MergeOperator.meant c.args.tree.now c.args.call c.in-Ok.slot
    (subst (λ r. BeginsUnderLock g.P.Pages.store g.P.Pages.flush_number g.M.MergeOperator.meant c.args.tree.now c.args.call r) c.in-Ok.is
    (begins g.P.Pages.store g.P.Pages.flush_number g.M.MergeOperator.meant _ c.begin-begun.new.self _ _ c.begin-begun.result c.audit.ensures.held c.audit-2.ensures.held
    c.begin-begun.ensures.ok c.begin-begun.ensures.err c.begin-begun.ensures.history c.begin-begun.ensures.opening c.begin-begun.ensures.scans c.begin-begun.ensures.same_scans)))

pub step_on-requires-clause-began : goal.step_on-requires-clause-began
step_on-requires-clause-began g c κs within = subst (λ (j : Job). UnderLock g.P.Pages.store (BeginsCall g.P.Pages.store g.P.Pages.flush_number g.M.MergeOperator.meant j.tree j.call (Ok c.in-Ok.slot))) (sym c.requires.copies.first)
    (begun_under g.P.Pages.store g.P.Pages.flush_number g.M.MergeOperator.meant c.args.tree.now c.args.call c.in-Ok.slot
    (subst (λ r. BeginsUnderLock g.P.Pages.store g.P.Pages.flush_number g.M.MergeOperator.meant c.args.tree.now c.args.call r) c.in-Ok.is
    (begins g.P.Pages.store g.P.Pages.flush_number g.M.MergeOperator.meant _ c.begin-begun.new.self _ _ c.begin-begun.result c.audit.ensures.held c.audit-2.ensures.held
    c.begin-begun.ensures.ok c.begin-begun.ensures.err c.begin-begun.ensures.history c.begin-begun.ensures.opening c.begin-begun.ensures.scans c.begin-begun.ensures.same_scans)))
