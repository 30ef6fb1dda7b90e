use Rattle.std.proofs.Common.{IfErr, refl, subst}
use Rattle.sled_model.specs.Collections.{contents_of}
use Rattle.sled_model.specs.Imports.{parts_of}
use Rattle.sled_model.specs.declared.call.Whole.TheVariants.{Import}
use Rattle.sled_model.specs.declared.reply.Reply.TheVariants.{Done}
use Rattle.sled.specs.Imports.{ImportDecided, ImportsBySteps}
use Rattle.sled.specs.Parts.{ImportsParts, ImportRefusedAfter}
use Rattle.sled.proofs.Importing.{import_whole, import_whole_refused, done_here}
use Rattle.machine_alone.proofs.Wholes.{decided_machine, refused_machine}
use Rattle.machine_alone.proofs.Keeping.{told_decided, told_refused}
use Rattle.machine_alone.proofs.machine.Machine.import.Goals as goal

pub returns : goal.returns
returns g c =
    told_decided g.P.Pages.store g.P.Pages.flush_number g.M.MergeOperator.meant g.K.Keep.kept _ _ c.self.view_is c.self.invariant (Import c.args.collections.now) tt c.import_counted-done.new.self _ Done c.import_counted-done.result.1 c.decided.ensures
    (import_whole g.P.Pages.store g.M.MergeOperator.meant c.self.inside.db c.import_counted-done.new.self c.args.collections.now (subst (λ xs. ImportDecided g.P.Pages.store g.M.MergeOperator.meant c.self.inside.db (contents_of xs) c.import_counted-done.new.self) c.as_slice.ensures.value (done_here c.import_counted-done.result.0 c.in_default.not-Err c.import_counted-done.ensures.ok)))
    (subst (λ xs. ImportsBySteps g.P.Pages.store g.M.MergeOperator.meant c.self.inside.db (parts_of (contents_of xs)) c.import_counted-done.new.self) c.as_slice.ensures.value (done_here c.import_counted-done.result.0 c.in_default.not-Err c.import_counted-done.ensures.steps))
    refl
    (subst (λ xs. ImportsParts (contents_of xs) c.import_counted-done.result.1) c.as_slice.ensures.value (done_here c.import_counted-done.result.0 c.in_default.not-Err c.import_counted-done.ensures.parts))

pub returns-in-Err : goal.returns-in-Err
returns-in-Err g c =
    let after = (subst (λ xs. ImportRefusedAfter g.P.Pages.store g.M.MergeOperator.meant c.self.inside.db (contents_of xs) c.import_counted-done.result.1 c.in-Err.e c.import_counted-done.new.self) c.as_slice.ensures.value (subst (λ r. IfErr r (λ e. ImportRefusedAfter g.P.Pages.store g.M.MergeOperator.meant c.self.inside.db (contents_of c.as_slice.result.now) c.import_counted-done.result.1 e c.import_counted-done.new.self)) c.in-Err.is c.import_counted-done.ensures.err)) in
    told_refused g.P.Pages.store g.P.Pages.flush_number g.M.MergeOperator.meant g.K.Keep.kept _ _ c.self.view_is c.self.invariant (Import c.args.collections.now) tt c.import_counted-done.new.self _ c.in-Err.e c.import_counted-done.result.1 c.refused.ensures
    (import_whole_refused g.P.Pages.store g.M.MergeOperator.meant c.self.inside.db c.import_counted-done.new.self c.args.collections.now c.in-Err.e after.is) tt after.is after

pub invariant_of-self-2 : goal.invariant_of-self-2
invariant_of-self-2 g c = decided_machine g.P.Pages.store g.P.Pages.flush_number g.M.MergeOperator.meant _ _ c.self.view_is c.self.invariant (Import c.args.collections.now) tt _ Done (import_whole g.P.Pages.store g.M.MergeOperator.meant c.self.inside.db c.import_counted-done.new.self c.args.collections.now (subst (λ xs. ImportDecided g.P.Pages.store g.M.MergeOperator.meant c.self.inside.db (contents_of xs) c.import_counted-done.new.self) c.as_slice.ensures.value (done_here c.import_counted-done.result.0 c.in_default.not-Err c.import_counted-done.ensures.ok)))

pub invariant_of-self : goal.invariant_of-self
invariant_of-self g c =
    let after = (subst (λ xs. ImportRefusedAfter g.P.Pages.store g.M.MergeOperator.meant c.self.inside.db (contents_of xs) c.import_counted-done.result.1 c.in-Err.e c.import_counted-done.new.self) c.as_slice.ensures.value (subst (λ r. IfErr r (λ e. ImportRefusedAfter g.P.Pages.store g.M.MergeOperator.meant c.self.inside.db (contents_of c.as_slice.result.now) c.import_counted-done.result.1 e c.import_counted-done.new.self)) c.in-Err.is c.import_counted-done.ensures.err)) in
    refused_machine g.P.Pages.store g.P.Pages.flush_number g.M.MergeOperator.meant _ _ c.self.view_is c.self.invariant (Import c.args.collections.now) tt _ c.in-Err.e (import_whole_refused g.P.Pages.store g.M.MergeOperator.meant c.self.inside.db c.import_counted-done.new.self c.args.collections.now c.in-Err.e after.is)
