use Rattle.std.proofs.Common.{IfErr, refl, subst}
use Rattle.sled_model.specs.declared.call.Whole.TheVariants.{Clear}
use Rattle.sled_model.specs.declared.reply.Reply.TheVariants.{Done}
use Rattle.sled.specs.Direct.{WholeRefused}
use Rattle.sled.specs.Pops.{ClearRefusedBySteps}
use Rattle.sled.proofs.Importing.{done_here}
use Rattle.machine_alone.proofs.Wholes.{decided_machine, refused_machine}
use Rattle.machine_alone.proofs.Keeping.{told_decided, told_refused}
use Rattle.machine_alone.proofs.machine.Machine.clear.Goals as goal

pub returns : goal.returns
returns g c =
    told_decided g.P.Pages.store g.P.Pages.flush_number g.M.MergeOperator.meant g.K.Keep.kept _ _ c.self.view_is c.self.invariant (Clear c.args.tree.now) tt c.clear_counted-done.new.self _ Done c.clear_counted-done.result.1 c.decided.ensures
    (done_here c.clear_counted-done.result.0 c.in_default.not-Err c.clear_counted-done.ensures.ok)
    (done_here c.clear_counted-done.result.0 c.in_default.not-Err c.clear_counted-done.ensures.steps)
    refl c.clear_counted-done.ensures.parts

pub returns-in-Err : goal.returns-in-Err
returns-in-Err g c =
    told_refused g.P.Pages.store g.P.Pages.flush_number g.M.MergeOperator.meant g.K.Keep.kept _ _ c.self.view_is c.self.invariant (Clear c.args.tree.now) tt c.clear_counted-done.new.self _ c.in-Err.e c.clear_counted-done.result.1 c.refused.ensures
    (subst (λ r. IfErr r (λ e. WholeRefused g.P.Pages.store g.M.MergeOperator.meant c.self.inside.db (Clear c.args.tree.now) e c.clear_counted-done.new.self)) c.in-Err.is c.clear_counted-done.ensures.err) tt
    (subst (λ r. IfErr r (λ e. ClearRefusedBySteps g.P.Pages.store g.M.MergeOperator.meant c.self.inside.db c.args.tree.now e c.clear_counted-done.new.self)) c.in-Err.is c.clear_counted-done.ensures.refused)
    c.clear_counted-done.ensures.parts

pub invariant_of-self-2 : goal.invariant_of-self-2
invariant_of-self-2 g c = decided_machine g.P.Pages.store g.P.Pages.flush_number g.M.MergeOperator.meant _ _ c.self.view_is c.self.invariant (Clear c.args.tree.now) tt _ Done (done_here c.clear_counted-done.result.0 c.in_default.not-Err c.clear_counted-done.ensures.ok)

pub invariant_of-self : goal.invariant_of-self
invariant_of-self g c = refused_machine g.P.Pages.store g.P.Pages.flush_number g.M.MergeOperator.meant _ _ c.self.view_is c.self.invariant (Clear c.args.tree.now) tt _ c.in-Err.e (subst (λ r. IfErr r (λ e. WholeRefused g.P.Pages.store g.M.MergeOperator.meant c.self.inside.db (Clear c.args.tree.now) e c.clear_counted-done.new.self)) c.in-Err.is c.clear_counted-done.ensures.err)
