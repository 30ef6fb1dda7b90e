use Rattle.std.proofs.Common.{refl, subst}
use Rattle.sled_nodes.specs.Order.{Key}
use Rattle.sled_model.specs.declared.call.Whole.TheVariants.{OpenTree}
use Rattle.sled_model.specs.declared.reply.Reply.TheVariants as told
use Rattle.sled.specs.Direct.{WholeDecided, WholeRefused}
use Rattle.sled.specs.Opens.{OpensBySteps, OpenRefusedBySteps}
use Rattle.machine_alone.proofs.Wholes.{decided_machine, refused_machine}
use Rattle.machine_alone.proofs.Keeping.{keeps_decided, told_refused}
use Rattle.machine_alone.proofs.machine.Machine.open_tree.Goals as goal

pub returns-in-Err : goal.returns-in-Err
returns-in-Err g c =
    told_refused g.P.Pages.store g.P.Pages.flush_number g.M.MergeOperator.meant g.K.Keep.kept _ _ c.self.view_is c.self.invariant (OpenTree c.args.name.now) tt _ _ c.in-Err.e 0 c.refused.ensures
    (subst (λ (n : Key). WholeRefused g.P.Pages.store g.M.MergeOperator.meant c.self.inside.db (OpenTree n) c.in-Err.e c.open_tree_keeping.new.self) c.as_ref.ensures c.in-Err.ensures.err) tt
    (subst (λ (n : Key). OpenRefusedBySteps g.P.Pages.store n c.self.inside.db c.in-Err.e c.open_tree_keeping.new.self) c.as_ref.ensures c.in-Err.ensures.refused) refl

pub returns : goal.returns
returns g c =
    keeps_decided g.P.Pages.store g.P.Pages.flush_number g.M.MergeOperator.meant g.K.Keep.kept _ _ c.self.view_is c.self.invariant (OpenTree c.args.name.now) tt _ (told.Tree c.in-Ok.all.0) c.in-Ok.all.1 0
    (subst (λ (n : Key). WholeDecided g.P.Pages.store g.M.MergeOperator.meant c.self.inside.db (OpenTree n) (told.Tree c.in-Ok.all.0) c.open_tree_keeping.new.self) c.as_ref.ensures c.in-Ok.ensures.ok)
    (subst (λ (n : Key). OpensBySteps g.P.Pages.store n c.self.inside.db c.open_tree_keeping.new.self) c.as_ref.ensures c.in-Ok.ensures.steps)
    c.in-Ok.ensures.kept refl

pub invariant_of-self : goal.invariant_of-self
invariant_of-self g c = refused_machine g.P.Pages.store g.P.Pages.flush_number g.M.MergeOperator.meant _ _ c.self.view_is c.self.invariant (OpenTree c.as_ref.result.now) tt _ _ c.in-Err.ensures.err

pub invariant_of-self-2 : goal.invariant_of-self-2
invariant_of-self-2 g c = decided_machine g.P.Pages.store g.P.Pages.flush_number g.M.MergeOperator.meant _ _ c.self.view_is c.self.invariant (OpenTree c.as_ref.result.now) tt _ _ c.in-Ok.ensures.ok
