use Rattle.std.proofs.Common.{refl, subst}
use Rattle.sled_nodes.specs.Order.{Key}
use Rattle.sled_model.specs.declared.call.Whole.TheVariants.{DropTree}
use Rattle.sled.specs.Drops.{DropsTree, RefusesDrop}
use Rattle.sled.proofs.Removing.{drop_decided, drop_refused}
use Rattle.machine_alone.proofs.Wholes.{decided_machine, refused_machine}
use Rattle.machine_alone.proofs.Keeping.{told_decided, told_refused}
use Rattle.machine_alone.proofs.machine.Machine.drop_tree.Goals as goal

pub returns-in-Err : goal.returns-in-Err
returns-in-Err g c =
    let r = subst (λ (n : Key). RefusesDrop g.P.Pages.store g.M.MergeOperator.meant c.self.inside.db n c.in-Err.e c.drop_tree.new.self) c.as_ref.ensures c.in-Err.ensures.err in
    told_refused g.P.Pages.store g.P.Pages.flush_number g.M.MergeOperator.meant g.K.Keep.kept _ _ c.self.view_is c.self.invariant (DropTree c.args.name.now) tt _ _ c.in-Err.e 0 c.refused.ensures (drop_refused g.P.Pages.store g.M.MergeOperator.meant _ _ _ _ r) tt r refl

pub returns : goal.returns
returns g c =
    let d = subst (λ (n : Key). DropsTree g.P.Pages.store g.M.MergeOperator.meant c.self.inside.db n c.in-Ok.dropped c.drop_tree.new.self) c.as_ref.ensures c.in-Ok.ensures.ok in
    told_decided g.P.Pages.store g.P.Pages.flush_number g.M.MergeOperator.meant g.K.Keep.kept _ _ c.self.view_is c.self.invariant (DropTree c.args.name.now) tt _ _ _ 0 c.decided.ensures (drop_decided g.P.Pages.store g.M.MergeOperator.meant _ _ _ _ d) (_, refl, d) refl refl

pub invariant_of-self : goal.invariant_of-self
invariant_of-self g c = refused_machine g.P.Pages.store g.P.Pages.flush_number g.M.MergeOperator.meant _ _ c.self.view_is c.self.invariant (DropTree c.as_ref.result.now) tt _ _ (drop_refused g.P.Pages.store g.M.MergeOperator.meant _ _ _ _ c.in-Err.ensures.err)

pub invariant_of-self-2 : goal.invariant_of-self-2
invariant_of-self-2 g c = decided_machine g.P.Pages.store g.P.Pages.flush_number g.M.MergeOperator.meant _ _ c.self.view_is c.self.invariant (DropTree c.as_ref.result.now) tt _ _ (drop_decided g.P.Pages.store g.M.MergeOperator.meant _ _ _ _ c.in-Ok.ensures.ok)
