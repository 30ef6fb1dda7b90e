use Rattle.std.proofs.Common.{refl, subst}
use Rattle.sled_nodes.specs.Order.{Key}
use Rattle.sled_model.specs.declared.call.Whole.TheVariants.{Watch}
use Rattle.sled.specs.Watch.{WatchesDb, RefusesWatch}
use Rattle.sled.proofs.Subscribing.{watch_decided, watch_refused}
use Rattle.machine_alone.proofs.Wholes.{decided_machine, refused_machine}
use Rattle.machine_alone.proofs.Keeping.{told_decided, told_refused}
use Rattle.machine_alone.proofs.machine.Machine.watch.Goals as goal

pub returns-in-Err : goal.returns-in-Err
returns-in-Err g c =
    let r = subst (λ (p : Key). RefusesWatch g.P.Pages.store g.M.MergeOperator.meant c.self.inside.db c.args.tree.now p c.in-Err.e c.watch_prefix.new.self) c.as_ref.ensures c.in-Err.ensures.err in
    told_refused g.P.Pages.store g.P.Pages.flush_number g.M.MergeOperator.meant g.K.Keep.kept _ _ c.self.view_is c.self.invariant (Watch c.args.tree.now c.args.prefix.now) tt _ _ c.in-Err.e 0 c.refused.ensures (watch_refused g.P.Pages.store g.M.MergeOperator.meant _ _ _ _ _ r) tt tt refl

pub returns : goal.returns
returns g c =
    let w = subst (λ (p : Key). WatchesDb g.P.Pages.store g.M.MergeOperator.meant c.self.inside.db c.args.tree.now p c.in-Ok.subscriber c.watch_prefix.new.self) c.as_ref.ensures c.in-Ok.ensures.ok in
    told_decided g.P.Pages.store g.P.Pages.flush_number g.M.MergeOperator.meant g.K.Keep.kept _ _ c.self.view_is c.self.invariant (Watch c.args.tree.now c.args.prefix.now) tt _ _ _ 0 c.decided.ensures (watch_decided g.P.Pages.store g.M.MergeOperator.meant _ _ _ _ _ w) tt refl refl

pub invariant_of-self : goal.invariant_of-self
invariant_of-self g c = refused_machine g.P.Pages.store g.P.Pages.flush_number g.M.MergeOperator.meant _ _ c.self.view_is c.self.invariant (Watch c.args.tree.now c.as_ref.result.now) tt _ _ (watch_refused g.P.Pages.store g.M.MergeOperator.meant _ _ _ _ _ c.in-Err.ensures.err)

pub invariant_of-self-2 : goal.invariant_of-self-2
invariant_of-self-2 g c = decided_machine g.P.Pages.store g.P.Pages.flush_number g.M.MergeOperator.meant _ _ c.self.view_is c.self.invariant (Watch c.args.tree.now c.as_ref.result.now) tt _ _ (watch_decided g.P.Pages.store g.M.MergeOperator.meant _ _ _ _ _ c.in-Ok.ensures.ok)
