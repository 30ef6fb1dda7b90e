use Rattle.std.proofs.Common.{refl}
use Rattle.sled_model.specs.declared.call.Whole.TheVariants.{Unsubscribe}
use Rattle.sled.proofs.Subscribing.{unsubscribe_decided}
use Rattle.machine_alone.proofs.Wholes.{decided_machine}
use Rattle.machine_alone.proofs.Keeping.{told_decided}
use Rattle.machine_alone.proofs.machine.Machine.unsubscribe.Goals as goal

pub returns : goal.returns
returns g c = told_decided g.P.Pages.store g.P.Pages.flush_number g.M.MergeOperator.meant g.K.Keep.kept _ _ c.self.view_is c.self.invariant (Unsubscribe c.args.subscriber.now) tt _ _ _ 0 c.decided.ensures (unsubscribe_decided g.P.Pages.store g.M.MergeOperator.meant _ _ _ c.unsubscribe.ensures.ends) tt refl refl

pub invariant_of-self : goal.invariant_of-self
invariant_of-self g c = decided_machine g.P.Pages.store g.P.Pages.flush_number g.M.MergeOperator.meant _ _ c.self.view_is c.self.invariant (Unsubscribe c.args.subscriber.now) tt _ _ (unsubscribe_decided g.P.Pages.store g.M.MergeOperator.meant _ _ _ c.unsubscribe.ensures.ends)
