use Rattle.std.proofs.Common.{refl}
use Rattle.sled_model.specs.declared.call.Whole.TheVariants.{Next}
use Rattle.sled.proofs.Subscribing.{next_decided}
use Rattle.machine_alone.proofs.Wholes.{decided_machine}
use Rattle.machine_alone.proofs.Keeping.{keeps_decided}
use Rattle.machine_alone.proofs.machine.Machine.next.Goals as goal

pub returns : goal.returns
returns g c = keeps_decided g.P.Pages.store g.P.Pages.flush_number g.M.MergeOperator.meant g.K.Keep.kept _ _ c.self.view_is c.self.invariant (Next c.args.subscriber.now) tt _ _ _ 0 (next_decided g.P.Pages.store g.M.MergeOperator.meant _ _ _ _ c.next-next.ensures.takes) tt c.keep_light-kept.ensures refl

pub invariant_of-self : goal.invariant_of-self
invariant_of-self g c = decided_machine g.P.Pages.store g.P.Pages.flush_number g.M.MergeOperator.meant _ _ c.self.view_is c.self.invariant (Next c.args.subscriber.now) tt _ _ (next_decided g.P.Pages.store g.M.MergeOperator.meant _ _ _ _ c.next-next.ensures.takes)
