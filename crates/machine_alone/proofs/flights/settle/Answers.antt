use Rattle.std.proofs.Common.{refl, sym, ap, ◌∙◌}
use Rattle.std.specs.Ordering.{nat_cmp}
use Rattle.std.specs.BTreeMap.{get}
use Rattle.sled_store.specs.Update.{put_at}
use Rattle.machine_alone.specs.StepsInSlot.{flight_after}
use Rattle.machine_alone.proofs.Steps.{stays_after}
use Rattle.machine_alone.proofs.flights.settle.Goals as goal

pub returns-in-Moved-clause-stays : goal.returns-in-Moved-clause-stays
returns-in-Moved-clause-stays c flight there n = stays_after (get nat_cmp c.args.flights.now) c.args.slot c.args.went _ flight c.in-Moved.is refl there n

pub returns-in-Yielded-clause-stays : goal.returns-in-Yielded-clause-stays
returns-in-Yielded-clause-stays c flight there n = stays_after (get nat_cmp c.args.flights.now) c.args.slot c.args.went _ flight c.in-Yielded.is refl there n

pub returns-in-Decided-clause-stays : goal.returns-in-Decided-clause-stays
returns-in-Decided-clause-stays c flight there n = c.remove.ensures.gone n ∙ ap (λ w. put_at (get nat_cmp c.args.flights.now) c.args.slot (flight_after w flight) n) (sym c.in-Decided.is)

pub returns-in-Refused-clause-stays : goal.returns-in-Refused-clause-stays
returns-in-Refused-clause-stays c flight there n = c.remove-in-Refused.ensures.gone n ∙ ap (λ w. put_at (get nat_cmp c.args.flights.now) c.args.slot (flight_after w flight) n) (sym c.in-Refused.is)
