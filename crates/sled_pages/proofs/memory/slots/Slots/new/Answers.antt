use Rattle.std.proofs.Common.{ap}
use Rattle.sled_pages.proofs.memory.slots.Slots.new.Goals as goal

pub invariant_of-result-clause-unused : goal.invariant_of-result-clause-unused
invariant_of-result-clause-unused c = record { none = λ i h. ap (λ f. f i) c.new-2.ensures.slots }
