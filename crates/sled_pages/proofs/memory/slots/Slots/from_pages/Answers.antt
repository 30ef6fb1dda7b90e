use Rattle.std.proofs.Common.{ap}
use Rattle.sled_pages.specs.Blocks.{lies_of}
use Rattle.sled_pages.proofs.Laying.{laid, laid_parts, laid_below, numbers_given, least_given}
use Rattle.sled_pages.proofs.memory.slots.Slots.from_pages.Goals as goal

pub returns-clause-ok : goal.returns-clause-ok
returns-clause-ok c =
    let none = c.new.ensures.slots in
    let h = c.in_ok-foreign.ensures.ok in
    record {
      nodes = λ p. laid c.args.pages.items c.in_ok-foreign.foreign (lies_of c.new.result) c.args.least c.in_ok-foreign.last c.in_ok-foreign.next p none h;
      parts = λ p. laid_parts c.args.pages.items c.in_ok-foreign.foreign (lies_of c.new.result) c.args.least c.in_ok-foreign.last c.in_ok-foreign.next p none h;
      given = numbers_given c.args.pages.items c.in_ok-foreign.last 0 h.numbers;
      least_given = λ p k. least_given c.in_ok-foreign.last c.args.least p 0 h.least_is k;
      below = λ p. laid_below c.args.pages.items c.in_ok-foreign.foreign (lies_of c.new.result) c.args.least c.in_ok-foreign.last c.in_ok-foreign.next p none h;
    }

pub invariant_of-result-clause-unused : goal.invariant_of-result-clause-unused
invariant_of-result-clause-unused c = record { none = λ i h. ap (λ f. f i) c.new.ensures.slots }
