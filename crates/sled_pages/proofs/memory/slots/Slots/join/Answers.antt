use Rattle.std.proofs.Common.{ap, sym, ◌∙◌}
use Rattle.sled_pages.specs.Slots.{slots_of}
use Rattle.sled_pages.proofs.Kept.{placed_here}
use Rattle.sled_pages.proofs.Linked.{unchanged}
use Rattle.sled_pages.proofs.memory.slots.Slots.join.Goals as goal

pub put-none-requires : goal.put-none-requires
put-none-requires c = ap (λ f. f c.args.pid) c.put.ensures.places ∙ placed_here c.args.self.now c.args.pid c.in-Some.slot (sym c.put.ensures.was ∙ c.in-Some.is)

pub returns-in-Some-clause-slots : goal.returns-in-Some-clause-slots
returns-in-Some-clause-slots c =
    unchanged c.args.pid (slots_of c.args.self.now) _ _ _ c.in-Some.slot c.join-done.new.self c.put.ensures.was c.in-Some.is c.put.ensures.slots c.put-none.ensures.slots c.join-done.ensures.same

pub returns-in-Some-clause-places : goal.returns-in-Some-clause-places
returns-in-Some-clause-places c = c.put-none.ensures.places ∙ c.put.ensures.places
