use Rattle.std.proofs.Common.{ap}
use Rattle.std.proofs.lemmas.Result.{on_ok_weaker}
use Rattle.sled_pages.specs.Blocks.{lies_of, has_of}
use Rattle.sled_pages.specs.Slots.{slot_in}
use Rattle.sled_pages.proofs.Places.{places_more, unused_same}
use Rattle.sled_pages.proofs.memory.slots.Slots.reserve.Goals as goal

pub returns-clause-slots : goal.returns-clause-slots
returns-clause-slots c = let m = c.args.self.now in ap (slot_in m.last m.foreign) c.make.ensures.slots

pub returns-clause-places : goal.returns-clause-places
returns-clause-places c = let m = c.args.self.now in places_more m.last m.foreign m.given (has_of m.own) _ c.make.ensures.places

pub returns-clause-room : goal.returns-clause-room
returns-clause-room c = on_ok_weaker c.make.result (λ e. record { room = e }) c.make.ensures.room

pub invariant_of-self-clause-unused : goal.invariant_of-self-clause-unused
invariant_of-self-clause-unused c = let m = c.args.self.now in unused_same m.given (lies_of m.own) _ c.make.ensures.slots m.unused
