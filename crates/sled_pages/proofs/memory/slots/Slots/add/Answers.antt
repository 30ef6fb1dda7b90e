use Rattle.std.proofs.Common.{refl}
use Rattle.sled_pages.specs.Blocks.{lies_of, has_of}
use Rattle.sled_pages.proofs.Places.{own_added, places_added, given_added, next_fresh, unused_added}
use Rattle.sled_pages.proofs.memory.slots.Slots.add.Goals as goal

pub returns-clause-slots : goal.returns-clause-slots
returns-clause-slots c = let m = c.args.self.now in own_added m.last m.foreign (lies_of m.own) _ m.given _ _ refl c.put-none.ensures.slots

pub returns-clause-places : goal.returns-clause-places
returns-clause-places c = let m = c.args.self.now in places_added m.last m.foreign (has_of m.own) _ m.given _ refl c.put-none.ensures.places c.requires.room.room

pub returns-clause-given : goal.returns-clause-given
returns-clause-given c = let m = c.args.self.now in given_added m.from_image m.last m.given _ refl

pub returns-clause-fresh : goal.returns-clause-fresh
returns-clause-fresh c = let m = c.args.self.now in next_fresh m.from_image m.last m.given _ refl

pub invariant_of-self-clause-unused : goal.invariant_of-self-clause-unused
invariant_of-self-clause-unused c = let m = c.args.self.now in unused_added m.given (lies_of m.own) _ _ c.put-none.ensures.slots m.unused
