-- What a slot keeps after a step of its call.
use Rattle.std.specs.Prelude.{Option, Some, None}
use Rattle.sled_tree.specs.declared.flight.InFlight.{InFlight}
use Rattle.sled_tree.specs.declared.flight.Went.{Went}
use Rattle.sled_tree.specs.declared.flight.Went.TheVariants.{Moved, Yielded, Decided, Refused}

-- what the slot keeps then: the call, if it goes on or gave a pair
abbrev pub flight_after : Went → InFlight → Option InFlight
flight_after Moved g = Some g
flight_after (Yielded key value) g = Some g
flight_after (Decided reply) g = None
flight_after (Refused e) g = None
