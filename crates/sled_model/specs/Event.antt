-- Events.
use Rattle.sled_nodes.specs.Order.{Key}
use Rattle.sled_model.specs.declared.event.Event.{Event}
use Rattle.sled_model.specs.declared.event.Event.TheVariants.{Insert, Remove}

-- the key that an event speaks of
abbrev pub key_of_event : Event → Key
key_of_event (Insert key value) = key
key_of_event (Remove key) = key
