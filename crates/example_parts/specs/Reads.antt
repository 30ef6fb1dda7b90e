-- What a reader finds in the maps of a database.
use Rattle.std.specs.Prelude.{Option, Some, None}
use Rattle.std.specs.FinMap.Entries.{find}
use Rattle.sled_nodes.specs.Order.{Key, key_cmp}
use Rattle.sled_store.specs.Store.{Store}
use Rattle.sled_model.specs.Maps.{Map, Maps, Merge}
use Rattle.sled_model.specs.State.{maps_of}
use Rattle.sled.specs.Values.{DbValue, db_state}

-- the maps of a database
abbrev pub maps_now : {P M : Type 0} → (P → Store) → (M → Merge) → DbValue P M → Maps
maps_now store meant d = maps_of (db_state store meant d)

-- the value at a key of a map, if there are the map and the key
abbrev pub found_in : Option Map → Key → Option Key
found_in None key = None
found_in (Some map) key = find key_cmp key map
