-- The maps that collections have.
use Rattle.std.specs.Prelude.{List, [], ◌∷◌, Some, None, if◌then◌else◌}
use Rattle.std.specs.Str.{bytes_eq}
use Rattle.sled_model.specs.Collections.{Content}
use Rattle.sled_model.specs.Maps.{Maps}

-- the maps of these collections by name
abbrev pub maps_from : List Content → Maps
maps_from [] name = None
maps_from (c ∷ cs) name = if bytes_eq name c.1 then Some c.2 else maps_from cs name
