-- The order in which pairs are read.
use Rattle.std.specs.Prelude.{Bool, List, reverse, if◌then◌else◌}
use Rattle.sled_nodes.specs.Order.{Key}

-- from the least key up or, back, from the greatest down
abbrev pub in_order : Bool → List (Key × Key) → List (Key × Key)
in_order back pairs = if back then reverse pairs else pairs
