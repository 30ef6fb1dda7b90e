-- Writes of several keys, one a key.
use Rattle.std.specs.Prelude.{◌≡◌, true, List, Option}
use Rattle.std.specs.FinMap.Entries.{is_sorted}
use Rattle.sled_nodes.specs.Order.{Key, key_cmp}

-- each key with what it is to have: a value, or none
abbrev pub Writes : Type 0
Writes = List (Key × Option Key)

-- the keys rise, so that no key is twice
abbrev pub Rises : Writes → Type 0
Rises writes = is_sorted key_cmp writes ≡ true
