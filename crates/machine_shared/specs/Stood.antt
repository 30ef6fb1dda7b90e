-- What is at the keys of a group's writes.
use Rattle.std.specs.Prelude.{List, map, Option, Some, None}
use Rattle.std.specs.FinMap.Entries.{find}
use Rattle.sled_nodes.specs.Order.{Key, key_cmp}
use Rattle.sled_batch.specs.Batch.{Writes}
use Rattle.sled_model.specs.Groups.{Write, writes_of}
use Rattle.sled_model.specs.Maps.{Map, Maps}
use Rattle.sled_model.specs.declared.tree.Tree.{Tree}

-- the value at a key of a map, if there are the map and the key
abbrev pub found_in : Option Map → Key → Option Key
found_in None key = None
found_in (Some map) key = find key_cmp key map

-- what is in these maps at the key of a write
abbrev pub stands_at : Maps → Write → Option Key
stands_at maps w = found_in (maps w.tree.name) w.key

-- .. and at the key of each write of a group, before any is made, in their order
abbrev pub stood_in : Maps → List (Tree × Writes) → List (Option Key)
stood_in maps batches = map (stands_at maps) (writes_of batches)
