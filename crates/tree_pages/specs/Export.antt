-- What an export gives.
use Rattle.std.specs.Prelude.{ℕ, List, map, unwrap_or, [], codes}
use Rattle.sled_nodes.specs.Order.{Key}
use Rattle.sled_model.specs.Maps.{Map, Maps}

-- a tree's collection: its type, its name, and its pairs
abbrev pub collection : Maps → Key → Key × Key × Map
collection maps name = (codes "tree", name, unwrap_or (maps name) [])

-- the collections of these trees, in their order
abbrev pub collections : Maps → List (Key × ℕ) → List (Key × Key × Map)
collections maps trees = map (λ t. collection maps t.0) trees
