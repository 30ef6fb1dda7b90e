-- The maps of a database.
use Rattle.std.specs.Prelude.{◌≡◌, List, [], ◌∷◌, ◌++◌, Option, Some, None}
use Rattle.sled_nodes.specs.Order.{Key}

-- a map from byte strings to byte strings: its pairs, by ascending keys
abbrev pub Map : Type 0
Map = List (Key × Key)

-- the pair with the least key, and the pair with the greatest, if there is one
abbrev pub IsLeast : Map → Option (Key × Key) → Type 0
IsLeast map None = map ≡ []
IsLeast map (Some pair) = (rest : Map) × (map ≡ pair ∷ rest)

abbrev pub IsGreatest : Map → Option (Key × Key) → Type 0
IsGreatest map None = map ≡ []
IsGreatest map (Some pair) = (rest : Map) × (map ≡ rest ++ pair ∷ [])

-- the map of each name, if there is a tree of that name
abbrev pub Maps : Type 0
Maps = Key → Option Map

-- a merge operator: the new value of a key, from the value that it has and the new bytes
abbrev pub Merge : Type 0
Merge = Key → Option Key → Key → Option Key
