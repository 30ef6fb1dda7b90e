-- Collections, as an export gives them and an import takes them.
use Rattle.std.specs.Prelude.{ℕ, Bool, true, ◌&&◌, List, [], ◌∷◌, map, codes}
use Rattle.std.specs.Global.{Vec}
use Rattle.std.specs.Str.{bytes_eq}
use Rattle.sled_nodes.specs.Order.{Key}

-- what a collection holds: its type, its name, and its pairs
abbrev pub Content : Type 0
Content = Key × Key × List (Key × Key)

-- what these collections hold, in order
abbrev pub contents_of : List (Vec ℕ × Vec ℕ × Vec (Key × Key)) → List Content
contents_of collections = map (λ c. (c.0.items, c.1.items, c.2.items)) collections

-- every collection is of the type `tree`
abbrev pub are_trees : List Content → Bool
are_trees [] = true
are_trees (c ∷ cs) = bytes_eq c.0 (codes "tree") && are_trees cs
