-- The spelling of a reading keeps the order and is one to one, since keys of one shape are.
use Rattle.std.proofs.Common.{◌≡◌, List, [], ◌∷◌, ◌++◌, ap}
use Rattle.sled_nodes.specs.Order.{key_cmp}
use Rattle.ordered_keys.specs.Keys.{HasShape, spelled, parts_cmp}
use Rattle.ordered_keys.specs.declared.part.Kind.{Kind}
use Rattle.ordered_keys.specs.declared.part.Kind.TheVariants as kind
use Rattle.ordered_keys.specs.declared.part.Part.{Part}
use Rattle.ordered_keys.specs.declared.part.Part.TheVariants.{Number, Text}
use Rattle.ordered_keys.proofs.Order.{keeps_order}
use Rattle.ordered_keys.proofs.Apart.{one_to_one}
use Rattle.example_databases.specs.declared.typed.Reading.{Reading}

abbrev parts_of : Reading → List Part
parts_of r = Text r.station ∷ Number r.hour ∷ []

-- the reading of these parts
abbrev reading_of : List Part → Reading
reading_of (Text station ∷ Number hour ∷ rest) = record { station = station; hour = hour }
reading_of _ = record { station = []; hour = 0 }

abbrev shape : List Kind
shape = kind.Text ∷ kind.Number ∷ []

pub reading_order : (a b : Reading) → HasShape shape (parts_of a) → HasShape shape (parts_of b) → key_cmp (spelled (parts_of a)) (spelled (parts_of b)) ≡ parts_cmp (parts_of a) (parts_of b)
reading_order a b i j = keeps_order shape (parts_of a) (parts_of b) ([], i) ([], j)

pub reading_apart : (a b : Reading) → HasShape shape (parts_of a) → HasShape shape (parts_of b) → spelled (parts_of a) ≡ spelled (parts_of b) → a ≡ b
reading_apart a b i j e = ap reading_of (one_to_one shape (parts_of a) (parts_of b) [] [] i j (ap (λ k. k ++ []) e)).0
