-- What a crash may leave of a database that is shared.
use Rattle.std.specs.Prelude.{◌≡◌, ℕ, List, [], ◌∷◌, ◌++◌}
use Rattle.sled_model.specs.Maps.{Maps}
use Rattle.machine_shared.specs.History.{makes_as}
use Rattle.machine_shared.specs.Made.{MadeValue, PointMade, WholeMade, PartsMade, ReadMade, TransactionMade, EntryValue}
use Rattle.machine_shared.specs.WholeMade.{makes_of}
use Rattle.machine_shared.specs.Wholes.{WholeValue, Flush}

-- The maps that a whole call led through: those after each of its parts, and of a call that is not done in parts those after it
abbrev pub whole_through : Maps → WholeValue → List Maps → Maps → Type 0
whole_through old whole through new = (makes_of whole).through old through new

-- .. and those that parts of a call led through which was refused after them
abbrev pub parts_through : Maps → WholeValue → ℕ → List Maps → Maps → Type 0
parts_through old whole number through new = (makes_of whole).parts_through old number through new

-- the maps that an entry led through
abbrev pub through_as : Maps → MadeValue → List Maps → Maps → Type 0
through_as old (PointMade tree call reply) through new = through ≡ new ∷ []
through_as old (WholeMade whole reply) through new = whole_through old whole through new
through_as old (PartsMade whole number) through new = parts_through old whole number through new
through_as old (ReadMade read) through new = through ≡ new ∷ []
through_as old (TransactionMade batches stood) through new = through ≡ new ∷ []

-- What a crash may leave after an entry, which might leave these before it: they go on by those that it led through. A flush leaves those
-- after it alone
abbrev pub left_by_whole : WholeValue → List Maps → List Maps → List Maps
left_by_whole Flush through left = through
left_by_whole whole through left = left ++ through

abbrev pub left_by : MadeValue → List Maps → List Maps → List Maps
left_by (PointMade tree call reply) through left = left ++ through
left_by (WholeMade whole reply) through left = left_by_whole whole through left
left_by (PartsMade whole number) through left = left ++ through
left_by (ReadMade read) through left = left ++ through
left_by (TransactionMade batches stood) through left = left ++ through

-- From the old maps on, of which a crash might leave the first list, each entry is what its call makes there, the maps after the last are
-- the new ones, and a crash may leave the second list
pub data LeadsThrough : Maps → List Maps → List EntryValue → Maps → List Maps → Type 0 where
  LeadsNoMore : {m : Maps} {left : List Maps} → LeadsThrough m left [] m left
  LeadsOneMore : {a m b : Maps} {left last : List Maps} {e : EntryValue} {es : List EntryValue} (through : List Maps) → makes_as a e.made m → through_as a e.made through m
      → LeadsThrough m (left_by e.made through left) es b last → LeadsThrough a left (e ∷ es) b last
