-- The header of a file of a store: what the first payload of its log begins with.
use Rattle.std.specs.Prelude.{ℕ, List, [], ◌∷◌, ◌++◌}
use Rattle.std.specs.Int.{w32, w64, to_le_bytes}

-- "donnavek"
abbrev pub magic : List ℕ
magic = 100 ∷ 111 ∷ 110 ∷ 110 ∷ 97 ∷ 118 ∷ 101 ∷ 107 ∷ []

abbrev pub format : ℕ
format = 1

-- Eight bytes that say whose file it is, four of the format, and eight of the generation: of two files the one of the greater
-- generation counts
unfoldable pub header : ℕ → List ℕ
header generation = magic ++ to_le_bytes w32 format ++ to_le_bytes w64 generation
