-- The numbers by which a test chooses.
use Rattle.std.specs.Prelude.{ℕ, ◌+◌, ◌%◌, List, [], ◌∷◌, drop}
use Rattle.sled_disk.specs.declared.choices.Choices.{Choices}

-- the numbers that have not chosen yet
abbrev pub left_of : Choices → List ℕ
left_of choices = drop choices.used choices.numbers.items

-- a number up to this one, by the first of the numbers
abbrev pub chosen_of : ℕ → List ℕ → ℕ
chosen_of most [] = 0
chosen_of most (number ∷ rest) = number % (most + 1)
