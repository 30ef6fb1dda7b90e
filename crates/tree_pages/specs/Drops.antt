-- The pages of a tree that is dropped.
use Rattle.std.specs.Prelude.{◌≡◌, ℕ, List, ◌++◌}

-- these pages are the first ones of the chain, in its order
abbrev pub IsBeginning : List ℕ → List ℕ → Type 0
IsBeginning pages chain = (rest : List ℕ) × (chain ≡ pages ++ rest)
