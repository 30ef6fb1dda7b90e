-- The list of the merge operators.
use Rattle.std.specs.Prelude.{ℕ, suc, List, [], ◌∷◌, if◌then◌else◌}
use Rattle.std.specs.Ordering.{nat_cmp, eq_by_cmp}

-- the list in which the tree of this number has the operator: in the place of the one that it has, or at the end
abbrev pub with_operator : {M : Type 0} → ℕ → M → List (ℕ × M) → List (ℕ × M)
with_operator number operator [] = (number, operator) ∷ []
with_operator number operator (e ∷ es) = if eq_by_cmp nat_cmp number e.0 then ((number, operator) ∷ es) else (e ∷ with_operator number operator es)

-- the place of the tree of this number, or the end
abbrev pub place : {M : Type 0} → ℕ → List (ℕ × M) → ℕ
place number [] = 0
place number (e ∷ es) = if eq_by_cmp nat_cmp number e.0 then 0 else (suc (place number es))
