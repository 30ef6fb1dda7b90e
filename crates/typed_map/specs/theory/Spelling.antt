-- The spelling of a number keeps the order and is one to one, since keys of one shape are.
use Rattle.std.proofs.Common.{◌≡◌, ℕ, List, [], ◌∷◌, ◌++◌, ap}
use Rattle.sled_nodes.specs.Order.{key_cmp}
use Rattle.ordered_keys.specs.Keys.{HasShape, spelled, parts_cmp}
use Rattle.ordered_keys.specs.declared.part.Kind.TheVariants as kind
use Rattle.ordered_keys.specs.declared.part.Part.{Part}
use Rattle.ordered_keys.specs.declared.part.Part.TheVariants.{Number}
use Rattle.ordered_keys.proofs.Order.{keeps_order}
use Rattle.ordered_keys.proofs.Apart.{one_to_one}

abbrev number_of : List Part → ℕ
number_of (Number n ∷ rest) = n
number_of _ = 0

pub number_order : (a b : ℕ) → HasShape (kind.Number ∷ []) (Number a ∷ []) → HasShape (kind.Number ∷ []) (Number b ∷ []) → key_cmp (spelled (Number a ∷ [])) (spelled (Number b ∷ [])) ≡ parts_cmp (Number a ∷ []) (Number b ∷ [])
number_order a b i j = keeps_order (kind.Number ∷ []) (Number a ∷ []) (Number b ∷ []) ([], i) ([], j)

pub number_apart : (a b : ℕ) → HasShape (kind.Number ∷ []) (Number a ∷ []) → HasShape (kind.Number ∷ []) (Number b ∷ []) → spelled (Number a ∷ []) ≡ spelled (Number b ∷ []) → a ≡ b
number_apart a b i j e = ap number_of (one_to_one (kind.Number ∷ []) (Number a ∷ []) (Number b ∷ []) [] [] i j (ap (λ k. k ++ []) e)).0
