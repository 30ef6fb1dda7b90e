-- Entries without what their keys begin with.
use Rattle.std.specs.Prelude.{◌≡◌, ℕ, length, slice_index_or, List, [], ◌++◌, Bool, false, Option, Some, None}
use Rattle.std.proofs.Common.{Bor}
use Rattle.std.specs.declared.ops.Bound.{Bound}
use Rattle.std.specs.declared.ops.Bound.TheVariants.{Included, Excluded, Unbounded}
use Rattle.sled_nodes.specs.Among.{bound_of, is_up_to, is_from}
use Rattle.sled_nodes.specs.Order.{Key}
use Rattle.sled_nodes.specs.Prefix.{prefix_of}
use Rattle.sled_nodes.specs.theory.Fronts.{front}

-- within a bound of rests; if there is none, none is
abbrev pub is_up_to_in : Option (Bound (Bor Key)) → Key → Bool
is_up_to_in None k = false
is_up_to_in (Some bound) k = is_up_to (bound_of bound) k

abbrev pub is_from_in : Option (Bound (Bor Key)) → Key → Bool
is_from_in None k = false
is_from_in (Some bound) k = is_from (bound_of bound) k

-- a bound of rests has the rest of a bound's key
abbrev pub IsRestBound : Key → Bound Key → Bound Key → Type 0
IsRestBound p bound (Included rest) = bound ≡ Included (p ++ rest)
IsRestBound p bound (Excluded rest) = bound ≡ Excluded (p ++ rest)
IsRestBound p bound Unbounded = Unit {0}

-- the front of the rest of a bound's key behind so many bytes
abbrev pub IsFrontBehind : ℕ → ℕ → Bound Key → Type 0
IsFrontBehind n count (Included k) = (p rest : Key) → length p ≡ count → k ≡ p ++ rest → n ≡ front rest
IsFrontBehind n count (Excluded k) = (p rest : Key) → length p ≡ count → k ≡ p ++ rest → n ≡ front rest
IsFrontBehind n count Unbounded = Unit {0}

-- the entry at a place
pub record IsEntry {X : Type 0} (es : List (Key × X)) (i : ℕ) (e : Key × X) : Type 0 where
  pub is : (d : Key × X) → slice_index_or es i d ≡ e

-- the rest of a key behind the prefix of entries
pub record IsRest {X : Type 0} (es : List (Key × X)) (k rest : Key) : Type 0 where
  pub some : es ≡ [] → ⊥
  pub is : k ≡ prefix_of es ++ rest
