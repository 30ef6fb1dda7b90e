-- Entries within a bound, and the first and the last of them.
use Rattle.std.specs.Prelude.{◌≡◌, ℕ, Bool, true, false, not, nat_eq, length, List, [], ◌∷◌, ◌++◌, Option, MatchOption}
use Rattle.std.proofs.Common.{Bor}
use Rattle.std.specs.List.{list_any}
use Rattle.std.specs.Ordering.{is_gt, is_lt}
use Rattle.std.specs.declared.ops.Bound.{Bound}
use Rattle.std.specs.declared.ops.Bound.TheVariants.{Included, Excluded, Unbounded}
use Rattle.sled_nodes.specs.Order.{Key, key_cmp}

-- a bound, behind its reference
abbrev pub bound_of : Bound (Bor Key) → Bound Key
bound_of (Included b) = Included b.now
bound_of (Excluded b) = Excluded b.now
bound_of Unbounded = Unbounded

-- the key is within an upper bound
abbrev pub is_up_to : Bound Key → Key → Bool
is_up_to (Included b) k = not (is_gt (key_cmp k b))
is_up_to (Excluded b) k = is_lt (key_cmp k b)
is_up_to Unbounded k = true

-- the key is within a lower bound
abbrev pub is_from : Bound Key → Key → Bool
is_from (Included b) k = not (is_lt (key_cmp k b))
is_from (Excluded b) k = is_gt (key_cmp k b)
is_from Unbounded k = true

-- x is the first that passes
pub record IsFirst {X : Type 0} (passes : X → Bool) (xs : List X) (x : X) : Type 0 where
  pub before : List X
  pub after : List X
  pub is : xs ≡ before ++ x ∷ after
  pub passed : passes x ≡ true
  pub none : list_any passes before ≡ false

-- x is the last that passes
pub record IsLast {X : Type 0} (passes : X → Bool) (xs : List X) (x : X) : Type 0 where
  pub before : List X
  pub after : List X
  pub is : xs ≡ before ++ x ∷ after
  pub passed : passes x ≡ true
  pub none : list_any passes after ≡ false

-- the last pointer whose key is within the bound leads to c; and whether it is the first of all
pub record IsPointer (bound : Bound Key) (es : List (Key × ℕ)) (c : ℕ) (first : Bool) : Type 0 where
  pub key : Key
  pub last : IsLast (λ e. is_up_to bound e.0) es (key, c)
  pub is_first : first ≡ nat_eq (length last.before) 0

-- the first pair whose key is within a lower bound, or none is
abbrev pub IsSuccessor : Bound Key → List (Key × Key) → Option (Key × Key) → Type 0
IsSuccessor bound es found = MatchOption found (list_any (λ e. is_from bound e.0) es ≡ false) (IsFirst (λ e. is_from bound e.0) es)

-- the last pair whose key is within an upper bound, or none is
abbrev pub IsPredecessor : Bound Key → List (Key × Key) → Option (Key × Key) → Type 0
IsPredecessor bound es found = MatchOption found (list_any (λ e. is_up_to bound e.0) es ≡ false) (IsLast (λ e. is_up_to bound e.0) es)

-- the same of pointers
abbrev pub IsPointerFor : Bound Key → List (Key × ℕ) → Option (ℕ × Bool) → Type 0
IsPointerFor bound es found = MatchOption found (list_any (λ e. is_up_to bound e.0) es ≡ false) (λ c. IsPointer bound es c.0 c.1)

-- the pointer just before the first one to c leads to b
pub record IsBefore (c : ℕ) (es : List (Key × ℕ)) (b : ℕ) : Type 0 where
  pub front : List (Key × ℕ)
  pub low : Key
  pub key : Key
  pub after : List (Key × ℕ)
  pub is : es ≡ (front ++ (low, b) ∷ []) ++ (key, c) ∷ after
  pub none : list_any (λ e. nat_eq e.1 c) (front ++ (low, b) ∷ []) ≡ false

abbrev pub IsPointerBefore : ℕ → List (Key × ℕ) → Option ℕ → Type 0
IsPointerBefore c es found = MatchOption found ((b : ℕ) → IsBefore c es b → ⊥) (IsBefore c es)
