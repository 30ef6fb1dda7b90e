-- What a search finds if the keys rise.
use Rattle.std.specs.Prelude.{◌≡◌, ℕ, ◌+◌, ◌<◌, ◌≤◌, Bool, List, length, filter, slice_index_or, Option, Some, None}
use Rattle.std.specs.List.{AllWithin, remove}
use Rattle.std.specs.declared.cmp.Ordering.{Ordering}
use Rattle.std.specs.declared.cmp.Ordering.TheVariants.{Less, Equal, Greater}

-- the key is at place i, and nowhere else
pub record IsHit {K X : Type 0} (R : K → K → Ordering) (k : K) (es : List (K × X)) (i : ℕ) : Type 0 where
  pub in_range : i < length es
  pub before : AllWithin (λ e. R k e.0 ≡ Greater) es 0 i
  pub here : (d : K × X) → R k (slice_index_or es i d).0 ≡ Equal
  pub after : AllWithin (λ e. R k e.0 ≡ Less) es (i + 1) (length es)

-- the key is nowhere, and the lesser ones are before place i
pub record IsGap {K X : Type 0} (R : K → K → Ordering) (k : K) (es : List (K × X)) (i : ℕ) : Type 0 where
  pub in_range : i ≤ length es
  pub before : AllWithin (λ e. R k e.0 ≡ Greater) es 0 i
  pub after : AllWithin (λ e. R k e.0 ≡ Less) es i (length es)

-- what does not pass is nowhere, or at this place alone
abbrev pub IsOut : {X : Type 0} → (X → Bool) → List X → Option ℕ → Type 0
IsOut keeps xs None = filter keeps xs ≡ xs
IsOut keeps xs (Some i) = (i < length xs) × (filter keeps xs ≡ remove xs i)
