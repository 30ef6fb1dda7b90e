-- The same, by place.
use Rattle.std.specs.Prelude.{◌≡◌, ◌<◌, ℕ, Bool, List, length, Option, None, MatchOption}
use Rattle.std.specs.List.{slice_get}
use Rattle.sled_nodes.specs.Among.{IsFirst, IsLast}

-- at this place is the first that passes
pub record IsFirstAt {X : Type 0} (passes : X → Bool) (xs : List X) (i : ℕ) : Type 0 where
  pub x : X
  pub first : IsFirst passes xs x
  pub place : length first.before ≡ i

-- at this place is the last that passes
pub record IsLastAt {X : Type 0} (passes : X → Bool) (xs : List X) (i : ℕ) : Type 0 where
  pub x : X
  pub last : IsLast passes xs x
  pub place : length last.before ≡ i

-- at the place that was found is the one that is wanted, or none was found
abbrev pub IsPlaceOf : {X : Type 0} → Option X → List X → Option ℕ → Type 0
IsPlaceOf wanted xs found = MatchOption found (wanted ≡ None) (λ i. (i < length xs) × (slice_get xs i ≡ wanted))
