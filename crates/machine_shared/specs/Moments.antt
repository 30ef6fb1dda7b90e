-- The maps at each moment of a history.
use Rattle.std.specs.Prelude.{◌≡◌, ◌≤◌, ℕ, List, [], ◌∷◌, Some, slice_get}
use Rattle.sled_model.specs.Maps.{Maps}
use Rattle.machine_shared.specs.History.{makes_as}
use Rattle.machine_shared.specs.Made.{EntryValue}

-- From the first maps on each entry is what its call makes there, to the last ones, and these are the maps at each moment: before the first
-- entry, and after each
pub data AreMoments : Maps → List EntryValue → Maps → List Maps → Type 0 where
  LastMoment : {m : Maps} → AreMoments m [] m (m ∷ [])
  OneMoment : {a m b : Maps} {e : EntryValue} {es : List EntryValue} {moments : List Maps} → makes_as a e.made m → AreMoments m es b moments → AreMoments a (e ∷ es) b (a ∷ moments)

-- it is so at some moment, from the one length of the history to the other
pub record AtOneMoment (moments : List Maps) (from to : ℕ) (is : Maps → Type 0) : Type 0 where
  pub at : ℕ
  pub behind : from ≤ at
  pub before : at ≤ to
  pub maps : Maps
  pub there : slice_get moments at ≡ Some maps
  pub so : is maps

-- .. and at each of these moments
abbrev pub AtEachMoment : List Maps → ℕ → ℕ → (Maps → Type 0) → Type 0
AtEachMoment moments from to is = (at : ℕ) (maps : Maps) → from ≤ at → at ≤ to → slice_get moments at ≡ Some maps → is maps
