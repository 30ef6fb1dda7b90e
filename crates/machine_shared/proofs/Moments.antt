-- The maps at each moment, as a history grows.
use Rattle.std.proofs.Common.{◌≡◌, ◌≤◌, ℕ, zero, suc, List, [], ◌∷◌, ◌++◌, length, Some, refl, arith}
use Rattle.std.specs.Prelude.{slice_get}
use Rattle.sled_model.specs.Maps.{Maps}
use Rattle.machine_shared.specs.History.{makes_as}
use Rattle.machine_shared.specs.Made.{EntryValue}
use Rattle.machine_shared.specs.Moments.{AreMoments, LastMoment, OneMoment, AtOneMoment}

-- the maps at the moments so far stay
abbrev pub GoesOn : List Maps → List Maps → Type 0
GoesOn before after = (i : ℕ) (m : Maps) → slice_get before i ≡ Some m → slice_get after i ≡ Some m

pub more_goes_on : (before more : List Maps) → GoesOn before (before ++ more)
more_goes_on [] more i m e = cc
more_goes_on (x ∷ xs) more zero m e = e
more_goes_on (x ∷ xs) more (suc i) m e = more_goes_on xs more i m e

pub moments_more : {a m b : Maps} {es : List EntryValue} {moments : List Maps} → AreMoments a es m moments → (e : EntryValue) → makes_as m e.made b → AreMoments a (es ++ e ∷ []) b (moments ++ b ∷ [])
moments_more LastMoment e made = OneMoment made LastMoment
moments_more (OneMoment one rest) e made = OneMoment one (moments_more rest e made)

-- the last of them are those after the last entry
pub last_there : {a b : Maps} {es : List EntryValue} {moments : List Maps} → AreMoments a es b moments → slice_get moments (length es) ≡ Some b
last_there LastMoment = refl
last_there (OneMoment one rest) = last_there rest

-- what was so at some moment stays so
pub still_at : {before after : List Maps} {from to later : ℕ} {is : Maps → Type 0} → GoesOn before after → to ≤ later → AtOneMoment before from to is → AtOneMoment after from later is
still_at g l h = record { at = h.at; behind = h.behind; before = omega (arith, l, h.before); maps = h.maps; there = g h.at h.maps h.there; so = h.so }
