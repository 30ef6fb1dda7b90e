-- The laws of the clock of a file.
use Rattle.std.specs.Prelude.{ℕ, ◌≤◌, List, [], ◌∷◌, length}
use Rattle.std.proofs.Common.{inl, inr, arith}
use Rattle.sled_host.specs.Event.{Event}
use Rattle.sled_host.specs.Outcomes.{MayLeave, LeftSince}

-- this moment is one of those since an earlier one
pub counts_now : (events : List Event) (t : ℕ) (c : List ℕ) → t ≤ length events → MayLeave events c → LeftSince events t c
counts_now [] t c le left = (le, left)
counts_now (event ∷ earlier) t c le left = inl (omega (arith, le), left)

-- since a later moment there was none
none_later : (events : List Event) (t : ℕ) (c : List ℕ) → LeftSince events t c → t ≤ length events
none_later [] t c left = left.0
none_later (event ∷ earlier) t c (inl now) = omega (arith, now.0)
none_later (event ∷ earlier) t c (inr before) = omega (arith, none_later earlier t c before)

-- since this moment there is no other
pub only_now : (events : List Event) (c : List ℕ) → LeftSince events (length events) c → MayLeave events c
only_now [] c left = left.1
only_now (event ∷ earlier) c (inl now) = now.1
only_now (event ∷ earlier) c (inr before) = absurd (omega (arith, none_later earlier (length (event ∷ earlier)) c before))
