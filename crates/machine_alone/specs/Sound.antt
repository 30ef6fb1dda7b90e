-- What holds of a machine between two steps.
use Rattle.std.specs.Prelude.{◌≡◌, ◌≢◌, ℕ, ◌≤◌, List, Some}
use Rattle.tree_laws.specs.Snapshot.{Snapshot}
use Rattle.sled_tree.specs.declared.flight.InFlight.{InFlight}
use Rattle.sled_tree.specs.Known.{IsKnown, AreApart}
use Rattle.machine_alone.specs.Values.{kept_at}

-- no call is in a slot past the last that was given, so the next one that is given has none
abbrev pub AreSlotsGiven : List (ℕ × InFlight) → ℕ → Type 0
AreSlotsGiven flights slots_given = (i : ℕ) (f : InFlight) → kept_at flights i ≡ Some f → i ≤ slots_given

-- No slot is past the last that was given, what each call knows of the pages is true, and no page is two calls' own
pub record IsMachine (m : Snapshot) (flights : List (ℕ × InFlight)) (slots_given : ℕ) : Type 0 where
  pub given : AreSlotsGiven flights slots_given
  pub known : (i : ℕ) (f : InFlight) → kept_at flights i ≡ Some f → IsKnown m f
  pub apart : (i k : ℕ) (f g : InFlight) → kept_at flights i ≡ Some f → kept_at flights k ≡ Some g → i ≢ k → AreApart f g
