-- Which places have no slot, and what holds of a store in the making.
use Rattle.std.specs.Prelude.{◌≡◌, ◌≤◌, ℕ, true, List, Option, None}
use Rattle.std.specs.FinMap.Entries.{is_sorted}
use Rattle.sled_nodes.specs.Order.{Key, key_cmp}
use Rattle.sled_pages.specs.declared.memory.slots.Slot.{Slot}
use Rattle.sled_pages.specs.Table.{slot_given}

-- no page is at a place whose number was not given
pub record IsUnused (given : ℕ) (own : ℕ → Option Slot) : Type 0 where
  pub none : (i : ℕ) → given ≤ i → own i ≡ None

-- no slot is behind that of the last number, all versions are below the next one, and the roots are in order
pub record IsBuilding (own : ℕ → Option Slot) (roots : List (Key × ℕ)) (last next : ℕ) : Type 0 where
  pub unused : IsUnused last own
  pub below : (i : ℕ) → slot_given next (own i) ≡ true
  pub ascends : is_sorted key_cmp roots ≡ true
