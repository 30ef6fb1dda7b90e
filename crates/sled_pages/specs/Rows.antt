-- Slots by place, as they are stored in a list of blocks.
use Rattle.std.specs.Prelude.{ℕ, ◌/◌, ◌%◌, nat_lt, Bool, List, [], length, Option, Some, None, slice_get}
use Rattle.std.specs.Global.{Vec}
use Rattle.sled_pages.specs.Joined.{joined}
use Rattle.sled_pages.specs.declared.memory.slots.Slot.{Slot}

-- the places of a block; one that is not there has none
abbrev pub row_of : Option (Vec (Option Slot)) → List (Option Slot)
row_of None = []
row_of (Some block) = block.items

abbrev pub rows_of : List (Vec (Option Slot)) → ℕ → List (Option Slot)
rows_of blocks b = row_of (slice_get blocks b)

-- the slot at a place, and whether there is the place
abbrev pub lies_in : (ℕ → List (Option Slot)) → ℕ → Option Slot
lies_in rows i = joined (slice_get (rows (i / 64)) (i % 64))

abbrev pub has_in : (ℕ → List (Option Slot)) → ℕ → Bool
has_in rows i = nat_lt (i % 64) (length (rows (i / 64)))
