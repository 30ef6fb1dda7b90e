-- Slots by place, as they are stored in blocks.
use Rattle.std.specs.Prelude.{ℕ, Bool, Option}
use Rattle.sled_pages.specs.declared.memory.slots.Slot.{Slot}
use Rattle.sled_pages.specs.declared.memory.blocks.Blocks.{Blocks}
use Rattle.sled_pages.specs.Rows.{rows_of, lies_in, has_in}

-- the slot at a place
abbrev pub lies_of : Blocks → ℕ → Option Slot
lies_of b = lies_in (rows_of b.blocks.items)

-- whether there is the place
abbrev pub has_of : Blocks → ℕ → Bool
has_of b = has_in (rows_of b.blocks.items)
