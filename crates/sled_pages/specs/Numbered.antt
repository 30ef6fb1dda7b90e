-- Slots by number, of slots by place.
use Rattle.std.specs.Prelude.{ℕ, ◌-◌, nat_eq, Option, None, if◌then◌else◌}
use Rattle.sled_pages.specs.declared.memory.slots.Slot.{Slot}

-- numbers begin at 1
abbrev pub numbered : (ℕ → Option Slot) → ℕ → Option Slot
numbered own p = if nat_eq p 0 then None else own (p - 1)
