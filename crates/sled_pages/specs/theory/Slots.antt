-- Of Slots, for proofs. Slots by number, as they are stored.
use Rattle.std.specs.Prelude.{◌≡◌, ◌+◌, ◌^◌, ◌<◌, true}
use Rattle.sled_pages.specs.declared.memory.slots.Slots.{Slots}
use Rattle.sled_pages.specs.Blocks.{has_of}

-- a number is left for one slot more
abbrev pub HasNumber : Slots → Type 0
HasNumber s = s.last + s.given + 1 < 2 ^ 64

-- there is room for one slot more
pub record HasSlotRoom (s : Slots) : Type 0 where
  pub room : has_of s.own s.given ≡ true
