-- Slots by number, as they are stored.
use Rattle.std.specs.Prelude.{ℕ, ◌-◌, nat_le, nat_lt, is_some, ◌&&◌, Bool, Option, if◌then◌else◌}
use Rattle.std.specs.Ordering.{nat_cmp}
use Rattle.std.specs.BTreeMap.{BTreeMap, get}
use Rattle.sled_pages.specs.Joined.{joined}
use Rattle.sled_pages.specs.Blocks.{lies_of, has_of}
use Rattle.sled_pages.specs.declared.memory.slots.Slot.{Slot}
use Rattle.sled_pages.specs.declared.memory.slots.Slots.{Slots}

-- a number up to the last one of the image is looked up there, a greater one by place
abbrev pub slot_in : ℕ → BTreeMap ℕ (Option Slot) → (ℕ → Option Slot) → ℕ → Option Slot
slot_in last foreign own p = if nat_le p last then joined (get nat_cmp foreign p) else own (p - last - 1)

-- the numbers that have a place
abbrev pub place_in : ℕ → BTreeMap ℕ (Option Slot) → (ℕ → Bool) → ℕ → Bool
place_in last foreign own p = if nat_le p last then is_some (get nat_cmp foreign p) else own (p - last - 1)

-- a place is that of a number once the number was given
abbrev pub own_places : ℕ → (ℕ → Bool) → ℕ → Bool
own_places given own i = nat_lt i given && own i

-- The numbers that were given. Of a store that is made from an image those are all up to the last number of the image
abbrev pub given_in : Bool → ℕ → ℕ → ℕ → Bool
given_in from_image last given p = if nat_le p last then from_image else nat_lt (p - last - 1) given

abbrev pub slots_of : Slots → ℕ → Option Slot
slots_of s = slot_in s.last s.foreign (lies_of s.own)

abbrev pub places_of : Slots → ℕ → Bool
places_of s = place_in s.last s.foreign (own_places s.given (has_of s.own))

abbrev pub given_of : Slots → ℕ → Bool
given_of s = given_in s.from_image s.last s.given
