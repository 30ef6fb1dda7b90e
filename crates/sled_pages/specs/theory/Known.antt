-- The pages of an image.
use Rattle.std.specs.Prelude.{◌≡◌, true, ℕ, Bool, is_some, Option}
use Rattle.std.specs.Ordering.{nat_cmp}
use Rattle.std.specs.BTreeMap.{BTreeMap, get}
use Rattle.sled_pages.specs.declared.memory.slots.Slot.{Slot}

-- a page of an image is there only in a store that is made from one
pub record IsKnown (from_image : Bool) (foreign : BTreeMap ℕ (Option Slot)) : Type 0 where
  pub known : (p : ℕ) → is_some (get nat_cmp foreign p) ≡ true → from_image ≡ true
