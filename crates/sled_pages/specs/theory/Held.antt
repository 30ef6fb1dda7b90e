-- The pages of an image by number, as far as they are laid down.
use Rattle.std.specs.Prelude.{◌≡◌, ℕ, ◌<◌, ◌≤◌, ◌^◌, true, nat_le, length, List, Option, None, option_map}
use Rattle.std.specs.Ordering.{nat_cmp}
use Rattle.std.specs.BTreeMap.{BTreeMap, get}
use Rattle.sled_nodes.specs.declared.node.Node.{Node}
use Rattle.sled_pages.specs.declared.memory.slots.Slot.{Slot}
use Rattle.sled_pages.specs.Joined.{joined}
use Rattle.sled_pages.specs.Parts.{node_of, alone}
use Rattle.sled_pages.specs.Table.{slot_given}
use Rattle.sled_nodes.specs.Image.{node_in, all_numbers}

-- the map has the pages, at versions below the next one, and no number of the image is above the last one
pub record Holds (image : List (ℕ × Node)) (foreign : BTreeMap ℕ (Option Slot)) (least last next : ℕ) : Type 0 where
  pub nodes : (p : ℕ) → option_map (λ (x : Slot). node_of x.page) (joined (get nat_cmp foreign p)) ≡ node_in image p
  pub parts : (p : ℕ) → option_map (λ (x : Slot). x.page) (joined (get nat_cmp foreign p)) ≡ option_map alone (node_in image p)
  pub numbers : all_numbers (λ p. nat_le p last) image ≡ true
  pub bounded : (p : ℕ) → last < p → node_in image p ≡ None
  pub below : (p : ℕ) → slot_given next (joined (get nat_cmp foreign p)) ≡ true
  pub counted : next ≡ length image
  pub fits : last < 2 ^ 64
  pub least_is : least ≤ last
