-- The pages of an image, as they are laid down.
use Rattle.std.specs.Prelude.{◌≡◌, ℕ, ◌≤◌, true, List, option_map}
use Rattle.sled_nodes.specs.declared.node.Node.{Node}
use Rattle.sled_pages.specs.declared.memory.slots.Slot.{Slot}
use Rattle.sled_pages.specs.declared.memory.slots.Slots.{Slots}
use Rattle.sled_pages.specs.Slots.{slots_of, given_of}
use Rattle.sled_pages.specs.Parts.{node_of, alone}
use Rattle.sled_pages.specs.Table.{slot_given}
use Rattle.sled_nodes.specs.Image.{node_in, all_numbers}

-- the slots have the image's pages at versions below the next one, and all numbers up to `least` and of the image count as given
pub record IsLaid (image : List (ℕ × Node)) (least : ℕ) (s : Slots) (next : ℕ) : Type 0 where
  pub nodes : (p : ℕ) → option_map (λ (x : Slot). node_of x.page) (slots_of s p) ≡ node_in image p
  pub parts : (p : ℕ) → option_map (λ (x : Slot). x.page) (slots_of s p) ≡ option_map alone (node_in image p)
  pub given : all_numbers (given_of s) image ≡ true
  pub least_given : (p : ℕ) → p ≤ least → given_of s p ≡ true
  pub below : (p : ℕ) → slot_given next (slots_of s p) ≡ true
