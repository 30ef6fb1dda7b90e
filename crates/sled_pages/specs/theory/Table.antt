-- Of Table, for proofs. A store in memory as slots by number, and what its log of undone work says: the state before it, and the actions in it.
use Rattle.std.specs.Prelude.{◌≡◌, ℕ, ◌<◌, ◌≤◌, true, false, Bool, List, length, take, nat_eq, Option, Some, None, if◌then◌else◌}
use mathlib.Core.List.{reverse}
use Rattle.sled_nodes.specs.Order.{Key}
use Rattle.sled_nodes.specs.declared.link.Link.{Link}
use Rattle.sled_nodes.specs.Node.{after_link}
use Rattle.sled_pages.specs.Parts.{alone, linked, node_of}
use Rattle.sled_pages.specs.declared.memory.slots.Slot.{Slot}
use Rattle.sled_pages.specs.declared.memory.undo.Undo.{Undo}
use Rattle.sled_store.specs.State.{State, after_all}
use Rattle.sled_pages.specs.Table.{Table, state_of, base_of, recent_of}

-- the slot after a link at the next version, if it has this one
abbrev pub slot_linked : Link → ℕ → ℕ → Option Slot → Option Slot
slot_linked link version next None = None
slot_linked link version next (Some s) = if nat_eq s.version version then Some (record { version = next; page = linked link s.page }) else Some s

-- the slot after a link, at this version, without a link
abbrev pub slot_settled : Link → ℕ → Option Slot → Option Slot
slot_settled link version None = None
slot_settled link version (Some s) = Some (record { version = version; page = alone (after_link link (node_of s.page)) })

abbrev pub table : (ℕ → Option Slot) → (Key → Option ℕ) → Bool → Table
table slots roots in_group = record { slots = slots; roots = roots; in_group = in_group }

-- the state after the first j actions of a log
abbrev pub state_at : ℕ → List Undo → Table → State
state_at j log t = after_all (take j (recent_of (reverse log) t)) (state_of (base_of (reverse log) t))

-- actions were taken back, none of which ends outside a group and within this number
pub record TakesBack (keep : ℕ) (old : Table) (old_log : List Undo) (new : Table) (new_log : List Undo) : Type 0 where
  pub base : base_of (reverse new_log) new ≡ base_of (reverse old_log) old
  pub recent : recent_of (reverse new_log) new ≡ take (length new_log) (recent_of (reverse old_log) old)
  pub no_longer : length new_log ≤ length old_log
  pub most : (j : ℕ) → length new_log < j → j ≤ keep → j ≤ length old_log → (state_at j old_log old).in_group ≡ true

-- the same, at least down to this number, and no group is open
pub record TakenBack (keep : ℕ) (old : Table) (old_log : List Undo) (new : Table) (new_log : List Undo) : Type 0 where
  pub back : TakesBack keep old old_log new new_log
  pub at_most : length new_log ≤ keep
  pub sealed : new.in_group ≡ false
