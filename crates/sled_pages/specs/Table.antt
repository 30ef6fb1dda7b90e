-- A store in memory as slots by number, and what its log of undone work says: the state before it, and the actions in it.
use Rattle.std.specs.Prelude.{◌≡◌, ℕ, true, false, nat_lt, Bool, List, [], ◌∷◌, ◌++◌, Option, Some, None, option_map, if◌then◌else◌}
use Rattle.std.specs.List.{list_all}
use mathlib.Core.List.{reverse}
use Rattle.sled_nodes.specs.Order.{Key}
use Rattle.sled_store.specs.Update.{put_at, put_name}
use Rattle.sled_store.specs.declared.page.Page.{Page}
use Rattle.sled_pages.specs.declared.memory.slots.Slot.{Slot}
use Rattle.sled_pages.specs.declared.memory.undo.Undo.{Undo}
use Rattle.sled_pages.specs.declared.memory.undo.Undo.TheVariants.{UndoSlot, UndoLink, UndoFold, UndoRoot, UndoGroup}
use Rattle.sled_pages.specs.Parts.{node_of, unlinked}
use Rattle.sled_store.specs.State.{State, Action, PageBecomes, RootBecomes, GroupBegins, GroupEnds}

-- the page that a slot stands for
abbrev pub page_of : Slot → Page
page_of s = record { version = s.version; node = node_of s.page }

-- the slot without its last link, at this version
abbrev pub slot_unlinked : ℕ → Option Slot → Option Slot
slot_unlinked version None = None
slot_unlinked version (Some s) = Some (record { version = version; page = unlinked s.page })

-- the slots by number, the roots by name, and whether a group is open
pub record Table : Type 0 where
  pub slots : ℕ → Option Slot
  pub roots : Key → Option ℕ
  pub in_group : Bool

-- the pages that the slots stand for
abbrev pub pages_of : (ℕ → Option Slot) → ℕ → Option Page
pages_of slots p = option_map page_of (slots p)

abbrev pub state_of : Table → State
state_of t = record { pages = pages_of t.slots; roots = t.roots; in_group = t.in_group }

-- the table without the last action
abbrev pub undone : Undo → Table → Table
undone (UndoSlot pid slot) t = record t { slots = put_at t.slots pid slot }
undone (UndoLink pid version) t = record t { slots = put_at t.slots pid (slot_unlinked version (t.slots pid)) }
undone (UndoFold pid version page) t = record t { slots = put_at t.slots pid (Some (record { version = version; page = page })) }
undone (UndoRoot name root) t = record t { roots = put_name t.roots name root }
undone (UndoGroup was_open) t = record t { in_group = was_open }

-- the last action, by what it left
abbrev pub undoes : Undo → Table → Action
undoes (UndoSlot pid slot) t = PageBecomes pid (pages_of t.slots pid)
undoes (UndoLink pid version) t = PageBecomes pid (pages_of t.slots pid)
undoes (UndoFold pid version page) t = PageBecomes pid (pages_of t.slots pid)
undoes (UndoRoot name root) t = RootBecomes name (t.roots name)
undoes (UndoGroup was_open) t = if t.in_group then GroupBegins else GroupEnds

-- the table before all of them, the last of them first
abbrev pub base_of : List Undo → Table → Table
base_of [] t = t
base_of (u ∷ log) t = base_of log (undone u t)

-- the actions, the first of them first
abbrev pub recent_of : List Undo → Table → List Action
recent_of [] t = []
recent_of (u ∷ log) t = recent_of log (undone u t) ++ undoes u t ∷ []

-- a slot that is put back has a place
abbrev pub has_place : (ℕ → Bool) → Undo → Bool
has_place places (UndoSlot pid slot) = places pid
has_place places (UndoLink pid version) = places pid
has_place places (UndoFold pid version page) = places pid
has_place places (UndoRoot name root) = true
has_place places (UndoGroup was_open) = true

-- all can be undone, and then no group is open
pub record IsKept (places : ℕ → Bool) (t : Table) (log : List Undo) : Type 0 where
  pub placed : list_all (has_place places) log ≡ true
  pub sealed : (base_of (reverse log) t).in_group ≡ false

-- its version is below the next one
abbrev pub slot_given : ℕ → Option Slot → Bool
slot_given next None = true
slot_given next (Some s) = nat_lt s.version next

abbrev pub undo_given : ℕ → Undo → Bool
undo_given next (UndoSlot pid slot) = slot_given next slot
undo_given next (UndoLink pid version) = nat_lt version next
undo_given next (UndoFold pid version page) = nat_lt version next
undo_given next (UndoRoot name root) = true
undo_given next (UndoGroup was_open) = true

-- every version that is in use is below the next one
pub record AreBelow (next : ℕ) (slots : ℕ → Option Slot) (log : List Undo) : Type 0 where
  pub here : (p : ℕ) → slot_given next (slots p) ≡ true
  pub in_log : list_all (undo_given next) log ≡ true
