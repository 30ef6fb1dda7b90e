-- The slot of a page that a link changes.
use Rattle.std.specs.Prelude.{◌≡◌, ℕ, nat_eq, Option, Some, None, Result, Ok, Err, if◌then◌else◌}
use Rattle.std.specs.BTreeMap.{BTreeMap, get}
use Rattle.std.specs.Ordering.{nat_cmp}
use Rattle.sled_store.specs.Update.{put_at}
use Rattle.sled_nodes.specs.declared.link.Link.{Link}
use Rattle.sled_pages.specs.Joined.{joined}
use Rattle.sled_pages.specs.declared.memory.slots.Slot.{Slot}
use Rattle.sled_pages.specs.declared.memory.undo.Undo.{Undo}
use Rattle.sled_pages.specs.declared.memory.undo.Undo.TheVariants.{UndoLink, UndoFold}
use Rattle.sled_pages.specs.Parts.{Parts, is_full, linked}

-- a link goes out again, and a fold puts back what was there
abbrev pub undo_of : ℕ → ℕ → Parts → Undo
undo_of pid before page = if is_full page then UndoFold pid before page else UndoLink pid before

-- how a link of a page at this version is taken back, or else which version the slot has
abbrev pub link_answer : ℕ → ℕ → Option Slot → Result Undo (Option ℕ)
link_answer pid version None = Err None
link_answer pid version (Some s) = if nat_eq s.version version then Ok (undo_of pid s.version s.page) else Err (Some s.version)

-- the slot of a number of an image
abbrev pub lies_at : BTreeMap ℕ (Option Slot) → ℕ → Option Slot
lies_at foreign p = joined (get nat_cmp foreign p)

-- the page of a slot changed by a link, and how that is taken back
pub record Relinked (link : Link) (pid version next : ℕ) (old new : ℕ → Option Slot) (undo : Undo) : Type 0 where
  pub page : Parts
  pub was : old pid ≡ Some (record { version = version; page = page })
  pub is : new ≡ put_at old pid (Some (record { version = next; page = linked link page }))
  pub told : undo ≡ undo_of pid version page
