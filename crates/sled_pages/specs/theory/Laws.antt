-- What holds of every store in memory.
use Rattle.std.specs.Prelude.{◌≡◌, ℕ, Some, true, refl}
use mathlib.Core.List.{reverse}
use Rattle.sled_pages.specs.declared.memory.MemPages.{MemPages}
use Rattle.sled_store.specs.declared.page.Page.{Page}
use Rattle.sled_store.specs.Store.{AreGiven, now}
use Rattle.sled_pages.specs.Memory.{table_of, store_of}
use Rattle.sled_pages.specs.Rows.{rows_of}
use Rattle.sled_pages.specs.Blocks.{has_of}
use Rattle.sled_pages.specs.Slots.{places_of}
use Rattle.sled_pages.specs.theory.Replay.{page_placed, placed_given, version_below, place_fits}

placed : (m : MemPages) (p : ℕ) (page : Page) → (now (store_of m)).pages p ≡ Some page → places_of m.slots p ≡ true
placed m p page e = page_placed (table_of m) (reverse m.log.items) m.slots.last m.slots.foreign m.slots.given (rows_of m.slots.own.blocks.items) p page m.slots.unused refl e

-- each page has a number and a version that were given
pub law_given : (m : MemPages) → AreGiven (store_of m)
law_given m = record {
  pid = λ p page e. placed_given m.slots.from_image m.slots.last m.slots.foreign m.slots.given (has_of m.slots.own) p m.slots.known (placed m p page e);
  version = λ p page e. version_below (table_of m) (reverse m.log.items) m.next_version p page m.below.here e;
  numbered = λ p page e. place_fits m.slots.last m.slots.foreign m.slots.given (has_of m.slots.own) p m.slots.numbered (placed m p page e);
}
