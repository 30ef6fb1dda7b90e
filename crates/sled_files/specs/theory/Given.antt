-- What holds of every store in two files.
use Rattle.std.specs.Prelude.{◌≡◌, false}
use Rattle.sled_store.specs.Store.{AreGiven}
use Rattle.sled_pages.specs.theory.Laws.{law_given}
use Rattle.sled_files.specs.Stored.{Stored, stored_as}

-- each page has a number and a version that were given
pub given_over : {D : Type 0} (f : Stored D) → AreGiven (stored_as f)
given_over f = let g = law_given f.pages in record { pid = g.pid; version = g.version; numbered = g.numbered }

-- no group was open at the last flush
pub sealed_over : {D : Type 0} (f : Stored D) → (stored_as f).base.in_group ≡ false
sealed_over f = f.pages.kept.sealed
